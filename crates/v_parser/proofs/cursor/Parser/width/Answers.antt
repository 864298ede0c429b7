use Rattle.std.proofs.Common.{refl}
use Rattle.rb_grammar.proofs.Following.{◌⟫◌, ◌⟫|◌}
use Rattle.rb_grammar.proofs.Steps.{taking, missing, halting}
use Rattle.v_parser.proofs.Firsts.{right}
use Rattle.v_parser.proofs.Walking.{opening_rule}
use Rattle.v_parser.proofs.Ranges.{range_read}
use Rattle.v_parser.proofs.cursor.Parser.width.Goals as goal

pub returns-in_default-clause-reads : goal.returns-in_default-clause-reads
returns-in_default-clause-reads c = missing right c.in_default.ensures refl

pub returns-in_err-high-clause-stops : goal.returns-in_err-high-clause-stops
returns-in_err-high-clause-stops c = λ h. opening_rule c.in-Some.ensures refl ⟫ taking right c.in-Some.ensures refl ⟫| halting right c.in_err-high.ensures.err refl

pub returns-in_err-_colon-clause-stops : goal.returns-in_err-_colon-clause-stops
returns-in_err-_colon-clause-stops c = λ h. opening_rule c.in-Some.ensures refl ⟫ taking right c.in-Some.ensures refl ⟫ taking right c.in_ok-high.ensures.ok.1 refl ⟫| halting right c.in_err-_colon.ensures.err refl

pub returns-in_err-zero-clause-stops : goal.returns-in_err-zero-clause-stops
returns-in_err-zero-clause-stops c = λ h. opening_rule c.in-Some.ensures refl ⟫ taking right c.in-Some.ensures refl ⟫ taking right c.in_ok-high.ensures.ok.1 refl ⟫ taking right c.in_ok-_colon.ensures.ok refl ⟫| halting right c.in_err-zero.ensures.err refl

pub returns-in_err-_close-clause-stops : goal.returns-in_err-_close-clause-stops
returns-in_err-_close-clause-stops c = λ h.
    opening_rule c.in-Some.ensures refl ⟫ taking right c.in-Some.ensures refl ⟫ taking right c.in_ok-high.ensures.ok.1 refl ⟫ taking right c.in_ok-_colon.ensures.ok refl ⟫ taking right c.in_ok-zero.ensures.ok.1 refl ⟫| halting right c.in_err-_close.ensures.err refl

pub returns-clause-tree : goal.returns-clause-tree
returns-clause-tree c = range_read c.in_ok-high.high c.in-Some.ensures c.in_ok-high.ensures.ok c.in_ok-_colon.ensures.ok c.in_ok-zero.ensures.ok c.in_ok-_close.ensures.ok refl refl refl

pub returns-clause-reads : goal.returns-clause-reads
returns-clause-reads c =
    opening_rule c.in-Some.ensures refl ⟫ taking right c.in-Some.ensures refl ⟫ taking right c.in_ok-high.ensures.ok.1 refl ⟫ taking right c.in_ok-_colon.ensures.ok refl ⟫ taking right c.in_ok-zero.ensures.ok.1 refl ⟫ taking right c.in_ok-_close.ensures.ok refl
