use Rattle.std.proofs.Common.{refl}
use Rattle.rb_grammar.proofs.Following.{◌⟫◌, ◌⟫|◌}
use Rattle.rb_grammar.proofs.Steps.{taking, missing, halting}
use Rattle.v_parser.proofs.Firsts.{right}
use Rattle.v_parser.proofs.Walking.{opening_rule}
use Rattle.v_parser.proofs.Terms.{select_whole, select_part, select_bit}
use Rattle.v_parser.proofs.cursor.Parser.select.Goals as goal

pub returns-in_default-clause-tree : goal.returns-in_default-clause-tree
returns-in_default-clause-tree c = select_whole c.args.name.now c.in_ok-text.field-0 c.in_ok-text.ensures c.in_default.ensures.list

pub returns-in_default-clause-reads : goal.returns-in_default-clause-reads
returns-in_default-clause-reads c = missing right c.in_default.ensures refl

pub returns-in_err-high-clause-stops : goal.returns-in_err-high-clause-stops
returns-in_err-high-clause-stops c = λ h.
    opening_rule c.in-Some.ensures refl ⟫ taking right c.in-Some.ensures refl ⟫| halting right c.in_err-high.ensures.err refl

pub returns-in_err-low-clause-stops : goal.returns-in_err-low-clause-stops
returns-in_err-low-clause-stops c = λ h.
    opening_rule c.in-Some.ensures refl ⟫ taking right c.in-Some.ensures refl ⟫ taking right c.in_ok-high.ensures.ok.1.1 refl ⟫ taking right c.in-Some-eat.ensures refl ⟫| halting right c.in_err-low.ensures.err refl

pub returns-in_err-_close-clause-stops : goal.returns-in_err-_close-clause-stops
returns-in_err-_close-clause-stops c = λ h.
    opening_rule c.in-Some.ensures refl ⟫ taking right c.in-Some.ensures refl ⟫ taking right c.in_ok-high.ensures.ok.1.1 refl ⟫ taking right c.in-Some-eat.ensures refl ⟫ taking right c.in_ok-low.ensures.ok.1.1 refl ⟫| halting right c.in_err-_close.ensures.err refl

pub returns-in-Some-eat-clause-tree : goal.returns-in-Some-eat-clause-tree
returns-in-Some-eat-clause-tree c = select_part c.args.name.now c.in_ok-text-2.field-0 c.in_ok-high.high c.in_ok-low.low c.in_ok-text-2.ensures c.in-Some.ensures c.in_ok-high.ensures.ok c.in-Some-eat.ensures c.in_ok-low.ensures.ok c.in_ok-_close.ensures.ok refl refl refl

pub returns-in-Some-eat-clause-reads : goal.returns-in-Some-eat-clause-reads
returns-in-Some-eat-clause-reads c =
    opening_rule c.in-Some.ensures refl ⟫ taking right c.in-Some.ensures refl ⟫ taking right c.in_ok-high.ensures.ok.1.1 refl ⟫ taking right c.in-Some-eat.ensures refl ⟫ taking right c.in_ok-low.ensures.ok.1.1 refl ⟫ taking right c.in_ok-_close.ensures.ok refl

pub returns-in_err-_close-2-clause-stops : goal.returns-in_err-_close-2-clause-stops
returns-in_err-_close-2-clause-stops c = λ h.
    opening_rule c.in-Some.ensures refl ⟫ taking right c.in-Some.ensures refl ⟫ taking right c.in_ok-high.ensures.ok.1.1 refl ⟫ missing right c.in_default-eat.ensures refl ⟫| halting right c.in_err-_close-2.ensures.err refl

pub returns-clause-tree : goal.returns-clause-tree
returns-clause-tree c = select_bit c.args.name.now c.in_ok-text-3.field-0 c.in_ok-high.high c.in_ok-text-3.ensures c.in-Some.ensures c.in_ok-high.ensures.ok c.in_default-eat.ensures.list c.in_ok-_close-2.ensures.ok refl refl

pub returns-clause-reads : goal.returns-clause-reads
returns-clause-reads c =
    opening_rule c.in-Some.ensures refl ⟫ taking right c.in-Some.ensures refl ⟫ taking right c.in_ok-high.ensures.ok.1.1 refl ⟫ missing right c.in_default-eat.ensures refl ⟫ taking right c.in_ok-_close-2.ensures.ok refl
