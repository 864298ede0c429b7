use Rattle.std.proofs.Common.{refl}
use Rattle.rb_grammar.proofs.Following.{◌⟫◌, ◌⟫|◌}
use Rattle.rb_grammar.proofs.Steps.{taking, halting}
use Rattle.rb_grammar.proofs.Factoring.{splitting, packing}
use Rattle.v_parser.proofs.Firsts.{right}
use Rattle.v_parser.proofs.Blocks.{value_read}
use Rattle.v_parser.proofs.cursor.Parser.reset_value.Goals as goal

pub returns-in_err-to-clause-stops : goal.returns-in_err-to-clause-stops
returns-in_err-to-clause-stops c = λ h. splitting ⟫| halting right c.in_err-to.ensures.err refl

pub returns-in_err-_takes-clause-stops : goal.returns-in_err-_takes-clause-stops
returns-in_err-_takes-clause-stops c = λ h. splitting ⟫ taking right c.in_ok-to.ensures.ok refl ⟫| halting right c.in_err-_takes.ensures.err refl

pub returns-in_err-width-clause-stops : goal.returns-in_err-width-clause-stops
returns-in_err-width-clause-stops c = λ h. splitting ⟫ taking right c.in_ok-to.ensures.ok refl ⟫ taking right c.in_ok-_takes.ensures.ok refl ⟫| halting right c.in_err-width.ensures.err refl

pub returns-in_err-_end-clause-stops : goal.returns-in_err-_end-clause-stops
returns-in_err-_end-clause-stops c = λ h. splitting ⟫ taking right c.in_ok-to.ensures.ok refl ⟫ taking right c.in_ok-_takes.ensures.ok refl ⟫ taking right c.in_ok-width.ensures.ok.1 refl ⟫| halting right c.in_err-_end.ensures.err refl

pub returns-clause-tree : goal.returns-clause-tree
returns-clause-tree c = value_read c.in_ok-to.to.text.now c.in_ok-to.to.place.0 c.in_ok-width.width c.in_ok-width.value c.in_ok-to.ensures.ok c.in_ok-_takes.ensures.ok c.in_ok-width.ensures.ok c.in_ok-_end.ensures.ok refl refl

pub returns-clause-reads : goal.returns-clause-reads
returns-clause-reads c = splitting ⟫ taking right c.in_ok-to.ensures.ok refl ⟫ taking right c.in_ok-_takes.ensures.ok refl ⟫ taking right c.in_ok-width.ensures.ok.1 refl ⟫ taking right c.in_ok-_end.ensures.ok refl ⟫ packing 1
