use Rattle.std.proofs.Common.{refl}
use Rattle.rb_grammar.proofs.Following.{◌⟫◌, ◌⟫|◌}
use Rattle.rb_grammar.proofs.Steps.{taking, calling, halting}
use Rattle.rb_grammar.proofs.Factoring.{splitting, packing}
use Rattle.v_parser.proofs.Firsts.{right}
use Rattle.v_parser.proofs.Blocks.{test_read}
use Rattle.v_parser.proofs.cursor.Parser.reset_test.Goals as goal

pub returns-in_err-_if-clause-stops : goal.returns-in_err-_if-clause-stops
returns-in_err-_if-clause-stops c = λ h. splitting ⟫| halting right c.in_err-_if.ensures.err refl

pub returns-in_err-_open-clause-stops : goal.returns-in_err-_open-clause-stops
returns-in_err-_open-clause-stops c = λ h. splitting ⟫ taking right c.in_ok-_if.ensures.ok refl ⟫| halting right c.in_err-_open.ensures.err refl

pub returns-in_err-test-clause-stops : goal.returns-in_err-test-clause-stops
returns-in_err-test-clause-stops c = λ h. splitting ⟫ taking right c.in_ok-_if.ensures.ok refl ⟫ taking right c.in_ok-_open.ensures.ok refl ⟫ calling right c.negation-negated.ensures.reads refl ⟫| halting right c.in_err-test.ensures.err refl

pub returns-in_err-_close-clause-stops : goal.returns-in_err-_close-clause-stops
returns-in_err-_close-clause-stops c = λ h. splitting ⟫ taking right c.in_ok-_if.ensures.ok refl ⟫ taking right c.in_ok-_open.ensures.ok refl ⟫ calling right c.negation-negated.ensures.reads refl ⟫ taking right c.in_ok-test.ensures.ok refl ⟫| halting right c.in_err-_close.ensures.err refl

pub returns-clause-tree : goal.returns-clause-tree
returns-clause-tree c = test_read c.negation-negated.result c.in_ok-test.test.text.now c.in_ok-test.test.place.0 c.in_ok-_if.ensures.ok c.in_ok-_open.ensures.ok c.negation-negated.ensures.tree c.in_ok-test.ensures.ok c.in_ok-_close.ensures.ok refl refl refl

pub returns-clause-reads : goal.returns-clause-reads
returns-clause-reads c = splitting ⟫ taking right c.in_ok-_if.ensures.ok refl ⟫ taking right c.in_ok-_open.ensures.ok refl ⟫ calling right c.negation-negated.ensures.reads refl ⟫ taking right c.in_ok-test.ensures.ok refl ⟫ taking right c.in_ok-_close.ensures.ok refl ⟫ packing 1
