use Rattle.std.proofs.Common.{refl, ◌∙◌}
use Rattle.rb_grammar.proofs.Following.{◌⟫◌}
use Rattle.rb_grammar.proofs.Steps.{taking, missing}
use Rattle.rdl_tree.specs.Tree as tree
use Rattle.rdl_expressions.proofs.Firsts.{right}
use Rattle.rdl_expressions.proofs.parser.Parser.flag.Goals as goal

pub returns-in-Some : goal.returns-in-Some
returns-in-Some c = (tree.set_flag c.in-Some.ensures, taking right c.in-Some.ensures refl)

pub returns-in_default-word : goal.returns-in_default-word
returns-in_default-word c = let m = c.in_default.ensures in let n = c.in_default-word.ensures in (n.list ∙ m.list, missing right m refl ⟫ missing right n refl)

pub returns : goal.returns
returns c = let m = c.in_default.ensures in (rw (← m.list) (tree.clear_flag c.in-Some-word.ensures), missing right m refl ⟫ taking right c.in-Some-word.ensures refl)
