use Rattle.std.proofs.Common.{refl, ◌∙◌}
use Rattle.rb_grammar.proofs.Following.{◌⟫◌}
use Rattle.rb_grammar.proofs.Steps.{entering, taking, missing}
use Rattle.rdl_tree.specs.Tree as tree
use Rattle.rdl_expressions.proofs.Firsts.{right}
use Rattle.rdl_expressions.proofs.Phrases.{flag_returns}
use Rattle.rdl_expressions.proofs.parser.Parser.literal.Goals as goal

pub returns-in-Some : goal.returns-in-Some
returns-in-Some c = let n = c.in-Some.ensures in (rw n.at (tree.number n.stands n.kind), entering ⟫ taking right n.stands refl)

pub returns-in-Some-eat : goal.returns-in-Some-eat
returns-in-Some-eat c = let m = c.in_default.ensures in (rw (← m.list) (tree.string c.in-Some-eat.ensures), entering ⟫ missing right m refl ⟫ taking right c.in-Some-eat.ensures refl)

pub returns : goal.returns
returns c =
    let m = c.in_default.ensures in
    let n = c.in_default-eat.ensures in
    flag_returns _ _ (n.list ∙ m.list) (entering ⟫ missing right m refl ⟫ missing right n refl) c.flag.ensures
