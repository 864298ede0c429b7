use Rattle.std.proofs.Common.{refl, ap, ◌∙◌, Some}
use Rattle.rb_grammar.proofs.Following.{◌⟫◌, ◌⟫|◌}
use Rattle.rb_grammar.proofs.Steps.{entering, taking, missing}
use Rattle.rdl_tree.specs.Tree as tree
use Rattle.rdl_expressions.proofs.Firsts.{right}
use Rattle.rb_grammar.proofs.Factoring.{refusing}
use Rattle.rdl_expressions.specs.Following.{types}
use Rattle.rdl_expressions.proofs.Words.{no_type, number_type, other_type}
use Rattle.rdl_parser.proofs.instances.param_type.Goals as goal

pub returns-in_default-clause-stops : goal.returns-in_default-clause-stops
returns-in_default-clause-stops c = λ h. entering ⟫| refusing right types c.in_default.ensures.list (no_type c.in_default.ensures) refl

pub returns-in_default-ptype-clause-tree : goal.returns-in_default-ptype-clause-tree
returns-in_default-ptype-clause-tree c = tree.plain c.type_of-ptype.ensures c.in-Some.ensures.stands

pub returns-in_default-ptype-clause-reads : goal.returns-in_default-ptype-clause-reads
returns-in_default-ptype-clause-reads c = other_type _ _ c.type_of-ptype.ensures c.in_default-ptype.not-Number c.in-Some.ensures.stands

pub returns-in_default-word-clause-tree : goal.returns-in_default-word-clause-tree
returns-in_default-word-clause-tree c = rw c.in_default-word.ensures.list (tree.plain (c.type_of-ptype.ensures ∙ ap Some c.in-Number.is) c.in-Some.ensures.stands)

pub returns-in_default-word-clause-reads : goal.returns-in_default-word-clause-reads
returns-in_default-word-clause-reads c = number_type _ (c.type_of-ptype.ensures ∙ ap Some c.in-Number.is) c.in-Some.ensures.stands ⟫ missing right c.in_default-word.ensures refl

pub returns-clause-tree : goal.returns-clause-tree
returns-clause-tree c = tree.unsigned (c.type_of-ptype.ensures ∙ ap Some c.in-Number.is) c.in-Some.ensures.stands c.in-Some-word.ensures

pub returns-clause-reads : goal.returns-clause-reads
returns-clause-reads c = number_type _ (c.type_of-ptype.ensures ∙ ap Some c.in-Number.is) c.in-Some.ensures.stands ⟫ taking right c.in-Some-word.ensures refl
