use Rattle.std.proofs.Common.{refl}
use Rattle.rb_grammar.proofs.Following.{◌⟫◌, ◌⟫|◌}
use Rattle.rb_grammar.proofs.Steps.{entering, staying, taking, missing}
use Rattle.rdl_tree.specs.Tree as tree
use Rattle.rdl_expressions.specs.Following.{prop_words}
use Rattle.rdl_expressions.proofs.Firsts.{right}
use Rattle.rb_grammar.proofs.Factoring.{refusing}
use Rattle.rdl_expressions.proofs.Words.{prop_word, no_prop}
use Rattle.rdl_expressions.proofs.parser.Parser.prop.Goals as goal

pub returns-in-Some-clause-tree : goal.returns-in-Some-clause-tree
returns-in-Some-clause-tree c = tree.name c.in-Some.ensures

pub returns-in-Some-clause-reads : goal.returns-in-Some-clause-reads
returns-in-Some-clause-reads c = entering ⟫ taking right c.in-Some.ensures.1 refl

pub returns-in_default-word_of-clause-stops : goal.returns-in_default-word_of-clause-stops
returns-in_default-word_of-clause-stops c = λ h.
    entering ⟫ missing right c.in_default.ensures refl ⟫| refusing right prop_words c.in_default-word_of.ensures.list (no_prop c.in_default-word_of.ensures) refl

pub returns-clause-tree : goal.returns-clause-tree
returns-clause-tree c = rw (← c.in_default.ensures.list) (tree.word c.in-Some-word_of.ensures.of_sort c.in-Some-word_of.ensures.stands (refl, refl))

pub returns-clause-reads : goal.returns-clause-reads
returns-clause-reads c = staying c.in_default.ensures.list ⟫ prop_word _ c.in-Some-word_of.ensures.of_sort c.in-Some-word_of.ensures.stands
