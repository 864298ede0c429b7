use Rattle.std.proofs.Common.{refl, ap, Err}
use Rattle.rb_grammar.proofs.Following.{◌⟫◌, ◌⟫|◌}
use Rattle.rb_grammar.proofs.Barring.{Without}
use Rattle.rb_grammar.proofs.Steps.{entering, staying, opening, calling, calling_stops, passed}
use Rattle.rdl_tree.specs.Tree as tree
use Rattle.rdl_expressions.proofs.Firsts.{right}
use Rattle.rdl_expressions.specs.Following.{value_words}
use Rattle.rdl_expressions.proofs.Words.{no_value, given_word}
use Rattle.rdl_parser.proofs.properties.given.Goals as goal

pub returns-in-Some-clause-tree : goal.returns-in-Some-clause-tree
returns-in-Some-clause-tree c = tree.word c.in-Some.ensures.of_sort c.in-Some.ensures.stands

pub returns-in-Some-clause-reads : goal.returns-in-Some-clause-reads
returns-in-Some-clause-reads c = given_word _ c.in-Some.ensures.of_sort c.in-Some.ensures.stands

pub returns-in_err-value-clause-stops : goal.returns-in_err-value-clause-stops
returns-in_err-value-clause-stops c = λ h. entering ⟫ opening right (Without value_words) refl (no_value c.in_default.ensures) ⟫ staying c.in_default.ensures.list ⟫| calling_stops right (c.in_err-value.ensures.stops (ap Err (passed _ _ c.from_residual.ensures.1 h))) refl

pub returns-clause-tree : goal.returns-clause-tree
returns-clause-tree c = rw (← c.in_default.ensures.list) (tree.value c.in_ok-value.ensures.tree)

pub returns-clause-reads : goal.returns-clause-reads
returns-clause-reads c = entering ⟫ opening right (Without value_words) refl (no_value c.in_default.ensures) ⟫ staying c.in_default.ensures.list ⟫ calling right c.in_ok-value.ensures.reads refl
