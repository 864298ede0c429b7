use Rattle.std.proofs.Common.{◌∷◌, ◌++◌, refl}
use Rattle.rdl_tree.specs.declared.token.Terminal.TheVariants as terminals
use Rattle.rdl_expressions.proofs.Firsts.{right}
use Rattle.rb_grammar.proofs.Factoring.{refusing}
use Rattle.rdl_expressions.specs.Following.{triggers, prop_words}
use Rattle.rdl_expressions.proofs.Words.{no_token}
use Rattle.rdl_parser.proofs.Phrases.{set_returns}
use Rattle.rdl_parser.proofs.properties.set.Goals as goal

pub returns-in_default-clause-stops : goal.returns-in_default-clause-stops
returns-in_default-clause-stops c = λ h. refusing right (terminals.Name ∷ prop_words ++ triggers) refl (no_token (terminals.Name ∷ prop_words ++ triggers) c.args.parser.now c.in_default.ensures) refl

pub returns-clause-tree : goal.returns-clause-tree
returns-clause-tree c = set_returns _ _ _ _ c.in-Some.ensures c.local.ensures.tree c.local.ensures.place
