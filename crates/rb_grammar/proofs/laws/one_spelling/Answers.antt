use Rattle.rb_grammar.proofs.OneSpelling.{spells_once}
use Rattle.rb_grammar.proofs.laws.one_spelling.Goals as goal

pub returns : goal.returns
returns g c = λ language. spells_once language
