use Rattle.rb_grammar.proofs.OneSpelling.{faults_once}
use Rattle.rb_grammar.proofs.laws.one_fault.Goals as goal

pub returns : goal.returns
returns g c = λ language. faults_once language
