use Rattle.rb_grammar.proofs.Beginnings.{goes_on}
use Rattle.rb_grammar.proofs.laws.beginnings_go_on.Goals as goal

pub returns : goal.returns
returns g c = λ G tokens rules f ts. goes_on G tokens rules
