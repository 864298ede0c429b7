use Rattle.rb_grammar.proofs.Laying.{printed}
use Rattle.rb_grammar.proofs.laws.printed.Goals as goal

pub returns : goal.returns
returns g c = λ language printer. printed printer
