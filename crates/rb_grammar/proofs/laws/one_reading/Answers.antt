use Rattle.rb_grammar.proofs.OneReading.{one_fitting}
use Rattle.rb_grammar.proofs.laws.one_reading.Goals as goal

pub returns : goal.returns
returns g c = λ G S follow R D. one_fitting G S R follow D
