use Rattle.rb_grammar.proofs.Bridge.{never_stops}
use Rattle.rb_grammar.proofs.Judgement.{stops_once}
use Rattle.rb_grammar.proofs.laws.one_stop.Goals as goal

pub returns-clause-place : goal.returns-clause-place
returns-clause-place g c = λ G. stops_once G

pub returns-clause-fitting : goal.returns-clause-fitting
returns-clause-fitting g c = λ G f. never_stops G
