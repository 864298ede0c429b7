use Rattle.rb_grammar.proofs.Bridge.{begins_front, fits_front}
use Rattle.rb_grammar.proofs.laws.fronts_begin.Goals as goal

pub returns-clause-fits : goal.returns-clause-fits
returns-clause-fits g c = λ G f. fits_front G

pub returns-clause-begins : goal.returns-clause-begins
returns-clause-begins g c = λ G f. begins_front G
