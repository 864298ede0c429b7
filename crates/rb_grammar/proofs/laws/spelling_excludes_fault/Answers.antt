use Rattle.rb_grammar.proofs.OneSpelling.{not_both}
use Rattle.rb_grammar.proofs.laws.spelling_excludes_fault.Goals as goal

pub returns : goal.returns
returns g c = λ language. not_both language
