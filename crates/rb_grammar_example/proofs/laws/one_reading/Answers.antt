use Rattle.std.proofs.Common.{refl}
use Rattle.rb_grammar.specs.Forms.{Non}
use Rattle.rb_grammar.proofs.OneReading.{one_fitting}
use Rattle.rb_grammar_example.specs.Grammar.{settings, Source}
use Rattle.rb_grammar_example.proofs.Firsts.{table, right, follow, decided}
use Rattle.rb_grammar_example.proofs.laws.one_reading.Goals as goal

pub returns : goal.returns
returns c = one_fitting settings table right follow decided (Non Source) refl
