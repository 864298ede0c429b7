use Rattle.std.proofs.Common.{◌≡◌, Err, ap}
use Rattle.rb_grammar.specs.declared.stop.Stop.TheVariants.{Syntax}
use Rattle.rb_grammar.proofs.Returning.{in_any_case, no_syntax}
use Rattle.rdl_expressions.proofs.Phrases.{adding}
use Rattle.rdl_parser.proofs.instances.add_param.Goals as goal

pub returns-in-Ok-clause-tree : goal.returns-in-Ok-clause-tree
returns-in-Ok-clause-tree c = adding _ _ _ _ c.in-Ok.ensures.tree c.add.ensures.items

pub returns-in-Ok-clause-reads : goal.returns-in-Ok-clause-reads
returns-in-Ok-clause-reads c = in_any_case _ c.in-Ok.ensures.reads

pub returns-in-Ok-clause-stops : goal.returns-in-Ok-clause-stops
returns-in-Ok-clause-stops c = λ h. absurd (no_syntax _ c.add.ensures.memory h)

pub returns-in-Err-clause-stops : goal.returns-in-Err-clause-stops
returns-in-Err-clause-stops c = λ h. let e : c.in-Err.stop ≡ Syntax = cc in c.in-Err.ensures.stops (ap Err e)
