use Rattle.std.proofs.Common.{◌≡◌, Err, ap}
use Rattle.rb_grammar.specs.declared.stop.Stop.TheVariants.{Syntax}
use Rattle.rdl_parser.proofs.Items.{local_tree}
use Rattle.rdl_parser.proofs.components.local_from.Goals as goal

pub returns-in-Ok-clause-tree : goal.returns-in-Ok-clause-tree
returns-in-Ok-clause-tree c = λ ts n. local_tree n c.in-Ok.ensures.tree

pub returns-in-Err-clause-stops : goal.returns-in-Err-clause-stops
returns-in-Err-clause-stops c = λ h. let e : c.in-Err.stop ≡ Syntax = cc in c.in-Err.ensures.stops (ap Err e)
