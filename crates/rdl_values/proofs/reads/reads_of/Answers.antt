use Rattle.std.proofs.Common.{take}
use Rattle.rdl_values.specs.Overlaid.{overlaid}
use Rattle.rdl_values.proofs.Reading.{all_read}
use Rattle.rdl_values.proofs.reads.reads_of.Goals as goal

pub returns : goal.returns
returns c = λ xs k t h. all_read (overlaid (take k xs) t) c.args.expr.now c.new-table.result c.read.new.table c.new-table.ensures c.in_ok-read.ensures.enums (c.in_ok-read.ensures.read_ xs k t h)
