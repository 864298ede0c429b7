use Rattle.std.proofs.Common.{map}
use Rattle.gen_ports.specs.Registers.{pin_of}
use Rattle.gen_ports.proofs.Rowing.{RowsTo}
use Rattle.gen_ports.proofs.cleared.cleared_registers.Given as goal

abbrev pub invariant-loop-row : goal.invariant-loop-row
invariant-loop-row l = RowsTo l.resetn (map pin_of l.rows) l.fn.net l.net l.ids.items l.row-index
