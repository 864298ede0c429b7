use Rattle.std.proofs.Common.{map}
use Rattle.gen_ports.specs.Registers.{pin_of}
use Rattle.gen_ports.proofs.Driving.{DrivenTo}
use Rattle.gen_ports.proofs.drives.drive_in_turn.Given as goal

abbrev pub invariant-loop-number : goal.invariant-loop-number
invariant-loop-number l = DrivenTo l.fn.resetn (map pin_of l.fn.rows) l.fn.net l.net l.ids l.nexts l.number
