use Rattle.std.proofs.Common.{map}
use Rattle.gen_ports.specs.Registers.{pin_of}
use Rattle.gen_ports.proofs.Showing.{ShownTo}
use Rattle.gen_ports.proofs.shows.show_in_turn.Given as goal

abbrev pub invariant-loop-number : goal.invariant-loop-number
invariant-loop-number l = ShownTo (map pin_of l.rows) l.fn.net l.net l.ids l.number
