use Rattle.std.proofs.Common.{take}
use Rattle.c_header.specs.Repeats.{IsSeenOf}
use Rattle.c_header.proofs.repeats.Seen.of.Given as goal

abbrev pub invariant-loop-name : goal.invariant-loop-name
invariant-loop-name l = IsSeenOf (take l.name-index l.names) l.seen
