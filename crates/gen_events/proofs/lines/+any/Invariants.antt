use Rattle.std.proofs.Common.{length}
use Rattle.gen_events.proofs.lines.+any.Given as goal

abbrev pub decreases-any : goal.decreases-any
decreases-any l = length l.bits.now
