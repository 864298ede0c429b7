use Rattle.std.proofs.Common.{◌/◌, ◌^◌}
use Rattle.gen_decode.proofs.spread.+above.Given as goal

abbrev pub decreases-above : goal.decreases-above
decreases-above l = l.last / 2 ^ l.level
