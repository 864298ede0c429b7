use Rattle.std.proofs.Common.{◌+◌, ◌-◌, ◌/◌, ◌^◌}
use Rattle.std.proofs.lemmas.Nat.{and_mask}
use Rattle.rb_base.proofs.bits.part.Goals as goal

pub returns : goal.returns
returns c = rw c.ones.ensures (and_mask (c.args.v / 2 ^ c.args.lo) (c.args.hi - c.args.lo + 1))
