use Rattle.rb_base.proofs.Fields.{masked-put}
use Rattle.rb_base.proofs.bits.put.Goals as goal

pub returns : goal.returns
returns c = rw c.ones.ensures (masked-put c.args.v c.args.hi c.args.lo c.args.x c.requires.ordered c.requires.within c.ranges.v.fits c.requires.fits)
