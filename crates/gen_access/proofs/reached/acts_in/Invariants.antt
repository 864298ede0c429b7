use Rattle.std.proofs.Common.{◌≡◌, false, take}
use Rattle.std.specs.List.{list_any}
use Rattle.rb_model.specs.Sound.{view_passes}
use Rattle.gen_access.specs.Words.{acts_through}
use Rattle.gen_access.proofs.reached.acts_in.Given as goal

abbrev pub invariant-loop-slot : goal.invariant-loop-slot
invariant-loop-slot l = list_any (view_passes l.block (acts_through l.way)) (take l.slot-index l.slot-items) ≡ false
