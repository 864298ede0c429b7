use Rattle.std.proofs.Common.{take}
use Rattle.rdl_bind.specs.Places.{Adds}
use Rattle.rdl_bind.proofs.own.add_items.Given as goal

abbrev pub invariant-loop-what : goal.invariant-loop-what
invariant-loop-what l = Adds l.node (take l.what-index l.what-items) l.place l.initial.items.items l.items.items l.initial.places.items l.places.items
