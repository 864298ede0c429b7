use Rattle.std.proofs.Common.{◌≡◌, map, take}
use Rattle.rb_machine.specs.Table.{place_of}
use Rattle.rb_machine.proofs.machine.outlet_places.Given as goal

abbrev pub invariant-loop-outlet : goal.invariant-loop-outlet
invariant-loop-outlet l = l.all.items ≡ map (λ o. place_of o.item) (take l.outlet-index l.outlets)
