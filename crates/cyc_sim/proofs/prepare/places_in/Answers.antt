use Rattle.std.proofs.Common.{◌≡◌, ℕ, ◌+◌, ◌<◌, Some, List, [], ◌∷◌, ◌++◌, length, take, get_or, refl}
use Rattle.std.proofs.lemmas.List.{take_more}
use Rattle.rb_base.specs.declared.ports.Pin.{Pin}
use Rattle.cyc_sim.specs.declared.listing.Wire.{Wire}
use Rattle.cyc_sim.specs.Compiled.{Known, known_at}
use Rattle.cyc_sim.specs.Preparing.{ArePlacesOf}
use Rattle.cyc_sim.proofs.Knowing.{AllZip-pushed}
use Rattle.cyc_sim.proofs.prepare.places_in.Goals as goal

more_places : (known : Known) (pins : List Pin) (i : ℕ) (d : Pin) (places places' : List ℕ) (w : Wire) → i < length pins → d ≡ get_or pins i d → known_at known d.name ≡ Some w
    → ArePlacesOf known (take i pins) places → places' ≡ places ++ (w.place ∷ []) → ArePlacesOf known (take (i + 1) pins) places'
more_places known pins i d places places' w l is at h pushed =
    rw (pushed, take_more pins i d l, ← is) (AllZip-pushed (λ p place. (x : Wire) × (known_at known p.name ≡ Some x) × (x.place ≡ place)) (take i pins) places d w.place h (w, at, refl))

pub loop-pin-preserved : goal.loop-pin-preserved
loop-pin-preserved c = more_places c.args.known.now c.args.pins.now c.loop-pin.pin-index c.pin-item.result c.loop-pin.places.items c.push.new.self.items c.wire_of.result c.loop-pin-test.true c.pin-item.is c.wire_of.ensures c.loop-pin.invariant c.in_ok-push.ensures.items
