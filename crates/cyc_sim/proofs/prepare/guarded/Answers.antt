use Rattle.std.proofs.Common.{◌≡◌, Some, refl, ◌∙◌}
use Rattle.v_design.specs.Design.{Reset}
use Rattle.cyc_sim.specs.declared.listing.Wire.{Wire}
use Rattle.cyc_sim.specs.declared.listing.Listing.{Listing}
use Rattle.cyc_sim.specs.declared.operation.Operation.TheVariants.{Guard}
use Rattle.cyc_sim.specs.Compiled.{Known, known_at, Adds}
use Rattle.cyc_sim.specs.Preparing.{Guards}
use Rattle.cyc_sim.proofs.Compiling.{extends_one, end_adds, added}
use Rattle.cyc_sim.proofs.prepare.guarded.Goals as goal

guards : (known : Known) (r : Reset) (pin next w : Wire) (old new : Listing) → known_at known r.pin ≡ Some pin → Adds old new (Guard pin.place r.low r.value next.place) w.place → w.width ≡ next.width → Guards known (Some r) next old new w
guards known r pin next w old new at adds width = record {
  extends = extends_one old new _ w.place adds;
  below = end_adds old new _ w.place adds;
  width = width;
  value = λ v base x long agrees is. added old new base _ w.place adds long ∙ rw (agrees.value r.pin pin at, is) refl;
}

pub returns-in_ok-place-in-Some : goal.returns-in_ok-place-in-Some
returns-in_ok-place-in-Some c = rw c.in-Some.is (guards c.args.known.now _ c.wire_of-pin.result c.args.next _ c.args.listing.now c.push.new.self c.wire_of-pin.ensures c.in_ok-place-in-Some.ensures refl)
