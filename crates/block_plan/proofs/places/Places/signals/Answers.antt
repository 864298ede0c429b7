use Rattle.std.proofs.Common.{◌∙◌, ◌∷◌, [], ap, length, arith}
use Rattle.std.proofs.lemmas.List.{length-append}
use Rattle.rb_model.specs.Ports.{signal_name}
use Rattle.block_plan.specs.Plan.{IsPlaceOf}
use Rattle.block_plan.proofs.Pairing.{paired_all, paired_more}
use Rattle.block_plan.proofs.places.Places.signals.Goals as goal

pub loop-signal-preserved : goal.loop-signal-preserved
loop-signal-preserved c = record {
  sized = ap length c.in_ok-push.ensures.items ∙ omega (arith, length-append c.loop-signal.places.items (c.in_ok-signal.field-0 ∷ []), c.loop-signal.invariant.sized);
  placed = paired_more (λ k s p. IsPlaceOf c.args.self.now.block.now (signal_name s) p) c.args.signals.now c.loop-signal.signal-index c.signal-item.result c.loop-signal.places.items c.push.new.self.items c.in_ok-signal.field-0 c.loop-signal-test.true c.signal-item.is c.loop-signal.invariant.sized c.in_ok-push.ensures.items
      c.in_ok-signal.ensures c.loop-signal.invariant.placed;
}

pub returns : goal.returns
returns c = paired_all (λ k s p. IsPlaceOf c.args.self.now.block.now (signal_name s) p) c.args.signals.now c.loop-signal.signal-index c.loop-signal.places.items c.loop-signal-test.false c.loop-signal.invariant.placed
