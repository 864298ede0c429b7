use Rattle.std.proofs.Common.{◌∙◌, ◌∷◌, [], ap, codes, length, subst, arith}
use Rattle.std.proofs.lemmas.List.{length-append}
use Rattle.block_plan.specs.Plan.{IsGatePlace}
use Rattle.block_plan.proofs.Pairing.{paired_all, paired_more}
use Rattle.block_plan.proofs.places.Places.gates.Goals as goal

pub loop-view-preserved : goal.loop-view-preserved
loop-view-preserved c = record {
  sized = ap length c.in_ok-push.ensures.items ∙ omega (arith, length-append c.loop-view.places.items (c.in_ok-gate.field-0 ∷ []), c.loop-view.invariant.sized);
  placed = paired_more (λ k v p. IsGatePlace c.args.self.now.block.now v.gate (codes "swwe$") (codes "swwel$") v.path p) c.args.views.now c.loop-view.view-index c.view-item.result c.loop-view.places.items c.push.new.self.items c.in_ok-gate.field-0 c.loop-view-test.true c.view-item.is c.loop-view.invariant.sized c.in_ok-push.ensures.items
      (subst (λ path. IsGatePlace c.args.self.now.block.now c.view-item.result.gate (codes "swwe$") (codes "swwel$") path c.in_ok-gate.field-0) c.bytes_of.ensures c.in_ok-gate.ensures) c.loop-view.invariant.placed;
}

pub returns : goal.returns
returns c = paired_all (λ k v p. IsGatePlace c.args.self.now.block.now v.gate (codes "swwe$") (codes "swwel$") v.path p) c.args.views.now c.loop-view.view-index c.loop-view.places.items c.loop-view-test.false c.loop-view.invariant.placed
