use Rattle.std.proofs.Common.{◌∙◌, ◌∷◌, [], ap, length, arith}
use Rattle.std.proofs.lemmas.List.{length-append}
use Rattle.block_plan.specs.Plan.{AreFieldPlaces}
use Rattle.block_plan.proofs.Pairing.{paired_all, paired_more}
use Rattle.block_plan.proofs.places.Places.fields.Goals as goal

pub loop-field-preserved : goal.loop-field-preserved
loop-field-preserved c = record {
  sized = ap length c.in_ok-push.ensures.items ∙ omega (arith, length-append c.loop-field.places.items (c.in_ok-field.field-0 ∷ []), c.loop-field.invariant.sized);
  placed = paired_more (λ k f p. AreFieldPlaces c.args.self.now.block.now f p) c.args.fields.now c.loop-field.field-index c.field-item.result c.loop-field.places.items c.push.new.self.items c.in_ok-field.field-0 c.loop-field-test.true c.field-item.is c.loop-field.invariant.sized c.in_ok-push.ensures.items
      c.in_ok-field.ensures c.loop-field.invariant.placed;
}

pub returns : goal.returns
returns c = paired_all (λ k f p. AreFieldPlaces c.args.self.now.block.now f p) c.args.fields.now c.loop-field.field-index c.loop-field.places.items c.loop-field-test.false c.loop-field.invariant.placed
