use Rattle.std.proofs.Common.{◌≡◌, ◌<◌, ℕ, Some, ◌++◌, ◌∷◌, [], List, slice_get, length, map, sym, ap, ◌∙◌, subst, arith}
use Rattle.std.proofs.lemmas.List.{length-append, take_all}
use Rattle.std.specs.List.{flat_map, enumerate_from}
use Rattle.rb_model.specs.declared.block.Field.{Field}
use Rattle.rb_model.specs.Kept.{Kept, kept_of}
use Rattle.block_plan.specs.declared.kept.FieldKept.{FieldKept}
use Rattle.block_plan.specs.Kept.{AreFieldKept, kept_seen}
use Rattle.block_plan.proofs.Keeping.{stay}
use Rattle.block_plan.proofs.Pairing.{paired_all, paired_more}
use Rattle.block_plan.proofs.Numbered.{numbered_more}
use Rattle.block_plan.proofs.kept.kept_values.Goals as goal

pub loop-index-preserved : goal.loop-index-preserved
loop-index-preserved c =
    let fields = c.args.fields.now in
    let i = c.loop-index.index in
    let f = c.index-fields-index.result in
    let old = map kept_seen c.loop-index.all.items in
    let new = map kept_seen c.placed_of.new.all.items in
    let number = c.in_ok-number_of.field-0 in
    let grown : new ≡ old ++ kept_of (number, f) = c.in_ok-placed_of.ensures.all in
    let before : (k : ℕ) (g : Field) → k < i → slice_get fields k ≡ Some g → (p : FieldKept) × (slice_get c.loop-index.of.items k ≡ Some p) × AreFieldKept new k g p
    = λ k g l here. let (p, at, are) = c.loop-index.invariant.placed k g l here in (p, at, subst (λ (ks : List Kept). AreFieldKept ks k g p) (sym grown) (stay old (kept_of (number, f)) k g p are)) in
    record {
      all = numbered_more kept_of fields i number f [] old new c.loop-index-test.true c.index-fields-index.is c.in_ok-number_of.ensures.is c.loop-index.invariant.all grown;
      sized = ap length c.in_ok-push.ensures.items ∙ omega (arith, length-append c.loop-index.of.items (c.in_ok-placed_of.field-0 ∷ []), c.loop-index.invariant.sized);
      placed = paired_more (AreFieldKept new) fields i f c.loop-index.of.items c.push.new.self.items c.in_ok-placed_of.field-0 c.loop-index-test.true c.index-fields-index.is c.loop-index.invariant.sized c.in_ok-push.ensures.items
          (subst (λ m. AreFieldKept new m f c.in_ok-placed_of.field-0) c.in_ok-number_of.ensures.is c.in_ok-placed_of.ensures.places) before;
    }

pub returns : goal.returns
returns c =
    let all = c.loop-index.all.items in
    let of = c.loop-index.of.items in
    record {
      all = c.loop-index.invariant.all ∙ ap (λ fs. flat_map kept_of (enumerate_from 0 fs)) (take_all c.loop-index.index c.args.fields.now c.loop-index-test.false);
      places = paired_all (AreFieldKept (map kept_seen all)) c.args.fields.now c.loop-index.index of c.loop-index-test.false c.loop-index.invariant.placed;
    }
