use Rattle.std.proofs.Common.{◌≡◌, ◌∙◌, ◌++◌, Some, ap, codes, length, refl, slice_get, subst, sym}
use Rattle.std.proofs.lemmas.Option.{same_Some, slice_get_read}
use Rattle.block_plan.specs.declared.plan.FieldPlaces.{FieldPlaces}
use Rattle.block_plan.specs.Plan.{IsPlaceOf}
use Rattle.rb_machine.proofs.Plainly.{a_pin}
use Rattle.rb_machine.proofs.sources.wire_source.Goals as goal

pub returns-in-Some : goal.returns-in-Some
returns-in-Some c b planned here wire =
    let (q, there, are) = planned.fields c.args.number c.args.field.now here in
    let l = c.in-Some.ensures.lookup in
    let at : slice_get c.deref.result.now c.args.number ≡ Some c.in-Some.places.now = slice_get_read c.deref.result.now (length c.deref.result.now) c.args.number c.in-Some.places.now refl l.3.0 l.1 in
    let same : q ≡ c.in-Some.places.now = same_Some q c.in-Some.places.now (sym there ∙ (ap (λ ps. slice_get ps c.args.number) (sym c.deref.ensures.value) ∙ at)) in
    record {
      number = c.args.number;
      field = c.args.field.now;
      is = refl;
      here = here;
      class = wire;
      fed = a_pin c.args.field.now.source (sym c.is_pin.ensures ∙ c.if-not-is_pin.false);
      placed = subst (λ (p : FieldPlaces). IsPlaceOf b (codes "in$" ++ c.args.field.now.path) p.source) same are.source;
    }
