use Rattle.std.proofs.Common.{◌≡◌, ◌∙◌, Some, ap, length, refl, slice_get, subst, sym}
use Rattle.rdl_values.specs.Top.{root}
use Rattle.rdl_bodies.proofs.Places.{root_text}
use Rattle.rdl_bodies.proofs.root.open_root.Goals as goal

pub add-requires-clause-some : goal.add-requires-clause-some
add-requires-clause-some c = (root (record { items = c.args.items }), root_text _ _ (record { items = c.args.items }) refl refl refl refl refl)

pub returns : goal.returns
returns c = λ s e.
    let o = c.in_ok-add.ensures.opened (root s) (root_text _ _ s (sym e) refl refl refl refl) in
    let first : c.in_ok-add.field-0 ≡ 0 = c.in_ok-add.ensures.number ∙ ap length c.new.ensures.items in
    record { kept = o.kept; noted = o.noted; body = o.body; here = subst (λ k. slice_get c.add.new.self.list.items k ≡ Some o.body) first o.here; open_ = o.open_ }
