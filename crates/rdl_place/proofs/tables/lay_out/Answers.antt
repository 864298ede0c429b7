use Rattle.std.proofs.Common.{◌∙◌, ◌++◌, refl, subst}
use Rattle.rdl_place.specs.Kept.{AreAreas}
use Rattle.rdl_place.specs.declared.tables.Laid.{Laid}
use Rattle.rdl_place.proofs.Knowing.{all-known}
use Rattle.rdl_place.proofs.tables.lay_out.Goals as goal

pub returns : goal.returns
returns c =
    let x : Laid = record { areas = c.in_ok-areas.areas; bits = c.in_ok-table.table.bits; faults = c.add_all-2.new.faults } in
    let kept = subst (λ as_. AreAreas as_ c.in_ok-sizes.sizes.measures.items x.areas.items) c.deref-8.ensures.value (subst (λ ms. AreAreas c.deref-8.result.now ms x.areas.items) c.deref-9.ensures.value c.in_ok-areas.ensures) in
    let faults =
    c.in_ok-add_all-2.ensures
    ∙ ((λ i. c.in_ok-add_all.ensures i ++ c.deref-7.ensures.value i)
    ∙ (λ i. (c.in_ok-faults.ensures i ++ c.deref-6.ensures.value i) ++ c.in_ok-table.table.faults.items)) in
    all-known c.args.elab.now c.args.props.now c.requires.tree c.requires.clean c.requires.settled c.bodies_are_judged.ensures c.bits_are_judged.ensures c.in_ok-sizes.sizes c.in_ok-sizes.ensures c.in_ok-table.table c.in_ok-table.ensures
    c.in_ok-addresses.addresses.items c.in_ok-addresses.ensures x kept faults refl
