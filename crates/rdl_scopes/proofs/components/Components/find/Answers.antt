use Rattle.std.proofs.Common.{◌∙◌, ap, arith, length, refl, sym}
use Rattle.std.proofs.lemmas.Option.{slice_get_read}
use Rattle.rdl_values.specs.Firsts.{place_of}
use Rattle.rdl_values.specs.Views.{item_is}
use Rattle.rdl_scopes.proofs.Defaulting.{component-is}
use Rattle.rdl_scopes.proofs.FoundComponents.{none_found, late_found, is_found, place_below, no_place}
use Rattle.rdl_scopes.proofs.components.Components.find.Goals as goal

pub returns-in_default-clause-found : goal.returns-in_default-clause-found
returns-in_default-clause-found c = none_found c.args.name.now c.args.self.now.firsts.value c.args.self.now.items.now c.args.upto c.requires.known (ap (λ f. place_of f c.args.name.now) (sym c.deref.ensures) ∙ sym c.in_default.ensures)

pub returns-then-at-upto-clause-found : goal.returns-then-at-upto-clause-found
returns-then-at-upto-clause-found c = late_found c.args.name.now c.args.self.now.firsts.value c.args.self.now.items.now c.args.upto c.in-Some.at c.requires.known (ap (λ f. place_of f c.args.name.now) (sym c.deref.ensures) ∙ sym c.in-Some.ensures) c.if-at-upto.true

pub offset_bounds-items-at : goal.offset_bounds-items-at
offset_bounds-items-at c = let low = place_below c.args.name.now c.args.self.now.firsts.value c.args.self.now.items.now c.in-Some.at c.requires.known (ap (λ f. place_of f c.args.name.now) (sym c.deref.ensures) ∙ sym c.in-Some.ensures) in omega (arith, low)

pub bounds-items-at : goal.bounds-items-at
bounds-items-at c = place_below c.args.name.now c.args.self.now.firsts.value c.args.self.now.items.now c.in-Some.at c.requires.known (ap (λ f. place_of f c.args.name.now) (sym c.deref.ensures) ∙ sym c.in-Some.ensures)

pub returns-in_default-component_in-clause-found : goal.returns-in_default-component_in-clause-found
returns-in_default-component_in-clause-found c = no_place c.args.name.now c.args.self.now.firsts.value c.args.self.now.items.now c.in-Some.at c.index-items-at.result c.requires.known (ap (λ f. place_of f c.args.name.now) (sym c.deref.ensures) ∙ sym c.in-Some.ensures) c.index-items-at.is c.in_default-component_in.ensures

pub returns-clause-found : goal.returns-clause-found
returns-clause-found c =
    let low = place_below c.args.name.now c.args.self.now.firsts.value c.args.self.now.items.now c.in-Some.at c.requires.known (ap (λ f. place_of f c.args.name.now) (sym c.deref.ensures) ∙ sym c.in-Some.ensures) in
    is_found c.args.name.now c.args.self.now.firsts.value c.args.self.now.items.now c.args.upto c.in-Some.at c.index-items-at.result c.in-Some-component_in.def.now c.requires.known (ap (λ f. place_of f c.args.name.now) (sym c.deref.ensures) ∙ sym c.in-Some.ensures) c.if-at-upto.false
    (slice_get_read c.args.self.now.items.now (length c.args.self.now.items.now) c.in-Some.at c.index-items-at.result refl low c.index-items-at.is) c.in-Some-component_in.ensures

pub returns-clause-stands : goal.returns-clause-stands
returns-clause-stands c =
    let n = c.args.name.now in
    let items = c.args.self.now.items.now in
    let low = place_below n c.args.self.now.firsts.value items c.in-Some.at c.requires.known (ap (λ f. place_of f c.args.name.now) (sym c.deref.ensures) ∙ sym c.in-Some.ensures) in
    let i = c.index-items-at.result in
    (i, slice_get_read items (length items) c.in-Some.at i refl low c.index-items-at.is, component-is n (item_is i) c.in-Some-component_in.def.now c.in-Some-component_in.ensures)
