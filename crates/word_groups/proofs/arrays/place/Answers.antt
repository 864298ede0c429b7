use Rattle.std.proofs.Common.{◌≡◌, ◌∙◌, None, Some, ap, arith, bytes_eq, cond, length, subst, sym}
use Rattle.word_groups.specs.Arrays.{key}
use Rattle.word_groups.specs.Places.{ArePlacesOf, place_in, place_of}
use Rattle.word_groups.proofs.Groups.{place_of-within, placed-found, placed-new, places-found, places-new}
use Rattle.word_groups.proofs.arrays.place.Goals as goal

pub join_group-requires : goal.join_group-requires
join_group-requires c =
    let gs = c.args.groups.now.items in
    let at : place_of gs (key c.args.entry) ≡ Some c.in-Some.place = ap (place_of gs) (sym c.requires.key) ∙ sym (c.requires.places c.args.key.now) ∙ sym c.find.ensures ∙ c.in-Some.is in
    omega (arith, place_of-within gs (key c.args.entry) c.in-Some.place at, c.args.groups.now.ok.0)

pub returns-in_ok-join_group-in-Some-clause-groups : goal.returns-in_ok-join_group-in-Some-clause-groups
returns-in_ok-join_group-in-Some-clause-groups c =
    let gs = c.args.groups.now.items in
    let at : place_of gs (key c.args.entry) ≡ Some c.in-Some.place = ap (place_of gs) (sym c.requires.key) ∙ sym (c.requires.places c.args.key.now) ∙ sym c.find.ensures ∙ c.in-Some.is in
    c.in_ok-join_group-in-Some.ensures ∙ sym (placed-found gs c.args.entry c.in-Some.place at)

pub returns-in_ok-join_group-in-Some-clause-places : goal.returns-in_ok-join_group-in-Some-clause-places
returns-in_ok-join_group-in-Some-clause-places c =
    let gs = c.args.groups.now.items in
    let p = c.args.places.now in
    let at : place_of gs (key c.args.entry) ≡ Some c.in-Some.place = ap (place_of gs) (sym c.requires.key) ∙ sym (c.requires.places c.args.key.now) ∙ sym c.find.ensures ∙ c.in-Some.is in
    subst (λ hs. ArePlacesOf hs p) (placed-found gs c.args.entry c.in-Some.place at ∙ sym c.in_ok-join_group-in-Some.ensures) (places-found gs c.args.entry c.in-Some.place p at c.requires.places)

pub returns-in_ok-push_group-in-None-clause-groups : goal.returns-in_ok-push_group-in-None-clause-groups
returns-in_ok-push_group-in-None-clause-groups c =
    let gs = c.args.groups.now.items in
    let none : place_of gs (key c.args.entry) ≡ None = ap (place_of gs) (sym c.requires.key) ∙ sym (c.requires.places c.args.key.now) ∙ sym c.find.ensures ∙ c.in-None.is in
    c.in_ok-push_group-in-None.ensures ∙ sym (placed-new gs c.args.entry none)

pub returns-in_ok-push_group-in-None-clause-places : goal.returns-in_ok-push_group-in-None-clause-places
returns-in_ok-push_group-in-None-clause-places c =
    let gs = c.args.groups.now.items in
    let old = c.args.places.now in
    let none : place_of gs (key c.args.entry) ≡ None = ap (place_of gs) (sym c.requires.key) ∙ sym (c.requires.places c.args.key.now) ∙ sym c.find.ensures ∙ c.in-None.is in
    let len : c.len.result ≡ length gs = omega (arith, c.len.ensures, c.args.groups.now.ok.0) in
    subst (λ hs. ArePlacesOf hs c.put.new.self) (placed-new gs c.args.entry none ∙ sym c.in_ok-push_group-in-None.ensures)
    (places-new gs c.args.entry old c.put.new.self none c.requires.places (λ k. c.in_ok-put-in-None.ensures k ∙ (λ i. cond (bytes_eq (c.requires.key i) k) (Some (len i)) (place_in old k))))
