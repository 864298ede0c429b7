-- Enumerations that are judged once for all bodies of a text.
use Rattle.std.proofs.Common.{◌≡◌, ◌∙◌, ℕ, ◌+◌, ◌<◌, inl, inr, Bool, true, false, cond, nat_eq, List, [], ◌∷◌, ◌++◌, append-nil, flat_map, get_or, length, slice_get, take, Option, None, Some, refl, sym, ap, subst}
use Rattle.std.proofs.lemmas.Bool.Decides.{Decides-eqb}
use Rattle.std.proofs.lemmas.Grind.{flat_map-append}
use Rattle.std.proofs.lemmas.List.{take_more}
use Rattle.std.proofs.lemmas.Option.{slice_get_read}
use Rattle.rdl_base.specs.declared.fault.Fault.{Fault}
use Rattle.rdl_tree.specs.declared.expr.Name.{Name}
use Rattle.rdl_tree.specs.declared.item.Entry.{Entry}
use Rattle.rdl_tree.specs.declared.item.Item.{Item}
use Rattle.rdl_values.specs.Bodies.{Body, standing}
use Rattle.rdl_values.specs.Enums.{around_enum, judged}
use Rattle.rdl_values.specs.Phase3.{of_entries, of_enum}
use Rattle.rdl_values.specs.Seen.{listed_enum}
use Rattle.rdl_values.specs.Views as view
use Rattle.rdl_values.specs.Views.{ItemIs, item_is}
use Rattle.rdl_failures.specs.Noted.{Holds, with_all}
use Rattle.rdl_failures.specs.Shown.{IsAlike}
use Rattle.rdl_failures.proofs.Around.{alike_same}
use Rattle.rdl_failures.proofs.Noting.{standing-push}
use Rattle.rdl_failures.proofs.Sets.{again, held, holds-both, holds-left, holds-right, kept, with_all-append}
use Rattle.rdl_closed.specs.Closed.{AreClosed}
use Rattle.rdl_scopes.specs.Closed.{AreClosedOf, AreJudged, IsClosedAs, IsClosedItem, IsRead, Reads, known_at}
use Rattle.rdl_scopes.specs.Entries.{IsTableOf, IsValued}
use Rattle.rdl_scopes.specs.Opened.{Adds, AddsAs, AddsItem, State, bodies}
use Rattle.rdl_scopes.specs.declared.closed.ClosedEnums.{ClosedEnums}
use Rattle.rdl_scopes.specs.declared.entries.ValuedEnum.{ValuedEnum}
use Rattle.rdl_scopes.specs.declared.enums.Outer.{Outer}
use Rattle.rdl_scopes.proofs.ByItem.{enum_fails}

-- What is held stays held where more is put in.

as-stays : (fs held : List Fault) (v : ValuedEnum) (x : ItemIs) → IsClosedAs held v x → IsClosedAs (with_all fs held) v x
as-stays fs held v (view.enumeration n es) h = (h.0, h.1, kept (of_entries (judged [] es)) fs held h.2)
as-stays fs held v (view.definition d) h = h
as-stays fs held v (view.made a n is) h = h
as-stays fs held v (view.default_ s) h = h
as-stays fs held v (view.local s) h = h
as-stays fs held v (view.dynamic p s) h = h

item-stays : (fs held : List Fault) (v : ValuedEnum) (o : Option Item) → IsClosedItem held v o → IsClosedItem (with_all fs held) v o
item-stays fs held v None h = h
item-stays fs held v (Some i) h = as-stays fs held v (item_is i) h

pub closed_stays : (c : ClosedEnums) (items : List Item) (fs held : List Fault) → AreClosedOf c items held → AreClosedOf c items (with_all fs held)
closed_stays c items fs held h = record { each = λ k v e. item-stays fs held v (slice_get items k) (h.each k v e) }

-- Judging them, item by item.

pub record ClosedTo (c : ClosedEnums) (items front : List Item) (before after : List Fault) : Type 0 where
  pub closed : AreClosedOf c items after
  pub fails : List Fault
  pub noted : after ≡ with_all fails before
  pub part : (b : Body) (list : List Fault) → Holds list (flat_map (enum_fails b) (standing front)) → Holds list fails

pub closed_none : (c : ClosedEnums) (items : List Item) (list : List Fault) → ((k : ℕ) → known_at c k ≡ None) → ClosedTo c items [] list list
closed_none c items list none = record {
  closed = record { each = λ k v e. let both : Some v ≡ None = sym e ∙ none k in cc };
  fails = [];
  noted = refl;
  part = λ b l h. tt;
}

-- the failures of one item more
front-more : (b : Body) (items : List Item) (i : ℕ) (x : Item) → i < length items → x ≡ get_or items i x → flat_map (enum_fails b) (standing (take (i + 1) items)) ≡ flat_map (enum_fails b) (standing (take i items)) ++ enum_fails b (take i items, x)
front-more b items i x l at =
    let front = take i items in
    let last : take (i + 1) items ≡ front ++ (x ∷ []) = take_more items i x l ∙ ap (λ y. front ++ (y ∷ [])) (sym at) in
    ap (flat_map (enum_fails b)) (ap standing last ∙ standing-push front x) ∙ flat_map-append (enum_fails b) (standing front) ((front, x) ∷ []) ∙ ap (λ fs. flat_map (enum_fails b) (standing front) ++ fs) (append-nil (enum_fails b (front, x)))

-- what a closed enumeration fails by is the same in each body
same-fails : (b : Body) (front : List Item) (x : Item) (n : Name) (es : List Entry) → item_is x ≡ view.enumeration n es → AreClosed es → enum_fails b (front, x) ≡ of_entries (judged [] es)
same-fails b front x n es is closed = ap (of_enum (around_enum b front)) is ∙ ap of_entries (closed (around_enum b front) [])

module _ (items : List Item) (i : ℕ) (x : Item) (old new : ClosedEnums) (start before after : List Fault) (l : i < length items) (at : x ≡ get_or items i x) (h : ClosedTo old items (take i items) start before) where
  left : (b : Body) (list : List Fault) → Holds list (flat_map (enum_fails b) (standing (take (i + 1) items))) → Holds list (flat_map (enum_fails b) (standing (take i items)))
  left b list all = holds-left (flat_map (enum_fails b) (standing (take i items))) (enum_fails b (take i items, x)) list (subst (Holds list) (front-more b items i x l at) all)

  right : (b : Body) (list : List Fault) → Holds list (flat_map (enum_fails b) (standing (take (i + 1) items))) → Holds list (enum_fails b (take i items, x))
  right b list all = holds-right (flat_map (enum_fails b) (standing (take i items))) (enum_fails b (take i items, x)) list (subst (Holds list) (front-more b items i x l at) all)

  module _ (r : IsRead i x old new before after) where
    abbrev own : List Fault
    own = of_entries (judged [] r.entries)

    here : slice_get items i ≡ Some x
    here = slice_get_read items (length items) i x refl l at

    new-as : (y : ItemIs) → y ≡ view.enumeration r.name r.entries → IsClosedAs after r.of y
    new-as y e = subst (IsClosedAs after r.of) (sym e) (r.closed, r.valued, subst (λ fs. Holds fs own) (sym r.noted) (held own before))

    each-read : (k : ℕ) (v : ValuedEnum) (b : Bool) → nat_eq i k ≡ b → cond b (Some r.of) (known_at old k) ≡ Some v → IsClosedItem after v (slice_get items k)
    each-read k v true q e =
        let same : r.of ≡ v = cc in
        let place : i ≡ k = (Decides-eqb i k).0 q in
        subst (λ y. IsClosedItem after y (slice_get items k)) same (subst (λ j. IsClosedItem after r.of (slice_get items j)) place (subst (IsClosedItem after r.of) (sym here) (new-as (item_is x) r.is)))
    each-read k v false q e = subst (λ fs. IsClosedItem fs v (slice_get items k)) (sym r.noted) (item-stays own before v (slice_get items k) (h.closed.each k v e))

    one-read : ClosedTo new items (take (i + 1) items) start after
    one-read = record {
      closed = record { each = λ k v e. each-read k v (nat_eq i k) refl (sym (r.put k) ∙ e) };
      fails = h.fails ++ own;
      noted = r.noted ∙ ap (with_all own) h.noted ∙ sym (with_all-append h.fails own start);
      part = λ b list all. holds-both h.fails own list (h.part b list (left b list all)) (subst (Holds list) (same-fails b (take i items) x r.name r.entries r.is r.closed) (right b list all));
    }

  pub closed_more : Reads i x old new before after → ClosedTo new items (take (i + 1) items) start after
  closed_more (inr r) = one-read r
  closed_more (inl same) = subst (λ c. ClosedTo c items (take (i + 1) items) start after) (sym same.0) (subst (ClosedTo old items (take (i + 1) items) start) (sym same.1) (record { closed = h.closed; fails = h.fails; noted = h.noted; part = λ b list all. h.part b list (left b list all) }))

pub closed_all : (c : ClosedEnums) (items front : List Item) (before after : List Fault) → front ≡ items → ClosedTo c items front before after → AreJudged c items before after
closed_all c items front before after e h = record {
  closed = h.closed;
  fails = h.fails;
  noted = h.noted;
  part = λ b same list all. h.part b list (subst (λ is. Holds list (flat_map (enum_fails b) (standing is))) (same ∙ sym e) all);
}

-- Taking one that is known.

valued-again : (n : Name) (es : List (Name × ℕ)) (v r : ValuedEnum) → r.table.value ≡ v.table.value → r.values ≡ v.values → IsValued n es v → IsValued n es r
valued-again n es v r table values h = record { table = subst (IsTableOf n es) (sym table) h.table; listed = ap listed_enum values ∙ h.listed }

adds-as : (o : Outer) (v r : ValuedEnum) (old new : State) (list : List Fault) (x : ItemIs) → IsClosedAs list v x → r.table.value ≡ v.table.value → r.values ≡ v.values
    → ((n : Name) (es : List (Name × ℕ)) → IsValued n es r → Adds n es old new) → AddsAs o x old new list list
adds-as o v r old new list (view.enumeration n es) h table values adds = λ around alike. (
  subst (λ j. Adds n j.entries old new) (h.0 [] around) (adds n (judged [] es).entries (valued-again n (judged [] es).entries v r table values h.1)),
  sym (again (of_entries (judged around es)) list (subst (λ j. Holds list (of_entries j)) (h.0 [] around) h.2)),
)
adds-as o v r old new list (view.definition d) h table values adds = absurd h
adds-as o v r old new list (view.made a n is) h table values adds = absurd h
adds-as o v r old new list (view.default_ s) h table values adds = absurd h
adds-as o v r old new list (view.local s) h table values adds = absurd h
adds-as o v r old new list (view.dynamic p s) h table values adds = absurd h

pub adds_known : (c : ClosedEnums) (items : List Item) (at : ℕ) (x : Item) (o : Outer) (v r : ValuedEnum) (old new : State) (list : List Fault) → AreClosedOf c items list → slice_get items at ≡ Some x → known_at c at ≡ Some v → r.table.value ≡ v.table.value → r.values ≡ v.values
    → ((n : Name) (es : List (Name × ℕ)) → IsValued n es r → Adds n es old new) → AddsItem o x old new list list
adds_known c items at x o v r old new list h here known table values adds = adds-as o v r old new list (item_is x) (subst (IsClosedItem list v) here (h.each at v known)) table values adds

-- What is held stays held where an item is read.

item-held : (c : ClosedEnums) (items : List Item) (o : Outer) (x : ItemIs) (old new : State) (before after : List Fault) → AddsAs o x old new before after → (IsAlike (old.table ∷ bodies o) (old.table ∷ bodies o)) → AreClosedOf c items before → AreClosedOf c items after
item-held c items o (view.enumeration n es) old new before after adds alike h = subst (AreClosedOf c items) (sym (adds (old.table ∷ bodies o) alike).1) (closed_stays c items (of_entries (judged (old.table ∷ bodies o) es)) before h)
item-held c items o (view.definition d) old new before after adds alike h = subst (AreClosedOf c items) (sym adds.1) h
item-held c items o (view.made a n is) old new before after adds alike h = subst (AreClosedOf c items) (sym adds.1) h
item-held c items o (view.default_ s) old new before after adds alike h = subst (AreClosedOf c items) (sym adds.1) h
item-held c items o (view.local s) old new before after adds alike h = subst (AreClosedOf c items) (sym adds.1) h
item-held c items o (view.dynamic p s) old new before after adds alike h = subst (AreClosedOf c items) (sym adds.1) h

pub held_more : (c : ClosedEnums) (items : List Item) (o : Outer) (x : Item) (old new : State) (before after : List Fault) → AddsItem o x old new before after → AreClosedOf c items before → AreClosedOf c items after
held_more c items o x old new before after adds h = item-held c items o (item_is x) old new before after adds (alike_same (old.table ∷ bodies o)) h
