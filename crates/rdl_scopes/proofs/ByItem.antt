-- The names of a body, item by item.
use Rattle.std.proofs.Common.{◌≡◌, ◌∙◌, ℕ, suc, zero, ◌+◌, ◌<◌, ◌≤◌, cond, List, [], ◌∷◌, ◌++◌, length, get_or, take, map, flat_map, slice_get, Some, refl, sym, ap, subst, append-nil, arith}
use Rattle.std.specs.List.{AllByRecursion}
use Rattle.std.proofs.lemmas.Grind.{flat_map-append}
use Rattle.std.proofs.lemmas.List.{map-append, take_more}
use Rattle.std.proofs.lemmas.Option.{slice_get_read}
use Rattle.rdl_base.specs.declared.fault.Fault.{Fault}
use Rattle.rdl_tree.specs.InOrder.{IsInOrder, RiseFrom, place_of, more}
use Rattle.rdl_tree.specs.declared.expr.Name.{Name}
use Rattle.rdl_tree.specs.declared.item.Entry.{Entry}
use Rattle.rdl_tree.specs.declared.item.Item.{Item, Def', EnumDef, Made, Default, Local, Dynamic}
use Rattle.rdl_tree.specs.declared.value.EnumValues.{EnumValues}
use Rattle.rdl_values.specs.Bodies.{Body, around, standing}
use Rattle.rdl_values.specs.Enums.{around_enum, enum_of, judged, names_of, with_item, with_items}
use Rattle.rdl_values.specs.Phase3.{of_enum}
use Rattle.rdl_values.specs.Seen.{listed_enum}
use Rattle.rdl_values.specs.Table.{is_enum_named}
use Rattle.rdl_values.specs.Values.{Around, Names, Val}
use Rattle.rdl_values.specs.Views as view
use Rattle.rdl_values.specs.Views.{ItemIs, item_is}
use Rattle.rdl_failures.specs.Noted.{with_all}
use Rattle.rdl_failures.specs.Shown.{IsAlike}
use Rattle.rdl_failures.proofs.Around.{alike_same}
use Rattle.rdl_failures.proofs.Noting.{standing-push}
use Rattle.rdl_failures.proofs.Sets.{with_all-append}
use Rattle.rdl_scopes.specs.Entries.{IsValued, listed_as}
use Rattle.rdl_scopes.specs.Opened.{Adds, AddsAs, AddsItem, IsOpened, State, bodies}
use Rattle.rdl_scopes.specs.declared.entries.ValuedEnum.{ValuedEnum}
use Rattle.rdl_scopes.specs.declared.enums.Opened.{Opened}
use Rattle.rdl_scopes.specs.declared.enums.Outer.{Outer}
use Rattle.rdl_scopes.proofs.Meant.{AreMeant, alike_bodies, meant_more, meant_none}

-- Places.

abbrev pub Below : ℕ → List Item → Type 0
Below k is = AllByRecursion (λ i. (place_of i).0 < k) is

from-start : (k : ℕ) (is : List Item) (j : ℕ) (x : Item) → RiseFrom k is → slice_get is j ≡ Some x → k ≤ (place_of x).0
from-start k [] j x r at = cc
from-start k (i ∷ is) zero x (more low inside rest) at = let same : i ≡ x = cc in subst (λ y. k ≤ (place_of y).0) same low
from-start k (i ∷ is) (suc j) x (more low inside rest) at = let l = from-start ((place_of i).0 + 1) is j x rest at in omega (arith, l, low)

front-below : (k : ℕ) (is : List Item) (j : ℕ) (x : Item) → RiseFrom k is → slice_get is j ≡ Some x → Below (place_of x).0 (take j is)
front-below k [] j x r at = cc
front-below k (i ∷ is) zero x r at = tt
front-below k (i ∷ is) (suc j) x (more low inside rest) at = let l = from-start ((place_of i).0 + 1) is j x rest at in (omega (arith, l), front-below ((place_of i).0 + 1) is j x rest at)

all-push : {X : Type 0} (P : X → Type 0) (xs : List X) (x : X) → AllByRecursion P xs → P x → AllByRecursion P (xs ++ (x ∷ []))
all-push P [] x all p = (p, tt)
all-push P (y ∷ xs) x all p = (all.0, all-push P xs x all.1 p)

all-front : {X : Type 0} (P : X → Type 0) (xs : List X) (x : X) → AllByRecursion P (xs ++ (x ∷ [])) → AllByRecursion P xs
all-front P [] x all = tt
all-front P (y ∷ xs) x all = (all.0, all-front P xs x all.1)

all-last : {X : Type 0} (P : X → Type 0) (xs : List X) (x : X) → AllByRecursion P (xs ++ (x ∷ [])) → P x
all-last P [] x all = all.0
all-last P (y ∷ xs) x all = all-last P xs x all.1

enum-place : (i : Item) (n : Name) (es : List Entry) → item_is i ≡ view.enumeration n es → (place_of i).0 ≡ n.place.0
enum-place (Def' k m ps p shape rows insts place) n es e = cc
enum-place (EnumDef m fs) n es e = let same : m ≡ n = cc in ap (λ x. x.place.0) same
enum-place (Made a of is) n es e = cc
enum-place (Default s) n es e = cc
enum-place (Local s) n es e = cc
enum-place (Dynamic p s) n es e = cc

-- One item more.

with_items-push : (outer : Around) (names : Names) (xs : List Item) (x : Item) → with_items outer names (xs ++ (x ∷ [])) ≡ with_item outer (with_items outer names xs) (item_is x)
with_items-push outer names [] x = refl
with_items-push outer names (y ∷ xs) x = with_items-push outer (with_item outer names (item_is y)) xs x

-- What is known of the names behind some items.
pub record IsOpenedTo (bound : List (List ℕ × Val)) (items : List Item) (o : Outer) (s : State) : Type 0 where
  pub same : s.table.bound ≡ bound
  pub meant : (outer : Around) → IsAlike (bodies o) outer → AreMeant s.table.enums (names_of outer bound items).enums
  pub listed : (outer : Around) → IsAlike (bodies o) outer → s.enums ≡ (names_of outer bound items).enums
  pub below : (k : ℕ) → Below k items → AllByRecursion (λ e. e.place < k) s.enums

pub opened_none : (t : Names) (o : Outer) → t.enums ≡ [] → IsOpenedTo t.bound [] o (record { table = t; enums = [] })
opened_none t o e = record {
  same = refl;
  meant = λ outer h. subst (λ xs. AreMeant xs []) (sym e) meant_none;
  listed = λ outer h. refl;
  below = λ k b. tt;
}

names-bound : (outer : Around) (names : Names) (items : List Item) → (with_items outer names items).bound ≡ names.bound
names-bound outer names [] = refl
names-bound outer names (i ∷ is) = names-bound outer (with_item outer names (item_is i)) is ∙ go (item_is i)
  where
    go : (v : ItemIs) → (with_item outer names v).bound ≡ names.bound
    go (view.definition d) = refl
    go (view.enumeration n es) = refl
    go (view.made a n is) = refl
    go (view.default_ s) = refl
    go (view.local s) = refl
    go (view.dynamic p s) = refl

-- the table and the bodies round it show the names so far
shows : (bound : List (List ℕ × Val)) (items : List Item) (o : Outer) (s : State) → IsOpenedTo bound items o s → (outer : Around) → IsAlike (bodies o) outer → IsAlike (s.table ∷ bodies o) (names_of outer bound items ∷ outer)
shows bound items o s h outer a = alike_bodies s.table (names_of outer bound items) (bodies o) outer (h.same ∙ sym (names-bound outer (record { bound = bound; enums = [] }) items)) (h.meant outer a) a

-- An enumeration more.

module _ (bound : List (List ℕ × Val)) (front : List Item) (x : Item) (o : Outer) (old new : State) (h : IsOpenedTo bound front o old) (below : Below (place_of x).0 front) where
  other_item : new ≡ old → ((outer : Around) → names_of outer bound (front ++ (x ∷ [])) ≡ names_of outer bound front) → IsOpenedTo bound (front ++ (x ∷ [])) o new
  other_item e same = subst (IsOpenedTo bound (front ++ (x ∷ [])) o) (sym e) (record {
    same = h.same;
    meant = λ outer a. subst (λ ns. AreMeant old.table.enums ns.enums) (sym (same outer)) (h.meant outer a);
    listed = λ outer a. h.listed outer a ∙ ap (λ ns. ns.enums) (sym (same outer));
    below = λ k b. h.below k (all-front (λ i. (place_of i).0 < k) front x b);
  })

  module _ (n : Name) (es : List Entry) (is : item_is x ≡ view.enumeration n es) (adds : (outer : Around) → IsAlike (bodies o) outer → Adds n (judged (names_of outer bound front ∷ outer) es).entries old new)
      (any : Around) (alike : IsAlike (bodies o) any) where
    abbrev at : Around → Names
    at outer = names_of outer bound front

    abbrev numbers : Around → List (Name × ℕ)
    numbers outer = (judged (at outer ∷ outer) es).entries

    behind : (outer : Around) → names_of outer bound (front ++ (x ∷ [])) ≡ record (at outer) { enums = (at outer).enums ++ (enum_of (at outer ∷ outer) n es ∷ []) }
    behind outer = with_items-push outer (record { bound = bound; enums = [] }) front x ∙ ap (with_item outer (at outer)) is

    place : (place_of x).0 ≡ n.place.0
    place = enum-place x n es is

    past : AllByRecursion (λ e. e.place < n.place.0) old.enums
    past = subst (λ k. AllByRecursion (λ e. e.place < k) old.enums) place (h.below (place_of x).0 below)

    own-below : (k : ℕ) → Below k (front ++ (x ∷ [])) → n.place.0 < k
    own-below k b = subst (λ j. j < k) place (all-last (λ i. (place_of i).0 < k) front x b)

    one_enum : IsOpenedTo bound (front ++ (x ∷ [])) o new
    one_enum = record {
      same = (adds any alike).kept ∙ h.same;
      meant = λ outer a.
          let one = adds outer a in
          let more = meant_more old.table.enums (at outer).enums one.table (enum_of (at outer ∷ outer) n es) (h.meant outer a) one.is.named one.is.place one.is.numbers (subst (AllByRecursion (λ e. e.place < n.place.0)) (h.listed outer a) past) in
          subst (λ ns. AreMeant new.table.enums ns.enums) (sym (behind outer)) (subst (λ xs. AreMeant xs ((at outer).enums ++ (enum_of (at outer ∷ outer) n es ∷ []))) (sym one.added) more);
      listed = λ outer a. (adds outer a).listed ∙ ap (λ xs. xs ++ (enum_of (at outer ∷ outer) n es ∷ [])) (h.listed outer a) ∙ ap (λ ns. ns.enums) (sym (behind outer));
      below = λ k b. subst (AllByRecursion (λ e. e.place < k)) (sym (adds any alike).listed) (all-push (λ e. e.place < k) old.enums (enum_of (at any ∷ any) n es) (h.below k (all-front (λ i. (place_of i).0 < k) front x b)) (own-below k b));
    }

-- The names behind one item more.

names-push : (outer : Around) (bound : List (List ℕ × Val)) (front : List Item) (x : Item) (v : ItemIs) → item_is x ≡ v → ((names : Names) → with_item outer names v ≡ names) → names_of outer bound (front ++ (x ∷ [])) ≡ names_of outer bound front
names-push outer bound front x v e same = with_items-push outer (record { bound = bound; enums = [] }) front x ∙ ap (with_item outer (names_of outer bound front)) e ∙ same (names_of outer bound front)

opened-push : (bound : List (List ℕ × Val)) (front : List Item) (x : Item) (o : Outer) (old new : State) (before after : List Fault) → IsOpenedTo bound front o old → Below (place_of x).0 front → AddsItem o x old new before after
    → IsOpenedTo bound (front ++ (x ∷ [])) o new
opened-push bound front x o old new before after h below adds = go (item_is x) refl adds
  where
    go : (v : ItemIs) → item_is x ≡ v → AddsAs o v old new before after → IsOpenedTo bound (front ++ (x ∷ [])) o new
    go (view.enumeration n es) e r = one_enum bound front x o old new h below n es e (λ outer a. (r (names_of outer bound front ∷ outer) (shows bound front o old h outer a)).0) (bodies o) (alike_same (bodies o))
    go (view.definition d) e r = other_item bound front x o old new h below r.0 (λ outer. names-push outer bound front x (view.definition d) e (λ names. refl))
    go (view.made a n is) e r = other_item bound front x o old new h below r.0 (λ outer. names-push outer bound front x (view.made a n is) e (λ names. refl))
    go (view.default_ s) e r = other_item bound front x o old new h below r.0 (λ outer. names-push outer bound front x (view.default_ s) e (λ names. refl))
    go (view.local s) e r = other_item bound front x o old new h below r.0 (λ outer. names-push outer bound front x (view.local s) e (λ names. refl))
    go (view.dynamic p s) e r = other_item bound front x o old new h below r.0 (λ outer. names-push outer bound front x (view.dynamic p s) e (λ names. refl))

pub opened_step : (bound : List (List ℕ × Val)) (items : List Item) (i : ℕ) (x : Item) (o : Outer) (old new : State) (before after : List Fault) → i < length items → x ≡ get_or items i x → IsInOrder items
    → IsOpenedTo bound (take i items) o old → AddsItem o x old new before after → IsOpenedTo bound (take (i + 1) items) o new
opened_step bound items i x o old new before after l at order h adds =
    let last : take (i + 1) items ≡ take i items ++ (x ∷ []) = take_more items i x l ∙ ap (λ y. take i items ++ (y ∷ [])) (sym at) in
    let below = front-below 0 items i x order (slice_get_read items (length items) i x refl l at) in
    subst (λ is. IsOpenedTo bound is o new) (sym last) (opened-push bound (take i items) x o old new before after h below adds)

-- the failures of the enumeration that an item is, behind those before it
abbrev pub enum_fails : Body → List Item × Item → List Fault
enum_fails b i = of_enum (around_enum b i.0) (item_is i.1)

noted-push : (b : Body) (front : List Item) (x : Item) (o : Outer) (old new : State) (before after : List Fault) → IsOpenedTo b.names.bound front o old → IsAlike (bodies o) (around b.outer) → AddsItem o x old new before after
    → after ≡ with_all (enum_fails b (front, x)) before
noted-push b front x o old new before after h a adds = go (item_is x) adds
  where
    go : (v : ItemIs) → AddsAs o v old new before after → after ≡ with_all (of_enum (around_enum b front) v) before
    go (view.enumeration n es) r = (r (around_enum b front) (shows b.names.bound front o old h (around b.outer) a)).1
    go (view.definition d) r = r.1
    go (view.made a n is) r = r.1
    go (view.default_ s) r = r.1
    go (view.local s) r = r.1
    go (view.dynamic p s) r = r.1

pub noted_step : (bound : List (List ℕ × Val)) (items : List Item) (i : ℕ) (x : Item) (o : Outer) (old new : State) (start before after : List Fault) → i < length items → x ≡ get_or items i x
    → IsOpenedTo bound (take i items) o old → AddsItem o x old new before after → (b : Body) → b.names.bound ≡ bound → IsAlike (bodies o) (around b.outer)
    → before ≡ with_all (flat_map (enum_fails b) (standing (take i items))) start → after ≡ with_all (flat_map (enum_fails b) (standing (take (i + 1) items))) start
noted_step bound items i x o old new start before after l at h adds b same a so =
    let front = take i items in
    let last : take (i + 1) items ≡ front ++ (x ∷ []) = take_more items i x l ∙ ap (λ y. front ++ (y ∷ [])) (sym at) in
    let all : flat_map (enum_fails b) (standing (take (i + 1) items)) ≡ flat_map (enum_fails b) (standing front) ++ enum_fails b (front, x) =
    ap (flat_map (enum_fails b)) (ap standing last ∙ standing-push front x) ∙ flat_map-append (enum_fails b) (standing front) ((front, x) ∷ []) ∙ ap (λ fs. flat_map (enum_fails b) (standing front) ++ fs) (append-nil (enum_fails b (front, x))) in
    noted-push b front x o old new before after (subst (λ bs. IsOpenedTo bs front o old) (sym same) h) a adds
    ∙ ap (with_all (enum_fails b (front, x))) so ∙ sym (with_all-append (flat_map (enum_fails b) (standing front)) (enum_fails b (front, x)) start) ∙ ap (λ fs. with_all fs start) (sym all)

pub opened_all : (bound : List (List ℕ × Val)) (items front : List Item) (o : Outer) (s : State) (r : Opened) → front ≡ items → IsOpenedTo bound front o s → r.table ≡ s.table → map listed_enum r.enums.now ≡ s.enums → IsOpened bound items o r
opened_all bound items front o s r e h table enums =
    let all = subst (λ is. IsOpenedTo bound is o s) e h in
    record {
      same = ap (λ t. t.bound) table ∙ all.same;
      alike = λ outer a. subst (λ t. IsAlike (t ∷ bodies o) (names_of outer bound items ∷ outer)) (sym table) (shows bound items o s all outer a);
      listed = λ outer a. enums ∙ all.listed outer a;
    }

-- One enumeration is put behind the others.
pub adds_one : (old new : State) (before after : List EnumValues) (v : ValuedEnum) (name : Name) (es : List (Name × ℕ)) → IsValued name es v → new.table.bound ≡ old.table.bound
    → new.table.enums ≡ cond (is_enum_named v.table.value.name old.table.enums) old.table.enums (old.table.enums ++ (v.table.value ∷ [])) → old.enums ≡ map listed_enum before → new.enums ≡ map listed_enum after → after ≡ before ++ (v.values ∷ []) → Adds name es old new
adds_one old new before after v name es h kept added was now pushed = record {
  table = v.table.value;
  is = h.table;
  kept = kept;
  added = added;
  listed = now ∙ ap (map listed_enum) pushed ∙ map-append listed_enum before (v.values ∷ []) ∙ ap (λ x. map listed_enum before ++ (x ∷ [])) h.listed ∙ ap (λ xs. xs ++ (listed_as name es ∷ [])) (sym was);
}
