-- What a body has, and what a name means there, apart from addresses.
use Rattle.std.specs.Option.{option_or}
use Rattle.std.proofs.Common.{◌≡◌, ℕ, cond, refl, ap, ◌∙◌, List, [], ◌∷◌, ◌++◌, map, Option, Some, None, option_map, Ok, Err}
use Rattle.plain_lemmas.proofs.Bools.{cond-map as cond_map}
use Rattle.rdl_tree.specs.declared.expr.Expr.{Expr}
use Rattle.rdl_tree.specs.declared.expr.Name.{Name}
use Rattle.rdl_tree.specs.declared.item.Def.{Def}
use Rattle.rdl_tree.specs.declared.item.Entry.{Entry}
use Rattle.rdl_tree.specs.declared.item.Item.{Item}
use Rattle.rdl_verdict_laws.specs.Plain.{plain_name, plain_entry, plain_item, plain_def}
use Rattle.rdl_values.specs.Bodies.{Layer, Scope, Body, around, standing, is_named, component_of, if_named, is_component, found, closure_in, component}
use Rattle.rdl_values.specs.Enums.{Judged, entry_number, judged_from, judged, enum_of, with_item, with_items, names_of, around_enum}
use Rattle.rdl_values.specs.Values.{Val, Around, Names, Outcome, nearest}
use Rattle.rdl_values.specs.Views as view
use Rattle.rdl_values.specs.Views.{ItemIs, item_is}
use Rattle.rdl_verdict_laws.specs.PlainInstances.{plain_view, plain_layer, plain_scope, plain_closure, plain_body}
use Rattle.rdl_verdict_laws.proofs.Lists.{map_id, both, standing_under, or_under}
use Rattle.rdl_verdict_laws.proofs.Values.{item_is-plain, number-plain}

pub around-plain : (s : Scope) → around (plain_scope s) ≡ around s
around-plain s = map_id (λ l. l.names) plain_layer (λ l. refl) s

-- Enumerations.

entry_of : (r : Around) (k : Option ℕ) (n : Name) (v : Option Expr) (sets : _) → entry_number r k (plain_entry (record { name = n; value = v; sets = sets })) ≡ entry_number r k (record { name = n; value = v; sets = sets })
entry_of r k n None sets = refl
entry_of r k n (Some e) sets = number-plain r e

entry-plain : (r : Around) (k : Option ℕ) (e : Entry) → entry_number r k (plain_entry e) ≡ entry_number r k e
entry-plain r k e = entry_of r k e.name e.value e.sets

abbrev pub plain_numbered : Name × ℕ → Name × ℕ
plain_numbered e = (plain_name e.0, e.1)

abbrev pub plain_judged : Judged → Judged
plain_judged j = record { entries = map plain_numbered j.entries; failure = j.failure }

abbrev judge_step : Name → Outcome ℕ → (ℕ → Judged) → Judged
judge_step n (Ok k) rest = record { entries = (n, k) ∷ (rest k).entries; failure = (rest k).failure }
judge_step n (Err f) rest = record { entries = []; failure = Some f }

step-plain : (n : Name) (o : Outcome ℕ) (rest : ℕ → Judged) → judge_step (plain_name n) o (λ k. plain_judged (rest k)) ≡ plain_judged (judge_step n o rest)
step-plain n (Ok k) rest = refl
step-plain n (Err f) rest = refl

judged_from-plain : (r : Around) (k : Option ℕ) (es : List Entry) → judged_from r k (map plain_entry es) ≡ plain_judged (judged_from r k es)
judged_from-plain r k [] = refl
judged_from-plain r k (e ∷ es) = (λ i. judge_step (plain_name e.name) (entry-plain r k e i) (λ n. judged_from-plain r (Some n) es i)) ∙ step-plain e.name (entry_number r k e) (λ n. judged_from r (Some n) es)

pub judged-plain : (r : Around) (es : List Entry) → judged r (map plain_entry es) ≡ plain_judged (judged r es)
judged-plain r es = judged_from-plain r None es

enum-plain : (r : Around) (n : Name) (es : List Entry) → enum_of r (plain_name n) (map plain_entry es) ≡ enum_of r n es
enum-plain r n es = λ i. record { name = n.text.now; place = n.place.0; entries = (ap (λ (j : Judged). map (λ e. (e.0.text.now, e.1)) j.entries) (judged-plain r es) ∙ map_id (λ (e : Name × ℕ). (e.0.text.now, e.1)) plain_numbered (λ e. refl) (judged r es).entries) i }

with_item-plain : (outer : Around) (names : Names) (v : ItemIs) → with_item outer names (plain_view v) ≡ with_item outer names v
with_item-plain outer names (view.enumeration n es) = λ i. record names { enums = names.enums ++ (enum-plain (names ∷ outer) n es i ∷ []) }
with_item-plain outer names (view.definition d) = refl
with_item-plain outer names (view.made a of is) = refl
with_item-plain outer names (view.default_ s) = refl
with_item-plain outer names (view.local s) = refl
with_item-plain outer names (view.dynamic p s) = refl

with_items-plain : (outer : Around) (names : Names) (is : List Item) → with_items outer names (map plain_item is) ≡ with_items outer names is
with_items-plain outer names [] = refl
with_items-plain outer names (x ∷ is) =
    ap (λ (n : Names). with_items outer n (map plain_item is)) (ap (with_item outer names) (item_is-plain x) ∙ with_item-plain outer names (item_is x)) ∙ with_items-plain outer (with_item outer names (item_is x)) is

pub names-plain : (outer : Around) (bound : List (List ℕ × Val)) (is : List Item) → names_of outer bound (map plain_item is) ≡ names_of outer bound is
names-plain outer bound is = with_items-plain outer (record { bound = bound; enums = [] }) is

pub around_enum-plain : (b : Body) (before : List Item) → around_enum (plain_body b) (map plain_item before) ≡ around_enum b before
around_enum-plain b before = (λ i. names_of (around-plain b.outer i) b.names.bound (map plain_item before) ∷ around-plain b.outer i) ∙ ap (λ n. n ∷ around b.outer) (names-plain (around b.outer) b.names.bound before)

-- Components.

pub named-plain : (n : List ℕ) (m : Option Name) → is_named n (option_map plain_name m) ≡ is_named n m
named-plain n None = refl
named-plain n (Some m) = refl

pub component_of-plain : (v : ItemIs) → component_of (plain_view v) ≡ option_map plain_def (component_of v)
component_of-plain (view.definition d) = refl
component_of-plain (view.enumeration n es) = refl
component_of-plain (view.made a of is) = refl
component_of-plain (view.default_ s) = refl
component_of-plain (view.local s) = refl
component_of-plain (view.dynamic p s) = refl

if_named-plain : (n : List ℕ) (d : Option Def) → if_named n (option_map plain_def d) ≡ option_map plain_def (if_named n d)
if_named-plain n None = refl
if_named-plain n (Some d) = (λ i. cond (named-plain n d.name i) (Some (plain_def d)) None) ∙ cond_map (option_map plain_def) (is_named n d.name) (Some d) None

is_component-plain : (n : List ℕ) (v : ItemIs) → is_component n (plain_view v) ≡ option_map plain_def (is_component n v)
is_component-plain n v = ap (if_named n) (component_of-plain v) ∙ if_named-plain n (component_of v)

abbrev plain_found : List Item × Def → List Item × Def
plain_found f = (map plain_item f.0, plain_def f.1)

map_found : (before : List Item) (d : Option Def) → option_map (λ (d : Def). (map plain_item before, d)) (option_map plain_def d) ≡ option_map plain_found (option_map (λ (d : Def). (before, d)) d)
map_found before None = refl
map_found before (Some d) = refl

found-plain : (n : List ℕ) (x : List Item × Item) → found n (both plain_item x) ≡ option_map plain_found (found n x)
found-plain n x = ap (option_map (λ (d : Def). (map plain_item x.0, d))) (ap (is_component n) (item_is-plain x.1) ∙ is_component-plain n (item_is x.1)) ∙ map_found x.0 (is_component n (item_is x.1))

map_closure : (l : Layer) (outer : Scope) (f : Option (List Item × Def)) → option_map (closure_in (plain_layer l) (plain_scope outer)) (option_map plain_found f) ≡ option_map plain_closure (option_map (closure_in l outer) f)
map_closure l outer None = refl
map_closure l outer (Some f) = refl

nearest-found : (n : List ℕ) (before : List Item) → nearest (found n) (standing (map plain_item before)) ≡ option_map plain_found (nearest (found n) (standing before))
nearest-found n before = ap (nearest (found n)) (standing_under plain_item before) ∙ go (standing before)
  where
    go : (xs : List (List Item × Item)) → nearest (found n) (map (both plain_item) xs) ≡ option_map plain_found (nearest (found n) xs)
    go [] = refl
    go (x ∷ xs) = (λ i. option_or (found-plain n x i) (go xs i)) ∙ or_under plain_found (found n x) (nearest (found n) xs)

pub component-plain : (n : List ℕ) (s : Scope) → component n (plain_scope s) ≡ option_map plain_closure (component n s)
component-plain n [] = refl
component-plain n (l ∷ outer) =
    (λ i. option_or ((ap (option_map (closure_in (plain_layer l) (plain_scope outer))) (nearest-found n l.before) ∙ map_closure l outer (nearest (found n) (standing l.before))) i) (component-plain n outer i))
    ∙ or_under plain_closure (option_map (closure_in l outer) (nearest (found n) (standing l.before))) (component n outer)
