-- Which definitions the uses of a body are of: where they stand, and in which bodies.
use Rattle.std.proofs.Common.{◌≡◌, ◌∙◌, ℕ, zero, suc, ◌≤◌, Bool, true, false, cond, List, [], ◌∷◌, ◌++◌, length, drop, map, take, flat_map, slice_get, Option, None, Some, option_map, option_to_list, refl, sym, ap, subst, arith, append_assoc}
use Rattle.std.specs.List.{AllByRecursion}
use Rattle.std.specs.Option.{option_or}
use Rattle.std.proofs.lemmas.List.{length-drop}
use Rattle.rb_base.specs.declared.place.Place.{Place}
use Rattle.rdl_tree.specs.declared.expr.Name.{Name}
use Rattle.rdl_tree.specs.declared.item.Def.{Def}
use Rattle.rdl_tree.specs.declared.item.Insts.{Insts}
use Rattle.rdl_tree.specs.declared.item.Item.{Item}
use Rattle.rdl_values.specs.Bodies as values
use Rattle.rdl_values.specs.Bodies.{Closure, Layer, Scope, around, closure_in, component, component_of, found, is_component, is_named, scope_at, standing, standing_from}
use Rattle.rdl_values.specs.Uses.{Seen, Use, seen, uses, uses_of_insts, uses_of_item}
use Rattle.rdl_values.specs.Values.{Around, Names, nearest}
use Rattle.rdl_values.specs.Views as view
use Rattle.rdl_values.specs.Views.{ItemIs, item_is}
use Rattle.rdl_values.proofs.Given.{each-map}
use Rattle.plain_lemmas.proofs.Lists.{each-append, each-flat_map, each-imp}
use Rattle.rdl_scopes.specs.declared.components.Components.{Components}
use Rattle.rdl_scopes.specs.Scopes.{Shows, items_at}
use Rattle.rdl_bodies.specs.Kept.{AreBelow}
use Rattle.rdl_bodies.specs.Sited.{HaveNames, def_at}
use Rattle.rdl_bodies.specs.declared.bodies.Body.{Body}

-- The definition stands among these items, behind those.
pub record Holds (all before : List Item) (d : Def) : Type 0 where
  pub item : Item
  pub rest : List Item
  pub split : all ≡ before ++ (item ∷ rest)
  pub is : component_of (item_is item) ≡ Some d

-- The closure is one of a definition in the first items of a scope's bodies.
pub data Reached : Scope → Closure → Type 0 where
  here : {l : Layer} {outer : Scope} {c : Closure} (before : List Item) → c.scope ≡ record l { before = before } ∷ outer → Holds l.before before c.def → Reached (l ∷ outer) c
  above : {l : Layer} {outer : Scope} {c : Closure} → Reached outer c → Reached (l ∷ outer) c

-- Items at the front.

abbrev HeldIn : List Item → List (List Item × Item) → Type 0
HeldIn all is = AllByRecursion (λ i. (d : Def) → component_of (item_is i.1) ≡ Some d → Holds all i.0 d) is

held_from : (all before is : List Item) → before ++ is ≡ all → HeldIn all (standing_from before is)
held_from all before [] e = tt
held_from all before (i ∷ is) e = (λ d q. record { item = i; rest = is; split = sym e; is = q }, held_from all (before ++ (i ∷ [])) is (append_assoc before (i ∷ []) is ∙ e))

held_in : (is : List Item) → HeldIn is (standing is)
held_in is = held_from is [] is refl

holds_more : (all before more : List Item) (d : Def) → Holds all before d → Holds (all ++ more) before d
holds_more all before more d h = record {
  item = h.item;
  rest = h.rest ++ more;
  split = ap (λ xs. xs ++ more) h.split ∙ append_assoc before (h.item ∷ h.rest) more;
  is = h.is;
}

-- Looking a component up.

abbrev FoundIn : List Item → Option (List Item × Def) → Type 0
FoundIn all None = Unit {0}
FoundIn all (Some f) = Holds all f.0 f.1

if_component : (n : List ℕ) (i : ItemIs) (d : Def) → is_component n i ≡ Some d → component_of i ≡ Some d
if_component n i d q = go (component_of i) q
  where
    go : (o : Option Def) → values.if_named n o ≡ Some d → o ≡ Some d
    go None r = cc
    go (Some e) r = named (is_named n e.name) r
      where
        named : (b : Bool) → cond b (Some e) None ≡ Some d → Some e ≡ Some d
        named true r = r
        named false r = cc

one_found : (n : List ℕ) (all : List Item) (i : List Item × Item) → ((d : Def) → component_of (item_is i.1) ≡ Some d → Holds all i.0 d) → FoundIn all (found n i)
one_found n all i h = go (is_component n (item_is i.1)) refl
  where
    go : (o : Option Def) → is_component n (item_is i.1) ≡ o → FoundIn all (option_map (λ d. (i.0, d)) o)
    go None q = tt
    go (Some d) q = h d (if_component n (item_is i.1) d q)

found_in : (n : List ℕ) (all : List Item) (is : List (List Item × Item)) → HeldIn all is → FoundIn all (nearest (found n) is)
found_in n all [] h = tt
found_in n all (i ∷ is) h = go (found n i) (one_found n all i h.0) (found_in n all is h.1)
  where
    go : (o : Option (List Item × Def)) → FoundIn all o → FoundIn all (nearest (found n) is) → FoundIn all (option_or o (nearest (found n) is))
    go None a b = b
    go (Some f) a b = a

abbrev IsReached : Scope → Option Closure → Type 0
IsReached scope None = Unit {0}
IsReached scope (Some c) = Reached scope c

raise : (l : Layer) (outer : Scope) (o : Option Closure) → IsReached outer o → IsReached (l ∷ outer) o
raise l outer None h = tt
raise l outer (Some c) h = above h

component_reached : (n : List ℕ) (scope : Scope) → IsReached scope (component n scope)
component_reached n [] = tt
component_reached n (l ∷ outer) = go (nearest (found n) (standing l.before)) (found_in n l.before (standing l.before) (held_in l.before)) (component_reached n outer)
  where
    go : (o : Option (List Item × Def)) → FoundIn l.before o → IsReached outer (component n outer) → IsReached (l ∷ outer) (option_or (option_map (closure_in l outer) o) (component n outer))
    go None a rest = raise l outer (component n outer) rest
    go (Some f) a rest = here f.0 refl a

-- What is reached from the front of a body is so from the whole body.

longer : (b : values.Body) (before rest : List Item) (c : Closure) → before ++ rest ≡ b.items → Reached (scope_at b before) c → Reached (scope_at b b.items) c
longer b before rest c e (here at is h) = here at is (subst (λ all. Holds all at c.def) e (holds_more before at rest c.def h))
longer b before rest c e (above r) = above r

longer_o : (b : values.Body) (before rest : List Item) (o : Option Closure) → before ++ rest ≡ b.items → IsReached (scope_at b before) o → IsReached (scope_at b b.items) o
longer_o b before rest None e h = tt
longer_o b before rest (Some c) e h = longer b before rest c e h

-- The uses of a body.

abbrev UsesReach : Scope → List Use → Type 0
UsesReach scope us = AllByRecursion (λ u. IsReached scope u.closure) us

insts_reach : (all scope : Scope) (alias : Option Name) (place : Place) (c : Option Closure) (is : Insts) → IsReached all c → UsesReach all (uses_of_insts scope alias place c is)
insts_reach all scope alias place c is h = each-map (λ u. IsReached all u.closure) _ is.list.now (λ i. h)

abbrev Cut : values.Body → List Item × Item → Type 0
Cut b i = (rest : List Item) × (i.0 ++ (i.1 ∷ rest) ≡ b.items)

cuts_from : (b : values.Body) (before is : List Item) → before ++ is ≡ b.items → AllByRecursion (Cut b) (standing_from before is)
cuts_from b before [] e = tt
cuts_from b before (i ∷ is) e = ((is, e), cuts_from b (before ++ (i ∷ [])) is (append_assoc before (i ∷ []) is ∙ e))

item_reach : (b : values.Body) (i : List Item × Item) → Cut b i → UsesReach (scope_at b b.items) (uses_of_item (scope_at b i.0) (item_is i.1))
item_reach b i cut = go (item_is i.1) refl
  where
    all : Scope
    all = scope_at b b.items

    scope : Scope
    scope = scope_at b i.0

    own : (d : Def) → item_is i.1 ≡ view.definition d → Reached all (record { def = d; scope = scope })
    own d q = here i.0 refl (record { item = i.1; rest = cut.0; split = sym cut.1; is = ap component_of q })

    behind : (d : Def) (o : Option Insts) → item_is i.1 ≡ view.definition d → UsesReach all (flat_map (uses_of_insts scope None d.place (Some (record { def = d; scope = scope }))) (option_to_list o))
    behind d None q = tt
    behind d (Some is) q = each-append (λ u. IsReached all u.closure) (uses_of_insts scope None d.place (Some (record { def = d; scope = scope })) is) [] (insts_reach all scope None d.place (Some (record { def = d; scope = scope })) is (own d q)) tt

    go : (v : ItemIs) → item_is i.1 ≡ v → UsesReach all (uses_of_item scope v)
    go (view.definition d) q = behind d d.insts q
    go (view.made alias of is) q = insts_reach all scope alias of.place (component of.text.now scope) is (longer_o b i.0 (i.1 ∷ cut.0) (component of.text.now scope) cut.1 (component_reached of.text.now scope))
    go (view.enumeration n es) q = tt
    go (view.default_ s) q = tt
    go (view.local s) q = tt
    go (view.dynamic t s) q = tt

uses_reach : (b : values.Body) → UsesReach (scope_at b b.items) (uses b)
uses_reach b =
    each-flat_map (λ u. IsReached (scope_at b b.items) u.closure) (λ i. uses_of_item (scope_at b i.0) (item_is i.1)) (standing b.items)
    (each-imp (Cut b) (λ i. UsesReach (scope_at b b.items) (uses_of_item (scope_at b i.0) (item_is i.1))) (standing b.items) (item_reach b) (cuts_from b [] b.items refl))

abbrev pub SeenReaches : Scope → Seen → Type 0
SeenReaches scope s = IsReached scope s.use_.closure

standing_uses : (P : Use → Type 0) (before us : List Use) → AllByRecursion P us → AllByRecursion (λ u. P u.1) (standing_from before us)
standing_uses P before [] h = tt
standing_uses P before (u ∷ us) h = (h.0, standing_uses P (before ++ (u ∷ [])) us h.1)

mapped : (scope : Scope) (f : List Use × Use → Seen) (us : List (List Use × Use)) → ((u : List Use × Use) → IsReached scope u.1.closure → SeenReaches scope (f u)) → AllByRecursion (λ u. IsReached scope u.1.closure) us → AllByRecursion (SeenReaches scope) (map f us)
mapped scope f [] g h = tt
mapped scope f (u ∷ us) g h = (g u h.0, mapped scope f us g h.1)

pub seen_reach : (above_ : List values.Body) (b : values.Body) → AllByRecursion (SeenReaches (scope_at b b.items)) (seen above_ b)
seen_reach above_ b = mapped (scope_at b b.items) _ (standing (uses b)) (λ u e. e) (standing_uses (λ u. IsReached (scope_at b b.items) u.closure) [] (uses b) (uses_reach b))

-- Where the bodies round a closure are shown by numbers, its definition is the item that the numbers say.

pub shows_length : (ts : List Names) (cs : List Components) (ks ps : List ℕ) (ls : Scope) → Shows ts cs ks ps ls → length ks ≡ length ls
shows_length ts cs [] [] [] h = refl
shows_length ts cs [] [] (l ∷ ls) h = absurd h
shows_length ts cs [] (p ∷ ps) ls h = absurd h
shows_length ts cs (k ∷ ks) [] ls h = absurd h
shows_length ts cs (k ∷ ks) (p ∷ ps) [] h = absurd h
shows_length ts cs (k ∷ ks) (p ∷ ps) (l ∷ ls) h = ap suc (shows_length ts cs ks ps ls h.2)

reached_length : (scope : Scope) (c : Closure) → Reached scope c → length c.scope ≤ length scope
reached_length _ c (here {l = l} {outer = outer} before is h) = let e = ap length is in omega (arith, e)
reached_length _ c (above {l = l} {outer = outer} r) = let rec = reached_length outer c r in omega (arith, rec)

pick : (xs rest : List Item) (p q : ℕ) (i : Item) → take p xs ≡ take q xs ++ (i ∷ rest) → slice_get xs q ≡ Some i
pick [] rest zero zero i e = cc
pick [] rest zero (suc q) i e = cc
pick [] rest (suc p) zero i e = cc
pick [] rest (suc p) (suc q) i e = cc
pick (x ∷ xs) rest zero zero i e = cc
pick (x ∷ xs) rest zero (suc q) i e = cc
pick (x ∷ xs) rest (suc p) zero i e = let same : x ≡ i = cc in ap Some same
pick (x ∷ xs) rest (suc p) (suc q) i e = let tails : take p xs ≡ take q xs ++ (i ∷ rest) = cc in pick xs rest p q i tails

-- What is known of a closure that is found at a level.
pub record IsFoundAt (cs : List Components) (ks : List ℕ) (q : ℕ) (rs : List ℕ) (ws : Around) (c : Closure) : Type 0 where
  pub defined : def_at cs ks (q ∷ rs) ≡ Some c.def
  pub round : around c.scope ≡ ws

at-head : (ts : List Names) (cs : List Components) (k : ℕ) (ks : List ℕ) (p : ℕ) (ps : List ℕ) (l : Layer) (outer : Scope) (c : Closure) (before : List Item) (q : ℕ) (rs : List ℕ) → c.scope ≡ record l { before = before } ∷ outer → Holds l.before before c.def
    → Shows ts cs (k ∷ ks) (p ∷ ps) (l ∷ outer) → Shows ts cs (k ∷ ks) (q ∷ rs) (record l { before = before } ∷ outer) → IsFoundAt cs (k ∷ ks) q rs (around (l ∷ outer)) c
at-head ts cs k ks p ps l outer c before q rs is h all own = record {
  defined = ap (λ o. option_map_component o) (pick (items_at cs k) h.rest p q h.item (sym all.0 ∙ h.split ∙ ap (λ b. b ++ (h.item ∷ h.rest)) own.0)) ∙ h.is;
  round = ap around is;
}
  where
    option_map_component : Option Item → Option Def
    option_map_component None = None
    option_map_component (Some i) = component_of (item_is i)

pub found_at : (ts : List Names) (cs : List Components) (ks ps : List ℕ) (scope : Scope) (c : Closure) (level q : ℕ) (rs : List ℕ) → Reached scope c → Shows ts cs ks ps scope → Shows ts cs (drop level ks) (q ∷ rs) c.scope → IsFoundAt cs (drop level ks) q rs (drop level (around scope)) c
found_at ts cs [] [] _ c level q rs (here before is h) all own = absurd all
found_at ts cs [] (p ∷ ps) _ c level q rs (here before is h) all own = absurd all
found_at ts cs (k ∷ ks) [] _ c level q rs (here before is h) all own = absurd all
found_at ts cs (k ∷ ks) (p ∷ ps) _ c zero q rs (here {l = l} {outer = outer} before is h) all own = at-head ts cs k ks p ps l outer c before q rs is h all (subst (Shows ts cs (k ∷ ks) (q ∷ rs)) is own)
found_at ts cs (k ∷ ks) (p ∷ ps) _ c (suc level) q rs (here {l = l} {outer = outer} before is h) all own =
    let a = shows_length ts cs ks ps outer all.2 in
    let b = shows_length ts cs (drop level ks) (q ∷ rs) c.scope own in
    let d = length-drop level ks in
    let e = ap length is in
    absurd (omega (arith, a, b, d, e))
found_at ts cs [] [] _ c level q rs (above r) all own = absurd all
found_at ts cs [] (p ∷ ps) _ c level q rs (above r) all own = absurd all
found_at ts cs (k ∷ ks) [] _ c level q rs (above r) all own = absurd all
found_at ts cs (k ∷ ks) (p ∷ ps) _ c zero q rs (above {l = l} {outer = outer} r) all own =
    let a = shows_length ts cs ks ps outer all.2 in
    let b = shows_length ts cs (k ∷ ks) (q ∷ rs) c.scope own in
    let d = reached_length outer c r in
    absurd (omega (arith, a, b, d))
found_at ts cs (k ∷ ks) (p ∷ ps) _ c (suc level) q rs (above {l = l} {outer = outer} r) all own = found_at ts cs ks ps outer c level q rs r all.2 own

-- the names and the numbers from a level on
pub names_drop : (bodies : List Body) (level : ℕ) (ks : List ℕ) (ws : Around) → HaveNames bodies ks ws → HaveNames bodies (drop level ks) (drop level ws)
names_drop bodies zero ks ws h = h
names_drop bodies (suc level) [] [] h = tt
names_drop bodies (suc level) [] (a ∷ ws) h = absurd h
names_drop bodies (suc level) (k ∷ ks) [] h = absurd h
names_drop bodies (suc level) (k ∷ ks) (a ∷ ws) h = names_drop bodies level ks ws h.1

pub below_drop : (n level : ℕ) (ks : List ℕ) → AreBelow n ks → AreBelow n (drop level ks)
below_drop n zero ks h = h
below_drop n (suc level) [] h = tt
below_drop n (suc level) (k ∷ ks) h = below_drop n level ks h.1
