-- The enumerations of all bodies round a node have entries of different names, which are words, where no rule on instances fails.
use Rattle.std.proofs.Common.{◌≡◌, inl, inr, ℕ, zero, suc, Bool, true, false, ◌&&◌, cond, List, [], ◌∷◌, ◌++◌, flat_map, reverse, Option, None, Some, option_map, option_and_then, option_to_list, refl, sym, subst}
use Rattle.std.specs.List.{AllByRecursion}
use Rattle.std.specs.Option.{option_or}
use Rattle.plain_lemmas.proofs.Lists.{each-append, each-both, each-flat, each-flat_map, each-imp, each-left, each-mapped as mapped, each-right, each-unit}
use Rattle.rb_base.specs.declared.place.Place.{Place}
use Rattle.rdl_tree.specs.declared.expr.Name.{Name}
use Rattle.rdl_tree.specs.declared.item.Def.{Def}
use Rattle.rdl_tree.specs.declared.item.Insts.{Insts}
use Rattle.rdl_tree.specs.declared.item.Item.{Item}
use Rattle.rdl_tree.specs.declared.item.Source.{Source}
use Rattle.rdl_values.specs.Bodies.{Scope, Closure, Body, Layer, scope_at, standing, standing_from, component, component_of, closure_in, found, if_named, is_named}
use Rattle.rdl_values.specs.Given.{IsGivenBy}
use Rattle.rdl_values.specs.Instances.{Instance, body, seen_in, children, signals, top_of, given_by, with_below, most_names, nodes}
use Rattle.rdl_values.specs.Phase3.{of_enums}
use Rattle.rdl_values.specs.Primary.{Somewhere}
use Rattle.rdl_values.specs.Top.{root, is_addrmap, is_wanted, top_use, top_at, top_named, top_use_of, top_seen}
use Rattle.rdl_values.specs.Uses.{Use, Seen, seen, uses, uses_of_item, uses_of_insts}
use Rattle.rdl_values.specs.Values.{nearest}
use Rattle.rdl_values.specs.Views as view
use Rattle.rdl_values.specs.Views.{ItemIs, item_is}
use Rattle.rdl_values.proofs.Clean.{nearest_is, unreversed}
use Rattle.rdl_values.proofs.Given.{given-all}
use Rattle.rdl_verdict_laws.proofs.EntryNames.{ArePlain, EntriesOf, body-plain, entries_of}
use Rattle.rdl_verdict_laws.proofs.EntryTokens as entries
use Rattle.rdl_verdict_laws.proofs.EntryTokens.{HasWordEntries, HaveWordEntries}

-- A body as it is seen from a place in it, and all those round a place.
pub record IsPlainLayer (l : Layer) : Type 0 where
  pub names : ArePlain l.names
  pub before : HaveWordEntries l.before

abbrev pub IsPlainScope : Scope → Type 0
IsPlainScope scope = AllByRecursion IsPlainLayer scope

-- A body in those round its text.
pub record IsPlainBody (b : Body) : Type 0 where
  pub names : ArePlain b.names
  pub items : HaveWordEntries b.items
  pub outer : IsPlainScope b.outer

-- Items.

one-more : (before : List Item) (i : Item) → HaveWordEntries before → HasWordEntries i → HaveWordEntries (before ++ (i ∷ []))
one-more [] i entries.none w = entries.more w entries.none
one-more (j ∷ before) i (entries.more h hs) w = entries.more h (one-more before i hs w)

-- an item, and those before it
abbrev pub Stands : List Item × Item → Type 0
Stands i = HaveWordEntries i.0 × EntriesOf (item_is i.1)

stand-from : (before is : List Item) → HaveWordEntries before → HaveWordEntries is → AllByRecursion Stands (standing_from before is)
stand-from before [] b entries.none = tt
stand-from before (i ∷ is) b (entries.more h hs) = ((b, entries_of i h), stand-from (before ++ (i ∷ [])) is (one-more before i b h) hs)

pub stand : (is : List Item) → HaveWordEntries is → AllByRecursion Stands (standing is)
stand is h = stand-from [] is entries.none h

pub plain-at : (b : Body) (before : List Item) → IsPlainBody b → HaveWordEntries before → IsPlainScope (scope_at b before)
plain-at b before h w = (record { names = h.names; before = w }, h.outer)

-- Looking a component up.

abbrev OfClosure : Option Closure → Type 0
OfClosure None = Unit {0}
OfClosure (Some c) = HaveWordEntries c.def.items.now × IsPlainScope c.scope

abbrev OfFound : Option (List Item × Def) → Type 0
OfFound None = Unit {0}
OfFound (Some f) = HaveWordEntries f.0 × HaveWordEntries f.1.items.now

one-found : (n : List ℕ) (i : List Item × Item) → Stands i → OfFound (found n i)
one-found n i h = by (item_is i.1) h.1
  where
    go : (b : Bool) (d : Def) → HaveWordEntries d.items.now → OfFound (option_map (λ d. (i.0, d)) (cond b (Some d) None))
    go true d w = (h.0, w)
    go false d w = tt

    by : (v : ItemIs) → EntriesOf v → OfFound (option_map (λ d. (i.0, d)) (if_named n (component_of v)))
    by (view.definition d) w = go (is_named n d.name) d w
    by (view.made a of is) w = tt
    by (view.enumeration m es) w = tt
    by (view.default_ s) w = tt
    by (view.local s) w = tt
    by (view.dynamic t s) w = tt

found-in : (n : List ℕ) (is : List (List Item × Item)) → AllByRecursion Stands is → OfFound (nearest (found n) is)
found-in n [] h = tt
found-in n (i ∷ is) h = go (found n i) (one-found n i h.0) (found-in n is h.1)
  where
    go : (o : Option (List Item × Def)) → OfFound o → OfFound (nearest (found n) is) → OfFound (option_or o (nearest (found n) is))
    go None a b = b
    go (Some f) a b = a

component-in : (n : List ℕ) (scope : Scope) → IsPlainScope scope → OfClosure (component n scope)
component-in n [] h = tt
component-in n (l ∷ outer) h = go (nearest (found n) (standing l.before)) (found-in n (standing l.before) (stand l.before h.0.before)) (component-in n outer h.1)
  where
    go : (o : Option (List Item × Def)) → OfFound o → OfClosure (component n outer) → OfClosure (option_or (option_map (closure_in l outer) o) (component n outer))
    go None a rest = rest
    go (Some f) a rest = (a.1, (record { names = h.0.names; before = a.0 }, h.1))

-- The uses of a body.

abbrev OfUse : Use → Type 0
OfUse u = OfClosure u.closure

insts-in : (scope : Scope) (alias : Option Name) (place : Place) (c : Option Closure) (is : Insts) → OfClosure c → AllByRecursion OfUse (uses_of_insts scope alias place c is)
insts-in scope alias place c is h = mapped (λ i. Unit {0}) OfUse _ is.list.now (λ i t. h) (each-unit is.list.now)

item-in : (scope : Scope) (v : ItemIs) → EntriesOf v → IsPlainScope scope → AllByRecursion OfUse (uses_of_item scope v)
item-in scope (view.definition d) w h = go d.insts
  where
    go : (o : Option Insts) → AllByRecursion OfUse (flat_map (uses_of_insts scope None d.place (Some (record { def = d; scope = scope }))) (option_to_list o))
    go None = tt
    go (Some is) = each-append OfUse (uses_of_insts scope None d.place (Some (record { def = d; scope = scope })) is) [] (insts-in scope None d.place (Some (record { def = d; scope = scope })) is (w, h)) tt
item-in scope (view.made alias of is) w h = insts-in scope alias of.place (component of.text.now scope) is (component-in of.text.now scope h)
item-in scope (view.enumeration n es) w h = tt
item-in scope (view.default_ s) w h = tt
item-in scope (view.local s) w h = tt
item-in scope (view.dynamic t s) w h = tt

uses-in : (b : Body) → IsPlainBody b → AllByRecursion OfUse (uses b)
uses-in b h = each-flat_map OfUse (λ i. uses_of_item (scope_at b i.0) (item_is i.1)) (standing b.items) (each-imp Stands (λ i. AllByRecursion OfUse (uses_of_item (scope_at b i.0) (item_is i.1))) (standing b.items) (λ i f. item-in (scope_at b i.0) (item_is i.1) f.1 (plain-at b i.0 h f.0)) (stand b.items h.items))

standing-uses : (before us : List Use) → AllByRecursion OfUse us → AllByRecursion (λ u. OfUse u.1) (standing_from before us)
standing-uses before [] h = tt
standing-uses before (u ∷ us) h = (h.0, standing-uses (before ++ (u ∷ [])) us h.1)

-- a use, and the bodies of the nodes round it
abbrev IsPlainUse : Seen → Type 0
IsPlainUse s = OfUse s.use_ × AllByRecursion IsPlainBody s.above

seen-in : (above : List Body) (b : Body) → AllByRecursion IsPlainBody above → IsPlainBody b → AllByRecursion IsPlainUse (seen above b)
seen-in above b h g = mapped (λ u. OfUse u.1) IsPlainUse _ (standing (uses b)) (λ u f. (f, h)) (standing-uses [] (uses b) (uses-in b g))

-- Nodes.

abbrev OfNode : Instance → Type 0
OfNode n = OfClosure (Some n.closure) × AllByRecursion IsPlainBody n.above

-- The body of a node is plain, and so are those of the nodes that it stands in.
pub record IsPlainNode (n : Instance) : Type 0 where
  pub inside : IsPlainBody (body n)
  pub above : AllByRecursion IsPlainBody n.above

-- its enumerations fail no rule
abbrev pub IsClean : Instance → Type 0
IsClean n = of_enums (body n) ≡ []

given-plain : (u : Seen) → IsPlainUse u → AllByRecursion OfNode (given_by u)
given-plain u h = each-imp (IsGivenBy u) OfNode (given_by u) (λ n g. (subst OfClosure g.closure_is h.0, subst (AllByRecursion IsPlainBody) (sym g.above_is) h.1)) (given-all u)

all-given : (us : List Seen) → AllByRecursion IsPlainUse us → AllByRecursion OfNode (flat_map given_by us)
all-given us h = each-flat_map OfNode given_by us (each-imp IsPlainUse (λ u. AllByRecursion OfNode (given_by u)) us given-plain h)

plain-node : (n : Instance) → OfNode n → IsClean n → IsPlainNode n
plain-node n h e = record { inside = record { names = body-plain (body n) n.bound refl e h.0.0; items = h.0.0; outer = h.0.1 }; above = h.1 }

children-plain : (n : Instance) → IsPlainNode n → AllByRecursion OfNode (children n)
children-plain n h = all-given (seen_in n) (seen-in (n.above ++ (body n ∷ [])) (body n) (each-append IsPlainBody n.above (body n ∷ []) h.above (h.inside, tt)) h.inside)

below-plain : (k : ℕ) (n : Instance) → OfNode n → AllByRecursion IsClean (with_below k n) → AllByRecursion IsPlainNode (with_below k n)
below-plain zero n h e = (plain-node n h e.0, tt)
below-plain (suc k) n h e =
    let own = plain-node n h e.0 in
    let clean = each-flat IsClean (with_below k) (children n) e.1 in
    (own, each-flat_map IsPlainNode (with_below k) (children n) (each-both OfNode (λ c. AllByRecursion IsClean (with_below k c)) (λ c. AllByRecursion IsPlainNode (with_below k c)) (children n) (λ c g f. below-plain k c g f) (children-plain n own) clean))

module _ (wanted : Option (List ℕ)) (s : Source) (root-plain : IsPlainBody (root s)) where
  top-in : (i : List Item × Item) (u : Use) → Stands i → top_at wanted s i ≡ Some u → IsPlainUse (top_seen u)
  top-in i u h e = go (item_is i.1) h.1 e
    where
      OfTop : Option Use → Type 0
      OfTop None = Unit {0}
      OfTop (Some v) = IsPlainUse (top_seen v)

      chosen : (b : Bool) (d : Def) (n : Name) → HaveWordEntries d.items.now → OfTop (cond b (Some (top_use (scope_at (root s) i.0) d n)) None)
      chosen true d n g = ((g, plain-at (root s) i.0 root-plain h.0), tt)
      chosen false d n g = tt

      named : (d : Def) (o : Option Name) → HaveWordEntries d.items.now → OfTop (top_named wanted (scope_at (root s) i.0) d o)
      named d None g = tt
      named d (Some n) g = chosen (is_addrmap d.kind && is_wanted wanted n) d n g

      go : (v : ItemIs) → EntriesOf v → option_and_then (λ d. top_named wanted (scope_at (root s) i.0) d d.name) (component_of v) ≡ Some u → IsPlainUse (top_seen u)
      go (view.definition d) g q = subst OfTop q (named d d.name g)
      go (view.made a of is) g q = cc
      go (view.enumeration n es) g q = cc
      go (view.default_ t) g q = cc
      go (view.local t) g q = cc
      go (view.dynamic p t) g q = cc

  some-top : (u : Use) (is : List (List Item × Item)) → AllByRecursion Stands is → Somewhere (λ i. top_at wanted s i ≡ Some u) is → IsPlainUse (top_seen u)
  some-top u [] f h = absurd h
  some-top u (i ∷ is) f (inl h) = top-in i u f.0 h
  some-top u (i ∷ is) f (inr h) = some-top u is f.1 h

top-plain : (wanted : Option (List ℕ)) (s : Source) (u : Use) → IsPlainBody (root s) → top_use_of wanted s ≡ Some u → IsPlainUse (top_seen u)
top-plain None s u p e = some-top None s p u (standing s.items.now) (stand s.items.now p.items) (unreversed (λ i. top_at None s i ≡ Some u) (standing s.items.now) (nearest_is (top_at None s) (reverse (standing s.items.now)) u e))
top-plain (Some v) s u p e = some-top (Some v) s p u (standing s.items.now) (stand s.items.now p.items) (nearest_is (top_at (Some v) s) (standing s.items.now) u e)

tops-plain : (wanted : Option (List ℕ)) (s : Source) → IsPlainBody (root s) → AllByRecursion OfNode (top_of wanted s)
tops-plain wanted s p = go (top_use_of wanted s) refl
  where
    go : (o : Option Use) → top_use_of wanted s ≡ o → AllByRecursion OfNode (flat_map (λ u. given_by (top_seen u)) (option_to_list o))
    go None e = tt
    go (Some u) e = each-append OfNode (given_by (top_seen u)) [] (given-plain (top_seen u) (top-plain wanted s u p e)) tt

-- Where no enumeration of a node's body or of the root fails a rule, all nodes are plain.
pub nodes-plain : (wanted : Option (List ℕ)) (s : Source) → HaveWordEntries s.items.now → of_enums (root s) ≡ [] → AllByRecursion IsClean (nodes wanted s) → AllByRecursion IsPlainNode (nodes wanted s)
unfolding nodes
nodes-plain wanted s w r e =
    let p : IsPlainBody (root s) = record { names = body-plain (root s) [] refl r w; items = w; outer = tt } in
    let below = flat_map (with_below most_names) (top_of wanted s) in
    let first = each-both OfNode IsClean IsPlainNode (signals s) plain-node (all-given (seen [] (root s)) (seen-in [] (root s) tt p)) (each-left IsClean (signals s) below e) in
    let clean = each-flat IsClean (with_below most_names) (top_of wanted s) (each-right IsClean (signals s) below e) in
    let rest = each-flat_map IsPlainNode (with_below most_names) (top_of wanted s) (each-both OfNode (λ c. AllByRecursion IsClean (with_below most_names c)) (λ c. AllByRecursion IsPlainNode (with_below most_names c)) (top_of wanted s) (λ c g f. below-plain most_names c g f) (tops-plain wanted s p) clean) in
    each-append IsPlainNode (signals s) below first rest
