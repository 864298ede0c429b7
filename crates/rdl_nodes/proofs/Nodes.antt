-- The forms of nodes are forms of the tree.
use Rattle.std.proofs.Common.{◌≡◌, inl, inr, ℕ, zero, suc, Bool, true, false, ◌&&◌, cond, List, [], ◌∷◌, ◌++◌, flat_map, reverse, Contains, Option, None, Some, is_some, option_map, option_and_then, option_to_list, refl, sym, subst, ◌∙◌}
use Rattle.std.specs.List.{AllByRecursion}
use Rattle.std.specs.Option.{option_or}
use Rattle.std.proofs.lemmas.List.Elements.{All-from_recursion, recursion_from_All}
use Rattle.plain_lemmas.proofs.Lists.{each-append, each-flat_map, each-imp, each-mapped as mapped}
use Rattle.rb_base.specs.declared.place.Place.{Place}
use Rattle.rdl_tree.specs.declared.expr.Name.{Name}
use Rattle.rdl_tree.specs.declared.item.Def.{Def}
use Rattle.rdl_tree.specs.declared.item.Insts.{Insts}
use Rattle.rdl_tree.specs.declared.item.Item.{Item}
use Rattle.rdl_tree.specs.declared.item.Source.{Source}
use Rattle.rdl_values.specs.Bodies.{Scope, Closure, Body, scope_at, standing, standing_from, component, component_of, closure_in, found, if_named, is_named}
use Rattle.rdl_values.specs.Given.{IsGivenBy}
use Rattle.rdl_values.specs.Instances.{Instance, body, seen_in, children, signals, top_of, given_by, with_below, most_names, nodes}
use Rattle.rdl_values.specs.Primary.{Somewhere}
use Rattle.rdl_values.specs.Top.{root, is_addrmap, is_wanted, top_use, top_at, top_named, top_use_of, top_seen}
use Rattle.rdl_values.specs.Uses.{Use, Seen, seen, uses, uses_of_item, uses_of_insts}
use Rattle.rdl_values.specs.Values.{nearest}
use Rattle.rdl_values.specs.Views as view
use Rattle.rdl_values.specs.Views.{ItemIs, item_is, item_is-Def}
use Rattle.rdl_values.proofs.Clean.{nearest_is, unreversed}
use Rattle.plain_lemmas.proofs.Options.{some_copied}
use Rattle.rdl_values.proofs.Given.{given-all}
use Rattle.rdl_nodes.specs.Single.{HasSingleForm, HaveSingleForms, AreSingle, IsSingle}
use Rattle.rdl_nodes.specs.Single as single

-- Items.

abbrev FormsOf : ItemIs → Type 0
FormsOf (view.definition d) = HaveSingleForms d.insts × AreSingle d.items.now
FormsOf (view.made a of is) = HaveSingleForms (Some is)
FormsOf _ = Unit {0}

forms_of : (i : Item) → IsSingle i → FormsOf (item_is i)
forms_of _ (single.definition {d = d} is b) = subst FormsOf (sym (item_is-Def d)) (is, b)
forms_of _ single.enumeration = tt
forms_of _ (single.made h) = h
forms_of _ single.default = tt
forms_of _ single.local = tt
forms_of _ single.dynamic = tt

one_more : (before : List Item) (i : Item) → AreSingle before → IsSingle i → AreSingle (before ++ (i ∷ []))
one_more [] i single.none w = single.more w single.none
one_more (j ∷ before) i (single.more h hs) w = single.more h (one_more before i hs w)

-- an item, and those before it
abbrev Stands : List Item × Item → Type 0
Stands i = AreSingle i.0 × FormsOf (item_is i.1)

stand_from : (before is : List Item) → AreSingle before → AreSingle is → AllByRecursion Stands (standing_from before is)
stand_from before [] b single.none = tt
stand_from before (i ∷ is) b (single.more h hs) = ((b, forms_of i h), stand_from (before ++ (i ∷ [])) is (one_more before i b h) hs)

stand : (is : List Item) → AreSingle is → AllByRecursion Stands (standing is)
stand is h = stand_from [] is single.none h

-- Looking a component up.

abbrev InScope : Scope → Type 0
InScope scope = AllByRecursion (λ l. AreSingle l.before) scope

abbrev OfClosure : Option Closure → Type 0
OfClosure None = Unit {0}
OfClosure (Some c) = AreSingle c.def.items.now × InScope c.scope

abbrev OfFound : Option (List Item × Def) → Type 0
OfFound None = Unit {0}
OfFound (Some f) = AreSingle f.0 × AreSingle f.1.items.now

one_found : (n : List ℕ) (i : List Item × Item) → Stands i → OfFound (found n i)
one_found n i h = by (item_is i.1) h.1
  where
    go : (b : Bool) (d : Def) → AreSingle d.items.now → OfFound (option_map (λ d. (i.0, d)) (cond b (Some d) None))
    go true d w = (h.0, w)
    go false d w = tt

    by : (v : ItemIs) → FormsOf v → OfFound (option_map (λ d. (i.0, d)) (if_named n (component_of v)))
    by (view.definition d) w = go (is_named n d.name) d w.1
    by (view.made a of is) w = tt
    by (view.enumeration m es) w = tt
    by (view.default_ s) w = tt
    by (view.local s) w = tt
    by (view.dynamic t s) w = tt

found_in : (n : List ℕ) (is : List (List Item × Item)) → AllByRecursion Stands is → OfFound (nearest (found n) is)
found_in n [] h = tt
found_in n (i ∷ is) h = go (found n i) (one_found n i h.0) (found_in n is h.1)
  where
    go : (o : Option (List Item × Def)) → OfFound o → OfFound (nearest (found n) is) → OfFound (option_or o (nearest (found n) is))
    go None a b = b
    go (Some f) a b = a

component_in : (n : List ℕ) (scope : Scope) → InScope scope → OfClosure (component n scope)
component_in n [] h = tt
component_in n (l ∷ outer) h = go (nearest (found n) (standing l.before)) (found_in n (standing l.before) (stand l.before h.0)) (component_in n outer h.1)
  where
    go : (o : Option (List Item × Def)) → OfFound o → OfClosure (component n outer) → OfClosure (option_or (option_map (closure_in l outer) o) (component n outer))
    go None a rest = rest
    go (Some f) a rest = (a.1, (a.0, h.1))

-- The uses of a body.

abbrev IsOfOneForm : Use → Type 0
IsOfOneForm u = is_some u.form.range ≡ true → u.dims ≡ []

abbrev OfUse : Use → Type 0
OfUse u = IsOfOneForm u × OfClosure u.closure

insts_in : (scope : Scope) (alias : Option Name) (place : Place) (c : Option Closure) (is : Insts) → HaveSingleForms (Some is) → OfClosure c → AllByRecursion OfUse (uses_of_insts scope alias place c is)
insts_in scope alias place c is w h = mapped HasSingleForm OfUse _ is.list.now (λ i n. (λ e. n (sym (some_copied i.range) ∙ e), h)) (recursion_from_All HasSingleForm is.list.now w)

item_in : (scope : Scope) (v : ItemIs) → FormsOf v → InScope scope → AllByRecursion OfUse (uses_of_item scope v)
item_in scope (view.definition d) w h = go d.insts w.0
  where
    go : (o : Option Insts) → HaveSingleForms o → AllByRecursion OfUse (flat_map (uses_of_insts scope None d.place (Some (record { def = d; scope = scope }))) (option_to_list o))
    go None n = tt
    go (Some is) n = each-append OfUse (uses_of_insts scope None d.place (Some (record { def = d; scope = scope })) is) [] (insts_in scope None d.place (Some (record { def = d; scope = scope })) is n (w.1, h)) tt
item_in scope (view.made alias of is) w h = insts_in scope alias of.place (component of.text.now scope) is w (component_in of.text.now scope h)
item_in scope (view.enumeration n es) w h = tt
item_in scope (view.default_ s) w h = tt
item_in scope (view.local s) w h = tt
item_in scope (view.dynamic t s) w h = tt

uses_in : (b : Body) → AreSingle b.items → InScope b.outer → AllByRecursion OfUse (uses b)
uses_in b w h = each-flat_map OfUse (λ i. uses_of_item (scope_at b i.0) (item_is i.1)) (standing b.items) (each-imp Stands (λ i. AllByRecursion OfUse (uses_of_item (scope_at b i.0) (item_is i.1))) (standing b.items) (λ i f. item_in (scope_at b i.0) (item_is i.1) f.1 (f.0, h)) (stand b.items w))

standing_uses : (before us : List Use) → AllByRecursion OfUse us → AllByRecursion (λ u. OfUse u.1) (standing_from before us)
standing_uses before [] h = tt
standing_uses before (u ∷ us) h = (h.0, standing_uses (before ++ (u ∷ [])) us h.1)

seen_in_body : (above : List Body) (b : Body) → AreSingle b.items → InScope b.outer → AllByRecursion (λ s. OfUse s.use_) (seen above b)
seen_in_body above b w h = mapped (λ u. OfUse u.1) (λ s. OfUse s.use_) _ (standing (uses b)) (λ u g. g) (standing_uses [] (uses b) (uses_in b w h))

-- Nodes.

abbrev OfNode : Instance → Type 0
OfNode n = IsOfOneForm n.use_ × OfClosure (Some n.closure)

given_single : (u : Seen) → OfUse u.use_ → AllByRecursion OfNode (given_by u)
given_single u h = each-imp (IsGivenBy u) OfNode (given_by u) (λ n g. (subst IsOfOneForm (sym g.use_is) h.0, subst OfClosure g.closure_is h.1)) (given-all u)

children_single : (n : Instance) → OfNode n → AllByRecursion OfNode (children n)
children_single n h = each-flat_map OfNode given_by (seen_in n) (each-imp (λ s. OfUse s.use_) (λ u. AllByRecursion OfNode (given_by u)) (seen_in n) given_single (seen_in_body _ (body n) h.1.0 h.1.1))

below_single : (k : ℕ) (n : Instance) → OfNode n → AllByRecursion OfNode (with_below k n)
below_single zero n h = (h, tt)
below_single (suc k) n h = (h, each-flat_map OfNode (with_below k) (children n) (each-imp OfNode (λ c. AllByRecursion OfNode (with_below k c)) (children n) (λ c g. below_single k c g) (children_single n h)))

module _ (wanted : Option (List ℕ)) (s : Source) (w : AreSingle s.items.now) where
  signals_single : AllByRecursion OfNode (signals s)
  signals_single = each-flat_map OfNode given_by (seen [] (root s)) (each-imp (λ u. OfUse u.use_) (λ u. AllByRecursion OfNode (given_by u)) (seen [] (root s)) given_single (seen_in_body [] (root s) w tt))

  top_single : (i : List Item × Item) (u : Use) → Stands i → top_at wanted s i ≡ Some u → OfUse u
  top_single i u h e = go (item_is i.1) h.1 e
    where
      OfTop : Option Use → Type 0
      OfTop None = Unit {0}
      OfTop (Some v) = OfUse v

      chosen : (b : Bool) (d : Def) (n : Name) → AreSingle d.items.now → OfTop (cond b (Some (top_use (scope_at (root s) i.0) d n)) None)
      chosen true d n g = ((λ q. refl), (g, (h.0, tt)))
      chosen false d n g = tt

      named : (d : Def) (o : Option Name) → AreSingle d.items.now → OfTop (top_named wanted (scope_at (root s) i.0) d o)
      named d None g = tt
      named d (Some n) g = chosen (is_addrmap d.kind && is_wanted wanted n) d n g

      go : (v : ItemIs) → FormsOf v → option_and_then (λ d. top_named wanted (scope_at (root s) i.0) d d.name) (component_of v) ≡ Some u → OfUse u
      go (view.definition d) g q = subst OfTop q (named d d.name g.1)
      go (view.made a of is) g q = cc
      go (view.enumeration n es) g q = cc
      go (view.default_ t) g q = cc
      go (view.local t) g q = cc
      go (view.dynamic p t) g q = cc

  some_top : (u : Use) (is : List (List Item × Item)) → AllByRecursion Stands is → Somewhere (λ i. top_at wanted s i ≡ Some u) is → OfUse u
  some_top u [] f h = absurd h
  some_top u (i ∷ is) f (inl h) = top_single i u f.0 h
  some_top u (i ∷ is) f (inr h) = some_top u is f.1 h

top_in : (wanted : Option (List ℕ)) (s : Source) (u : Use) → AreSingle s.items.now → top_use_of wanted s ≡ Some u → OfUse u
top_in None s u w e = some_top None s w u (standing s.items.now) (stand s.items.now w) (unreversed (λ i. top_at None s i ≡ Some u) (standing s.items.now) (nearest_is (top_at None s) (reverse (standing s.items.now)) u e))
top_in (Some v) s u w e = some_top (Some v) s w u (standing s.items.now) (stand s.items.now w) (nearest_is (top_at (Some v) s) (standing s.items.now) u e)

tops_single : (wanted : Option (List ℕ)) (s : Source) → AreSingle s.items.now → AllByRecursion OfNode (top_of wanted s)
tops_single wanted s w = go (top_use_of wanted s) refl
  where
    go : (o : Option Use) → top_use_of wanted s ≡ o → AllByRecursion OfNode (flat_map (λ u. given_by (top_seen u)) (option_to_list o))
    go None e = tt
    go (Some u) e = each-append OfNode (given_by (top_seen u)) [] (given_single (top_seen u) (top_in wanted s u w e)) tt

all_single : (wanted : Option (List ℕ)) (s : Source) → AreSingle s.items.now → AllByRecursion OfNode (nodes wanted s)
unfolding nodes
all_single wanted s w =
    each-append OfNode (signals s) (flat_map (with_below most_names) (top_of wanted s)) (signals_single wanted s w)
    (each-flat_map OfNode (with_below most_names) (top_of wanted s) (each-imp OfNode (λ n. AllByRecursion OfNode (with_below most_names n)) (top_of wanted s) (λ n h. below_single most_names n h) (tops_single wanted s w)))

pub nodes_single : (wanted : Option (List ℕ)) (s : Source) → AreSingle s.items.now → (n : Instance) → Contains (nodes wanted s) n → is_some n.use_.form.range ≡ true → n.use_.dims ≡ []
nodes_single wanted s w n (k, l, e) = (subst OfNode e (All-from_recursion OfNode (nodes wanted s) (all_single wanted s w) k n l)).0
