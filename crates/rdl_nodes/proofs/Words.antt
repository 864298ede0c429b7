-- The names of nodes are names of the tree.
use Rattle.std.proofs.Common.{◌≡◌, inl, inr, ℕ, zero, suc, Bool, true, false, ◌&&◌, cond, List, [], ◌∷◌, ◌++◌, flat_map, reverse, Option, None, Some, option_map, option_and_then, option_to_list, refl, sym, subst}
use Rattle.std.specs.List.{AllByRecursion}
use Rattle.std.specs.Option.{option_or}
use Rattle.std.proofs.lemmas.List.Elements.{All-from_recursion, recursion_from_All}
use Rattle.plain_lemmas.proofs.Lists.{each-append, each-flat_map, each-imp, each-mapped as mapped}
use Rattle.rb_base.specs.declared.place.Place.{Place}
use Rattle.rdl_tree.specs.declared.expr.Name.{Name}
use Rattle.rdl_tree.specs.declared.item.Def.{Def}
use Rattle.rdl_tree.specs.declared.item.Insts.{Insts}
use Rattle.rdl_tree.specs.declared.item.Item.{Item}
use Rattle.rdl_tree.specs.declared.item.Source.{Source}
use Rattle.rdl_tree.specs.InOrder as tree
use Rattle.rdl_tree.specs.InOrder.{AreWords, IsNamedByWords, HaveWords, IsWordIfNamed}
use Rattle.rdl_tree.specs.Words.{IsWordName}
use Rattle.rdl_values.specs.Bodies.{Scope, Closure, Body, scope_at, standing, standing_from, component, component_of, closure_in, found, if_named, is_named}
use Rattle.rdl_values.specs.Elaborated.{HasWords}
use Rattle.rdl_values.specs.Given.{IsGivenBy}
use Rattle.rdl_values.specs.Instances.{Instance, body, seen_in, children, signals, top_of, given_by, with_below, most_names, nodes}
use Rattle.rdl_values.specs.Primary.{Somewhere}
use Rattle.rdl_values.specs.Top.{root, is_addrmap, is_wanted, top_use, top_at, top_named, top_use_of, top_seen}
use Rattle.rdl_values.specs.Uses.{Use, Seen, seen, uses, uses_of_item, uses_of_insts}
use Rattle.rdl_values.specs.Values.{nearest}
use Rattle.rdl_values.specs.Views as view
use Rattle.rdl_values.specs.Views.{ItemIs, item_is, item_is-Def}
use Rattle.rdl_values.proofs.Clean.{nearest_is, unreversed}
use Rattle.rdl_values.proofs.Given.{given-all}

-- Items.

abbrev WordsOf : ItemIs → Type 0
WordsOf (view.definition d) = IsWordIfNamed d.name × HaveWords d.insts × AreWords d.items.now
WordsOf (view.made a of is) = HaveWords (Some is)
WordsOf _ = Unit {0}

words_of : (i : Item) → IsNamedByWords i → WordsOf (item_is i)
words_of _ (tree.definition {d = d} n is b) = subst WordsOf (sym (item_is-Def d)) (n, is, b)
words_of _ tree.enumeration = tt
words_of _ (tree.made h) = h
words_of _ tree.default = tt
words_of _ tree.local = tt
words_of _ tree.dynamic = tt

one_more : (before : List Item) (i : Item) → AreWords before → IsNamedByWords i → AreWords (before ++ (i ∷ []))
one_more [] i tree.none w = tree.more w tree.none
one_more (j ∷ before) i (tree.more h hs) w = tree.more h (one_more before i hs w)

-- an item, and those before it
abbrev Stands : List Item × Item → Type 0
Stands i = AreWords i.0 × WordsOf (item_is i.1)

stand_from : (before is : List Item) → AreWords before → AreWords is → AllByRecursion Stands (standing_from before is)
stand_from before [] b tree.none = tt
stand_from before (i ∷ is) b (tree.more h hs) = ((b, words_of i h), stand_from (before ++ (i ∷ [])) is (one_more before i b h) hs)

stand : (is : List Item) → AreWords is → AllByRecursion Stands (standing is)
stand is h = stand_from [] is tree.none h

-- Looking a component up.

abbrev InScope : Scope → Type 0
InScope scope = AllByRecursion (λ l. AreWords l.before) scope

abbrev OfClosure : Option Closure → Type 0
OfClosure None = Unit {0}
OfClosure (Some c) = AreWords c.def.items.now × InScope c.scope

abbrev OfFound : Option (List Item × Def) → Type 0
OfFound None = Unit {0}
OfFound (Some f) = AreWords f.0 × AreWords f.1.items.now

one_found : (n : List ℕ) (i : List Item × Item) → Stands i → OfFound (found n i)
one_found n i h = by (item_is i.1) h.1
  where
    go : (b : Bool) (d : Def) → AreWords d.items.now → OfFound (option_map (λ d. (i.0, d)) (cond b (Some d) None))
    go true d w = (h.0, w)
    go false d w = tt

    by : (v : ItemIs) → WordsOf v → OfFound (option_map (λ d. (i.0, d)) (if_named n (component_of v)))
    by (view.definition d) w = go (is_named n d.name) d w.2
    by (view.made a of is) w = tt
    by (view.enumeration m es) w = tt
    by (view.default_ s) w = tt
    by (view.local s) w = tt
    by (view.dynamic t s) w = tt

found_in : (n : List ℕ) (is : List (List Item × Item)) → AllByRecursion Stands is → OfFound (nearest (found n) is)
found_in n [] h = tt
found_in n (i ∷ is) h = go (found n i) (one_found n i h.0) (found_in n is h.1)
  where
    go : (o : Option (List Item × Def)) → OfFound o → OfFound (nearest (found n) is) → OfFound (option_or o (nearest (found n) is))
    go None a b = b
    go (Some f) a b = a

component_in : (n : List ℕ) (scope : Scope) → InScope scope → OfClosure (component n scope)
component_in n [] h = tt
component_in n (l ∷ outer) h = go (nearest (found n) (standing l.before)) (found_in n (standing l.before) (stand l.before h.0)) (component_in n outer h.1)
  where
    go : (o : Option (List Item × Def)) → OfFound o → OfClosure (component n outer) → OfClosure (option_or (option_map (closure_in l outer) o) (component n outer))
    go None a rest = rest
    go (Some f) a rest = (a.1, (a.0, h.1))

-- The uses of a body.

abbrev OfUse : Use → Type 0
OfUse u = IsWordName u.name × OfClosure u.closure

insts_in : (scope : Scope) (alias : Option Name) (place : Place) (c : Option Closure) (is : Insts) → HaveWords (Some is) → OfClosure c → AllByRecursion OfUse (uses_of_insts scope alias place c is)
insts_in scope alias place c is w h = mapped (λ i. IsWordName i.name) OfUse _ is.list.now (λ i n. (n, h)) (recursion_from_All (λ i. IsWordName i.name) is.list.now w)

item_in : (scope : Scope) (v : ItemIs) → WordsOf v → InScope scope → AllByRecursion OfUse (uses_of_item scope v)
item_in scope (view.definition d) w h = go d.insts w.1
  where
    go : (o : Option Insts) → HaveWords o → AllByRecursion OfUse (flat_map (uses_of_insts scope None d.place (Some (record { def = d; scope = scope }))) (option_to_list o))
    go None n = tt
    go (Some is) n = each-append OfUse (uses_of_insts scope None d.place (Some (record { def = d; scope = scope })) is) [] (insts_in scope None d.place (Some (record { def = d; scope = scope })) is n (w.2, h)) tt
item_in scope (view.made alias of is) w h = insts_in scope alias of.place (component of.text.now scope) is w (component_in of.text.now scope h)
item_in scope (view.enumeration n es) w h = tt
item_in scope (view.default_ s) w h = tt
item_in scope (view.local s) w h = tt
item_in scope (view.dynamic t s) w h = tt

uses_in : (b : Body) → AreWords b.items → InScope b.outer → AllByRecursion OfUse (uses b)
uses_in b w h = each-flat_map OfUse (λ i. uses_of_item (scope_at b i.0) (item_is i.1)) (standing b.items) (each-imp Stands (λ i. AllByRecursion OfUse (uses_of_item (scope_at b i.0) (item_is i.1))) (standing b.items) (λ i f. item_in (scope_at b i.0) (item_is i.1) f.1 (f.0, h)) (stand b.items w))

standing_uses : (before us : List Use) → AllByRecursion OfUse us → AllByRecursion (λ u. OfUse u.1) (standing_from before us)
standing_uses before [] h = tt
standing_uses before (u ∷ us) h = (h.0, standing_uses (before ++ (u ∷ [])) us h.1)

seen_in_body : (above : List Body) (b : Body) → AreWords b.items → InScope b.outer → AllByRecursion (λ s. OfUse s.use_) (seen above b)
seen_in_body above b w h = mapped (λ u. OfUse u.1) (λ s. OfUse s.use_) _ (standing (uses b)) (λ u g. g) (standing_uses [] (uses b) (uses_in b w h))

-- Nodes.

abbrev OfNode : Instance → Type 0
OfNode n = IsWordName n.use_.name × OfClosure (Some n.closure)

given_words : (u : Seen) → OfUse u.use_ → AllByRecursion OfNode (given_by u)
given_words u h = each-imp (IsGivenBy u) OfNode (given_by u) (λ n g. (subst (λ v. IsWordName v.name) (sym g.use_is) h.0, subst OfClosure g.closure_is h.1)) (given-all u)

children_words : (n : Instance) → OfNode n → AllByRecursion OfNode (children n)
children_words n h = each-flat_map OfNode given_by (seen_in n) (each-imp (λ s. OfUse s.use_) (λ u. AllByRecursion OfNode (given_by u)) (seen_in n) given_words (seen_in_body _ (body n) h.1.0 h.1.1))

below_words : (k : ℕ) (n : Instance) → OfNode n → AllByRecursion OfNode (with_below k n)
below_words zero n h = (h, tt)
below_words (suc k) n h = (h, each-flat_map OfNode (with_below k) (children n) (each-imp OfNode (λ c. AllByRecursion OfNode (with_below k c)) (children n) (λ c g. below_words k c g) (children_words n h)))

module _ (wanted : Option (List ℕ)) (s : Source) (w : AreWords s.items.now) where
  signal_words : AllByRecursion OfNode (signals s)
  signal_words = each-flat_map OfNode given_by (seen [] (root s)) (each-imp (λ u. OfUse u.use_) (λ u. AllByRecursion OfNode (given_by u)) (seen [] (root s)) given_words (seen_in_body [] (root s) w tt))

  top_words : (i : List Item × Item) (u : Use) → Stands i → top_at wanted s i ≡ Some u → OfUse u
  top_words i u h e = go (item_is i.1) h.1 e
    where
      OfTop : Option Use → Type 0
      OfTop None = Unit {0}
      OfTop (Some v) = OfUse v

      chosen : (b : Bool) (d : Def) (n : Name) → IsWordName n → AreWords d.items.now → OfTop (cond b (Some (top_use (scope_at (root s) i.0) d n)) None)
      chosen true d n q g = (q, (g, (h.0, tt)))
      chosen false d n q g = tt

      named : (d : Def) (o : Option Name) → IsWordIfNamed o → AreWords d.items.now → OfTop (top_named wanted (scope_at (root s) i.0) d o)
      named d None q g = tt
      named d (Some n) q g = chosen (is_addrmap d.kind && is_wanted wanted n) d n q g

      go : (v : ItemIs) → WordsOf v → option_and_then (λ d. top_named wanted (scope_at (root s) i.0) d d.name) (component_of v) ≡ Some u → OfUse u
      go (view.definition d) g q = subst OfTop q (named d d.name g.0 g.2)
      go (view.made a of is) g q = cc
      go (view.enumeration n es) g q = cc
      go (view.default_ t) g q = cc
      go (view.local t) g q = cc
      go (view.dynamic p t) g q = cc

  some_top : (u : Use) (is : List (List Item × Item)) → AllByRecursion Stands is → Somewhere (λ i. top_at wanted s i ≡ Some u) is → OfUse u
  some_top u [] f h = absurd h
  some_top u (i ∷ is) f (inl h) = top_words i u f.0 h
  some_top u (i ∷ is) f (inr h) = some_top u is f.1 h

top_in : (wanted : Option (List ℕ)) (s : Source) (u : Use) → AreWords s.items.now → top_use_of wanted s ≡ Some u → OfUse u
top_in None s u w e = some_top None s w u (standing s.items.now) (stand s.items.now w) (unreversed (λ i. top_at None s i ≡ Some u) (standing s.items.now) (nearest_is (top_at None s) (reverse (standing s.items.now)) u e))
top_in (Some v) s u w e = some_top (Some v) s w u (standing s.items.now) (stand s.items.now w) (nearest_is (top_at (Some v) s) (standing s.items.now) u e)

tops_words : (wanted : Option (List ℕ)) (s : Source) → AreWords s.items.now → AllByRecursion OfNode (top_of wanted s)
tops_words wanted s w = go (top_use_of wanted s) refl
  where
    go : (o : Option Use) → top_use_of wanted s ≡ o → AllByRecursion OfNode (flat_map (λ u. given_by (top_seen u)) (option_to_list o))
    go None e = tt
    go (Some u) e = each-append OfNode (given_by (top_seen u)) [] (given_words (top_seen u) (top_in wanted s u w e)) tt

pub names_are_words : (wanted : Option (List ℕ)) (s : Source) → AreWords s.items.now → HasWords wanted s
unfolding nodes
names_are_words wanted s w = All-from_recursion (λ n. IsWordName n.use_.name) (signals s ++ flat_map (with_below most_names) (top_of wanted s)) (each-imp OfNode (λ n. IsWordName n.use_.name) (signals s ++ flat_map (with_below most_names) (top_of wanted s)) (λ n h. h.0)
    (each-append OfNode (signals s) (flat_map (with_below most_names) (top_of wanted s)) (signal_words wanted s w)
    (each-flat_map OfNode (with_below most_names) (top_of wanted s) (each-imp OfNode (λ n. AllByRecursion OfNode (with_below most_names n)) (top_of wanted s) (λ n h. below_words most_names n h) (tops_words wanted s w)))))
