-- The bodies round a definition's text are those of nodes above, and the root's.
use Rattle.std.proofs.Common.{◌≡◌, ◌∙◌, inl, inr, ℕ, zero, suc, Bool, true, false, ◌&&◌, cond, List, [], ◌∷◌, ◌++◌, map, flat_map, reverse, Option, None, Some, option_map, option_and_then, option_to_list, refl, sym, ap, subst, append_assoc}
use Rattle.std.specs.List.{AllByRecursion}
use Rattle.std.specs.Option.{option_or}
use Rattle.rb_base.specs.declared.place.Place.{Place}
use Rattle.rdl_tree.specs.declared.expr.Name.{Name}
use Rattle.rdl_tree.specs.declared.item.Def.{Def}
use Rattle.rdl_tree.specs.declared.item.Insts.{Insts}
use Rattle.rdl_tree.specs.declared.item.Item.{Item}
use Rattle.rdl_tree.specs.declared.item.Source.{Source}
use Rattle.rdl_values.specs.Bodies.{Layer, Scope, Closure, Body, scope_at, standing, standing_from, component, component_of, closure_in, found, is_component}
use Rattle.rdl_values.specs.Given.{IsGivenBy}
use Rattle.rdl_values.specs.Instances.{Instance, body, seen_in, children, signals, top_of, given_by, with_below, most_names, nodes}
use Rattle.rdl_values.specs.Scopes.{IsAmong, IsFront, IsScopeIn, AreScopesIn}
use Rattle.rdl_values.specs.Top.{root, is_addrmap, is_wanted, top_use, top_at, top_named, top_use_of, top_seen}
use Rattle.rdl_values.proofs.Clean.{Somewhere, nearest_is, unreversed}
use Rattle.rdl_values.specs.Uses.{Use, Seen, seen, uses, uses_of_item, uses_of_insts}
use Rattle.rdl_values.specs.Values.{nearest}
use Rattle.rdl_values.specs.Views as view
use Rattle.rdl_values.specs.Views.{ItemIs, item_is}
use Rattle.rdl_values.proofs.Given.{each-map, given-all}
use Rattle.plain_lemmas.proofs.Lists.{each-append, each-flat_map, each-imp}

-- Bodies among more.

among_left : (bs cs : List Body) (b : Body) → IsAmong bs b → IsAmong (bs ++ cs) b
among_left (c ∷ bs) cs b (inl e) = inl e
among_left (c ∷ bs) cs b (inr h) = inr (among_left bs cs b h)
among_left [] cs b h = absurd h

among_last : (bs : List Body) (b : Body) → IsAmong (bs ++ (b ∷ [])) b
among_last [] b = inl refl
among_last (c ∷ bs) b = inr (among_last bs b)

more_bodies : (bs cs : List Body) (scope : Scope) → AreScopesIn bs scope → AreScopesIn (bs ++ cs) scope
more_bodies bs cs [] h = tt
more_bodies bs cs (l ∷ outer) h = (record { body = h.0.body; among = among_left bs cs h.0.body h.0.among; front = h.0.front; same = h.0.same }, more_bodies bs cs outer h.1)

-- What stands before an element is at the front.

abbrev Fronts : List Item → List (List Item × Item) → Type 0
Fronts all is = AllByRecursion (λ i. IsFront i.0 all) is

fronts_from : (all before is : List Item) → before ++ is ≡ all → Fronts all (standing_from before is)
fronts_from all before [] e = tt
fronts_from all before (i ∷ is) e = ((i ∷ is, e), fronts_from all (before ++ (i ∷ [])) is (append_assoc before (i ∷ []) is ∙ e))

fronts : (is : List Item) → Fronts is (standing is)
fronts is = fronts_from is [] is refl

front_of_front : (a b c : List Item) → IsFront a b → IsFront b c → IsFront a c
front_of_front a b c f g = (f.0 ++ g.0, sym (append_assoc a f.0 g.0) ∙ ap (λ xs. xs ++ g.0) f.1 ∙ g.1)

-- Looking a component up.

abbrev FoundIn : List Item → Option (List Item × Def) → Type 0
FoundIn all None = Unit {0}
FoundIn all (Some f) = IsFront f.0 all

one_found : (n : List ℕ) (all : List Item) (i : List Item × Item) → IsFront i.0 all → FoundIn all (found n i)
one_found n all i h = go (is_component n (item_is i.1))
  where
    go : (o : Option Def) → FoundIn all (option_map (λ d. (i.0, d)) o)
    go None = tt
    go (Some d) = h

found_in : (n : List ℕ) (all : List Item) (is : List (List Item × Item)) → Fronts all is → FoundIn all (nearest (found n) is)
found_in n all [] h = tt
found_in n all (i ∷ is) h = go (found n i) (one_found n all i h.0) (found_in n all is h.1)
  where
    go : (o : Option (List Item × Def)) → FoundIn all o → FoundIn all (nearest (found n) is) → FoundIn all (option_or o (nearest (found n) is))
    go None a b = b
    go (Some f) a b = a

abbrev StandsIn : List Body → Option Closure → Type 0
StandsIn bs None = Unit {0}
StandsIn bs (Some c) = AreScopesIn bs c.scope

here_in : (bs : List Body) (l : Layer) (outer : Scope) (f : List Item × Def) → IsScopeIn bs l outer → AreScopesIn bs outer → IsFront f.0 l.before → AreScopesIn bs (closure_in l outer f).scope
here_in bs l outer f h rest front = (
  record {
    body = h.body;
    among = h.among;
    front = front_of_front f.0 l.before h.body.items front h.front;
    same = ap (cut f.0) h.same;
  },
  rest,
)
  where
    cut : List Item → Scope → Scope
    cut before [] = []
    cut before (k ∷ ks) = record k { before = before } ∷ ks

component_in : (n : List ℕ) (bs : List Body) (scope : Scope) → AreScopesIn bs scope → StandsIn bs (component n scope)
component_in n bs [] h = tt
component_in n bs (l ∷ outer) h = go (nearest (found n) (standing l.before)) (found_in n l.before (standing l.before) (fronts l.before)) (component_in n bs outer h.1)
  where
    go : (o : Option (List Item × Def)) → FoundIn l.before o → StandsIn bs (component n outer) → StandsIn bs (option_or (option_map (closure_in l outer) o) (component n outer))
    go None a rest = rest
    go (Some f) a rest = here_in bs l outer f h.0 h.1 a

-- The uses of a body.

scope_in : (bs : List Body) (b : Body) (before : List Item) → IsAmong bs b → AreScopesIn bs b.outer → IsFront before b.items → AreScopesIn bs (scope_at b before)
scope_in bs b before h rest front = (record { body = b; among = h; front = front; same = refl }, rest)

abbrev UsesIn : List Body → List Use → Type 0
UsesIn bs us = AllByRecursion (λ u. StandsIn bs u.closure) us

insts_in : (bs : List Body) (scope : Scope) (alias : Option Name) (place : Place) (c : Option Closure) (is : Insts) → StandsIn bs c → UsesIn bs (uses_of_insts scope alias place c is)
insts_in bs scope alias place c is h = each-map (λ u. StandsIn bs u.closure) _ is.list.now (λ i. h)

item_in : (bs : List Body) (scope : Scope) (v : ItemIs) → AreScopesIn bs scope → UsesIn bs (uses_of_item scope v)
item_in bs scope (view.definition d) h = go d.insts
  where
    go : (o : Option Insts) → UsesIn bs (flat_map (uses_of_insts scope None d.place (Some (record { def = d; scope = scope }))) (option_to_list o))
    go None = tt
    go (Some is) = each-append (λ u. StandsIn bs u.closure) (uses_of_insts scope None d.place (Some (record { def = d; scope = scope })) is) [] (insts_in bs scope None d.place (Some (record { def = d; scope = scope })) is h) tt
item_in bs scope (view.made alias of is) h = insts_in bs scope alias of.place (component of.text.now scope) is (component_in of.text.now bs scope h)
item_in bs scope (view.enumeration n es) h = tt
item_in bs scope (view.default_ s) h = tt
item_in bs scope (view.local s) h = tt
item_in bs scope (view.dynamic t s) h = tt

uses_in : (bs : List Body) (b : Body) → IsAmong bs b → AreScopesIn bs b.outer → UsesIn bs (uses b)
uses_in bs b h rest = each-flat_map (λ u. StandsIn bs u.closure) (λ i. uses_of_item (scope_at b i.0) (item_is i.1)) (standing b.items) (each-imp (λ i. IsFront i.0 b.items) (λ i. UsesIn bs (uses_of_item (scope_at b i.0) (item_is i.1))) (standing b.items) (λ i f. item_in bs (scope_at b i.0) (item_is i.1) (scope_in bs b i.0 h rest f)) (fronts b.items))

standing_uses : (P : Use → Type 0) (before us : List Use) → AllByRecursion P us → AllByRecursion (λ u. P u.1) (standing_from before us)
standing_uses P before [] h = tt
standing_uses P before (u ∷ us) h = (h.0, standing_uses P (before ++ (u ∷ [])) us h.1)

pub record SeenIn (bs above : List Body) (s : Seen) : Type 0 where
  pub above_is : s.above ≡ above
  pub stands : StandsIn bs s.use_.closure

mapped : (bs above : List Body) (f : List Use × Use → Seen) (us : List (List Use × Use)) → ((u : List Use × Use) → StandsIn bs u.1.closure → SeenIn bs above (f u)) → AllByRecursion (λ u. StandsIn bs u.1.closure) us → AllByRecursion (SeenIn bs above) (map f us)
mapped bs above f [] g h = tt
mapped bs above f (u ∷ us) g h = (g u h.0, mapped bs above f us g h.1)

all_seen : (bs above : List Body) (b : Body) → IsAmong bs b → AreScopesIn bs b.outer → AllByRecursion (SeenIn bs above) (seen above b)
all_seen bs above b h rest = mapped bs above _ (standing (uses b)) (λ u e. record { above_is = refl; stands = e }) (standing_uses (λ u. StandsIn bs u.closure) [] (uses b) (uses_in bs b h rest))

-- Nodes.

abbrev pub IsAround : Source → Instance → Type 0
IsAround s n = AreScopesIn (root s ∷ n.above) n.closure.scope

given_around : (s : Source) (bs above : List Body) (u : Seen) → bs ≡ root s ∷ above → SeenIn bs above u → AllByRecursion (IsAround s) (given_by u)
given_around s bs above u e h = each-imp (IsGivenBy u) (IsAround s) (given_by u) of (given-all u)
  where
    of : (n : Instance) → IsGivenBy u n → IsAround s n
    of n g =
        let at : AreScopesIn bs n.closure.scope = subst (StandsIn bs) g.closure_is h.stands in
        let same : bs ≡ root s ∷ n.above = e ∙ ap (λ a. root s ∷ a) (sym (g.above_is ∙ h.above_is)) in
        subst (λ cs. AreScopesIn cs n.closure.scope) same at

children_around : (s : Source) (n : Instance) → IsAround s n → AllByRecursion (IsAround s) (children n)
children_around s n h =
    let bs : List Body = root s ∷ n.above ++ (body n ∷ []) in
    let inside : AreScopesIn bs n.closure.scope = more_bodies (root s ∷ n.above) (body n ∷ []) n.closure.scope h in
    each-flat_map (IsAround s) given_by (seen_in n) (each-imp (SeenIn bs (n.above ++ (body n ∷ []))) (λ u. AllByRecursion (IsAround s) (given_by u)) (seen_in n) (λ u g. given_around s bs (n.above ++ (body n ∷ [])) u refl g) (all_seen bs (n.above ++ (body n ∷ [])) (body n) (among_last (root s ∷ n.above) (body n)) inside))

below_around : (s : Source) (k : ℕ) (n : Instance) → IsAround s n → AllByRecursion (IsAround s) (with_below k n)
below_around s zero n h = (h, tt)
below_around s (suc k) n h = (h, each-flat_map (IsAround s) (with_below k) (children n) (each-imp (IsAround s) (λ c. AllByRecursion (IsAround s) (with_below k c)) (children n) (λ c g. below_around s k c g) (children_around s n h)))

signals_around : (s : Source) → AllByRecursion (IsAround s) (signals s)
signals_around s = each-flat_map (IsAround s) given_by (seen [] (root s)) (each-imp (SeenIn (root s ∷ []) []) (λ u. AllByRecursion (IsAround s) (given_by u)) (seen [] (root s)) (λ u g. given_around s (root s ∷ []) [] u refl g) (all_seen (root s ∷ []) [] (root s) (inl refl) tt))

-- The top.

top_stands : (wanted : Option (List ℕ)) (s : Source) (i : List Item × Item) (u : Use) → IsFront i.0 s.items.now → top_at wanted s i ≡ Some u → StandsIn (root s ∷ []) u.closure
top_stands wanted s i u f e = go (component_of (item_is i.1)) e
  where
    scope : Scope
    scope = scope_at (root s) i.0

    around : AreScopesIn (root s ∷ []) scope
    around = scope_in (root s ∷ []) (root s) i.0 (inl refl) tt f

    Stands : Option Use → Type 0
    Stands None = Unit {0}
    Stands (Some v) = StandsIn (root s ∷ []) v.closure

    chosen : (b : Bool) (d : Def) (n : Name) → Stands (cond b (Some (top_use scope d n)) None)
    chosen true d n = around
    chosen false d n = tt

    named : (d : Def) (o : Option Name) → Stands (top_named wanted scope d o)
    named d None = tt
    named d (Some n) = chosen (is_addrmap d.kind && is_wanted wanted n) d n

    go : (o : Option Def) → option_and_then (λ d. top_named wanted scope d d.name) o ≡ Some u → StandsIn (root s ∷ []) u.closure
    go None q = cc
    go (Some d) q = subst Stands q (named d d.name)

some_top : (wanted : Option (List ℕ)) (s : Source) (u : Use) (is : List (List Item × Item)) → Fronts s.items.now is → Somewhere (λ i. top_at wanted s i ≡ Some u) is → StandsIn (root s ∷ []) u.closure
some_top wanted s u [] f h = absurd h
some_top wanted s u (i ∷ is) f (inl h) = top_stands wanted s i u f.0 h
some_top wanted s u (i ∷ is) f (inr h) = some_top wanted s u is f.1 h

top_in : (wanted : Option (List ℕ)) (s : Source) (u : Use) → top_use_of wanted s ≡ Some u → StandsIn (root s ∷ []) u.closure
top_in None s u e = some_top None s u (standing s.items.now) (fronts s.items.now) (unreversed (λ i. top_at None s i ≡ Some u) (standing s.items.now) (nearest_is (top_at None s) (reverse (standing s.items.now)) u e))
top_in (Some w) s u e = some_top (Some w) s u (standing s.items.now) (fronts s.items.now) (nearest_is (top_at (Some w) s) (standing s.items.now) u e)

tops_around : (wanted : Option (List ℕ)) (s : Source) → AllByRecursion (IsAround s) (top_of wanted s)
tops_around wanted s = go (top_use_of wanted s) refl
  where
    go : (o : Option Use) → top_use_of wanted s ≡ o → AllByRecursion (IsAround s) (flat_map (λ u. given_by (top_seen u)) (option_to_list o))
    go None e = tt
    go (Some u) e = each-append (IsAround s) (given_by (top_seen u)) [] (given_around s (root s ∷ []) [] (top_seen u) refl (record { above_is = refl; stands = top_in wanted s u e })) tt

pub nodes_around : (wanted : Option (List ℕ)) (s : Source) → AllByRecursion (IsAround s) (nodes wanted s)
unfolding nodes
nodes_around wanted s =
    each-append (IsAround s) (signals s) (flat_map (with_below most_names) (top_of wanted s)) (signals_around s)
    (each-flat_map (IsAround s) (with_below most_names) (top_of wanted s) (each-imp (IsAround s) (λ n. AllByRecursion (IsAround s) (with_below most_names n)) (top_of wanted s) (λ n h. below_around s most_names n h) (tops_around wanted s)))
