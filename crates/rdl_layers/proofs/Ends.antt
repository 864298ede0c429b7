-- The bodies round the texts of definitions are those round where they are used, but for some of the nearest.
use Rattle.std.proofs.Common.{◌≡◌, ◌≢◌, inl, inr, ℕ, Bool, true, false, ◌&&◌, cond, List, [], ◌∷◌, ◌++◌, map, flat_map, reverse, Option, None, Some, option_map, option_and_then, option_to_list, refl, sym, ap, subst}
use Rattle.std.specs.List.{AllByRecursion}
use Rattle.std.specs.Option.{option_or}
use Rattle.rb_base.specs.declared.place.Place.{Place}
use Rattle.rdl_tree.specs.declared.expr.Name.{Name}
use Rattle.rdl_tree.specs.declared.item.Def.{Def}
use Rattle.rdl_tree.specs.declared.item.Insts.{Insts}
use Rattle.rdl_tree.specs.declared.item.Item.{Item}
use Rattle.rdl_tree.specs.declared.item.Source.{Source}
use Rattle.rdl_values.specs.Bodies.{Body, Closure, Path, Scope, closure_in, component, component_of, found, scope_at, standing, standing_from}
use Rattle.rdl_values.specs.Given.{IsGivenBy}
use Rattle.rdl_values.specs.Instances.{Instance, body, children, given_by, root, signals, top_of}
use Rattle.rdl_values.specs.Top.{is_addrmap, is_wanted, top_at, top_named, top_seen, top_use, top_use_of}
use Rattle.rdl_values.specs.Uses.{Seen, Use, parent_of, seen, uses, uses_of_insts, uses_of_item}
use Rattle.rdl_values.specs.Values.{nearest}
use Rattle.rdl_values.specs.Views as view
use Rattle.rdl_values.specs.Views.{ItemIs, item_is}
use Rattle.rdl_values.proofs.Clean.{Somewhere, nearest_is, unreversed}
use Rattle.rdl_values.proofs.Given.{each-map, given-all}
use Rattle.plain_lemmas.proofs.Lists.{each-append, each-flat_map, each-imp}
use Rattle.rdl_layers.specs.Scoped.{IsEnd, bodies_of}

-- some of these bodies, and no other
record IsEnding (all : List (Option Path)) (c : Closure) : Type 0 where
  some : bodies_of c.scope ≢ []
  end : IsEnd (bodies_of c.scope) all

abbrev IfEnding : List (Option Path) → Option Closure → Type 0
IfEnding all None = Unit {0}
IfEnding all (Some c) = IsEnding all c

-- a component means one of a body round the place
component-ends : (n : List ℕ) (scope : Scope) → IfEnding (bodies_of scope) (component n scope)
component-ends n [] = tt
component-ends n (l ∷ outer) = go (nearest (found n) (standing l.before)) (component n outer) (component-ends n outer)
  where
    go : (o : Option (List Item × Def)) (rest : Option Closure) → IfEnding (bodies_of outer) rest → IfEnding (bodies_of (l ∷ outer)) (option_or (option_map (closure_in l outer) o) rest)
    go (Some f) rest h = record { some = λ e. cc e; end = ([], refl) }
    go None (Some c) h = record { some = h.some; end = (l.node ∷ h.end.0, ap (λ xs. l.node ∷ xs) h.end.1) }
    go None None h = tt

-- The uses of a body.

abbrev UsesEnd : List (Option Path) → List Use → Type 0
UsesEnd all us = AllByRecursion (λ u. IfEnding all u.closure) us

insts-end : (all : List (Option Path)) (scope : Scope) (alias : Option Name) (place : Place) (c : Option Closure) (is : Insts) → IfEnding all c → UsesEnd all (uses_of_insts scope alias place c is)
insts-end all scope alias place c is h = each-map (λ u. IfEnding all u.closure) _ is.list.now (λ i. h)

item-ends : (l : Body) (before : List Item) (v : ItemIs) → UsesEnd (l.node ∷ bodies_of l.outer) (uses_of_item (scope_at l before) v)
item-ends l before (view.definition d) = go d.insts
  where
    c : Option Closure
    c = Some (record { def = d; scope = scope_at l before })

    go : (o : Option Insts) → UsesEnd (l.node ∷ bodies_of l.outer) (flat_map (uses_of_insts (scope_at l before) None d.place c) (option_to_list o))
    go None = tt
    go (Some is) = each-append (λ u. IfEnding (l.node ∷ bodies_of l.outer) u.closure) (uses_of_insts (scope_at l before) None d.place c is) [] (insts-end (l.node ∷ bodies_of l.outer) (scope_at l before) None d.place c is (record { some = λ e. cc e; end = ([], refl) })) tt
item-ends l before (view.made alias of is) = insts-end (l.node ∷ bodies_of l.outer) (scope_at l before) alias of.place (component of.text.now (scope_at l before)) is (component-ends of.text.now (scope_at l before))
item-ends l before (view.enumeration n es) = tt
item-ends l before (view.default_ s) = tt
item-ends l before (view.local s) = tt
item-ends l before (view.dynamic t s) = tt

uses-end : (b : Body) → UsesEnd (b.node ∷ bodies_of b.outer) (uses b)
uses-end b = each-flat_map (λ u. IfEnding (b.node ∷ bodies_of b.outer) u.closure) (λ i. uses_of_item (scope_at b i.0) (item_is i.1)) (standing b.items) (each-all (standing b.items))
  where
    each-all : (is : List (List Item × Item)) → AllByRecursion (λ i. UsesEnd (b.node ∷ bodies_of b.outer) (uses_of_item (scope_at b i.0) (item_is i.1))) is
    each-all [] = tt
    each-all (i ∷ is) = (item-ends b i.0 (item_is i.1), each-all is)

standing-ends : (all : List (Option Path)) (before us : List Use) → UsesEnd all us → AllByRecursion (λ u. IfEnding all u.1.closure) (standing_from before us)
standing-ends all before [] h = tt
standing-ends all before (u ∷ us) h = (h.0, standing-ends all (before ++ (u ∷ [])) us h.1)

-- The nodes that they give.

given-ends : (all : List (Option Path)) (u : Seen) → IfEnding all u.use_.closure → AllByRecursion (λ n. IsEnding all n.closure) (given_by u)
given-ends all u h = each-imp (IsGivenBy u) (λ n. IsEnding all n.closure) (given_by u) (λ n g. subst (IfEnding all) g.closure_is h) (given-all u)

seen-end : (above : List Body) (b : Body) → AllByRecursion (λ n. IsEnding (b.node ∷ bodies_of b.outer) n.closure) (flat_map given_by (seen above b))
seen-end above b = each-flat_map (λ n. IsEnding all n.closure) given_by (seen above b) (mapped (standing (uses b)) (standing-ends all [] (uses b) (uses-end b)))
  where
    all : List (Option Path)
    all = b.node ∷ bodies_of b.outer

    mapped : (us : List (List Use × Use)) → AllByRecursion (λ u. IfEnding all u.1.closure) us → AllByRecursion (λ s. AllByRecursion (λ n. IsEnding all n.closure) (given_by s)) (map (λ u. record { parent = parent_of b; above = above; earlier = u.0; use_ = u.1 }) us)
    mapped [] h = tt
    mapped (u ∷ us) h = (given-ends all (record { parent = parent_of b; above = above; earlier = u.0; use_ = u.1 }) h.0, mapped us h.1)

pub children-end : (n : Instance) → AllByRecursion (λ c. IsEnd (bodies_of c.closure.scope) (Some n.path ∷ bodies_of n.closure.scope)) (children n)
children-end n = each-imp (λ c. IsEnding (Some n.path ∷ bodies_of n.closure.scope) c.closure) (λ c. IsEnd (bodies_of c.closure.scope) (Some n.path ∷ bodies_of n.closure.scope)) (children n) (λ c h. h.end) (seen-end (n.above ++ (body n ∷ [])) (body n))

-- of the root alone
alone : (xs : List (Option Path)) → xs ≢ [] → IsEnd xs (None ∷ []) → xs ≡ None ∷ []
alone xs some (([], e)) = e
alone xs some ((b ∷ before, e)) = absurd (none before (rest e))
  where
    rest : b ∷ (before ++ xs) ≡ None ∷ [] → before ++ xs ≡ []
    rest q = cc q

    none : (ys : List (Option Path)) → ys ++ xs ≡ [] → ⊥
    none [] q = some q
    none (y ∷ ys) q = cc q

pub signals-end : (s : Source) → AllByRecursion (λ n. bodies_of n.closure.scope ≡ None ∷ []) (signals s)
signals-end s = each-imp (λ n. IsEnding (None ∷ []) n.closure) (λ n. bodies_of n.closure.scope ≡ None ∷ []) (signals s) (λ n h. alone (bodies_of n.closure.scope) h.some h.end) (seen-end [] (root s))

-- The top.

abbrev IsOfRoot : Option Use → Type 0
IsOfRoot None = Unit {0}
IsOfRoot (Some u) = (c : Closure) → u.closure ≡ Some c → bodies_of c.scope ≡ None ∷ []

top-at : (wanted : Option (List ℕ)) (s : Source) (i : List Item × Item) → IsOfRoot (top_at wanted s i)
top-at wanted s i = go (component_of (item_is i.1))
  where
    named : (d : Def) (o : Option Name) → IsOfRoot (top_named wanted (scope_at (root s) i.0) d o)
    named d None = tt
    named d (Some n) = chosen (is_addrmap d.kind && is_wanted wanted n)
      where
        chosen : (b : Bool) → IsOfRoot (cond b (Some (top_use (scope_at (root s) i.0) d n)) None)
        chosen true = λ c e. let same : record { def = d; scope = scope_at (root s) i.0 } ≡ c = cc e in ap (λ x. bodies_of x.scope) (sym same)
        chosen false = tt

    go : (o : Option Def) → IsOfRoot (option_and_then (λ d. top_named wanted (scope_at (root s) i.0) d d.name) o)
    go None = tt
    go (Some d) = named d d.name

somewhere : (wanted : Option (List ℕ)) (s : Source) (u : Use) (is : List (List Item × Item)) → Somewhere (λ i. top_at wanted s i ≡ Some u) is → IsOfRoot (Some u)
somewhere wanted s u [] h = absurd h
somewhere wanted s u (i ∷ is) (inl h) = subst IsOfRoot h (top-at wanted s i)
somewhere wanted s u (i ∷ is) (inr h) = somewhere wanted s u is h

top-use : (wanted : Option (List ℕ)) (s : Source) (u : Use) → top_use_of wanted s ≡ Some u → IsOfRoot (Some u)
top-use None s u e = somewhere None s u (standing s.items.now) (unreversed (λ i. top_at None s i ≡ Some u) (standing s.items.now) (nearest_is (top_at None s) (reverse (standing s.items.now)) u e))
top-use (Some w) s u e = somewhere (Some w) s u (standing s.items.now) (nearest_is (top_at (Some w) s) (standing s.items.now) u e)

pub top-ends : (wanted : Option (List ℕ)) (s : Source) → AllByRecursion (λ n. bodies_of n.closure.scope ≡ None ∷ []) (top_of wanted s)
top-ends wanted s = go (top_use_of wanted s) refl
  where
    go : (o : Option Use) → top_use_of wanted s ≡ o → AllByRecursion (λ n. bodies_of n.closure.scope ≡ None ∷ []) (flat_map (λ u. given_by (top_seen u)) (option_to_list o))
    go None e = tt
    go (Some u) e = each-append (λ n. bodies_of n.closure.scope ≡ None ∷ []) (given_by (top_seen u)) [] (each-imp (IsGivenBy (top_seen u)) (λ n. bodies_of n.closure.scope ≡ None ∷ []) (given_by (top_seen u)) (λ n g. top-use wanted s u e n.closure g.closure_is) (given-all (top_seen u))) tt
