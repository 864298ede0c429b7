-- Layers that are judged once.
use Rattle.std.proofs.Common.{◌≡◌, ◌∙◌, ℕ, zero, suc, ◌+◌, ◌<◌, ◌≤◌, Bool, true, false, nat_eq, List, [], ◌∷◌, ◌++◌, length, get_or, map, take, drop, flat_map, slice_get, option_to_list, Option, None, Some, is_some, Ok, add-one, refl, sym, ap, subst, arith, append_assoc, append-nil}
use Rattle.std.specs.HashMap.{Updates}
use Rattle.std.specs.List.{AllByRecursion}
use Rattle.std.proofs.lemmas.Bool.Decides.{nat_tests}
use Rattle.std.proofs.lemmas.Grind.{flat_map-append}
use Rattle.std.proofs.lemmas.List.{take_all, take_more}
use Rattle.rdl_base.specs.declared.fault.Fault.{Fault}
use Rattle.rdl_tree.specs.declared.node.Elab.{Elab}
use Rattle.rdl_values.specs.Bodies as values
use Rattle.rdl_values.specs.Elaborated.{nodes_of}
use Rattle.rdl_values.specs.Instances.{Instance, body, children, given_by, most_names, nodes, signals, top_of, with_below}
use Rattle.rdl_values.specs.Top.{root, top_seen, top_use_of}
use Rattle.rdl_failures.specs.Noted.{Holds, with_all}
use Rattle.rdl_failures.proofs.Sets.{again, held, kept, with_all-append}
use Rattle.rdl_bodies.specs.Kept.{AreDistinct}
use Rattle.rdl_bodies.specs.Sited.{HaveNames, IsOpenAs, own_names, values_over}
use Rattle.rdl_bodies.proofs.Adding.{names_bound, round_alike}
use Rattle.rdl_children.proofs.Bounds.{bound_distinct}
use Rattle.rdl_scopes.specs.Scopes.{Shows}
use Rattle.rdl_failures.specs.Shown.{IsAlike}
use Rattle.rdl_tree.specs.declared.item.Source.{Source}
use Rattle.rdl_values.specs.Bodies.{around, scope_at}
use Rattle.rdl_values.specs.Chained.{chained}
use Rattle.rdl_values.specs.Given.{IsGivenBy}
use Rattle.rdl_values.specs.Parameters.{bound_of}
use Rattle.rdl_values.specs.Uses.{Seen, Use}
use Rattle.rdl_values.proofs.Given.{IsAtRoot, IsChildOf, children-given, given-all, signals-given}
use Rattle.plain_lemmas.proofs.Lists.{each-append, each-flat_map, each-imp}
use Rattle.rdl_bodies.specs.declared.bodies.Bodies.{Bodies}
use Rattle.rdl_bodies.specs.declared.bodies.Body.{Body}
use Rattle.rdl_open_bodies.specs.Spots.{AreSpots, IsOpenAt, IsOpenTree}
use Rattle.rdl_open_bodies.specs.declared.spots.OpenTree.{OpenTree}
use Rattle.rdl_open_bodies.specs.declared.spots.Spot.{Spot}
use Rattle.rdl_open_settings.specs.Layered.{AreLayers, AreLayersOf, CanJudge, CanRead, HasLayers, IsKnown, IsLayersOf, layers_at, of_layers, of_nodes}
use Rattle.rdl_open_settings.specs.declared.layers.Layers.{Layers}
use Rattle.rdl_open_settings.specs.declared.table.LayerTable.{LayerTable}

-- where they are known already
pub known_again : (t : Bodies) (x : LayerTable) (before : List Fault) (k : ℕ) → AreLayers t before x → is_some (layers_at x k) ≡ true → (b : values.Body) → IsOpenAt t k b → IsKnown t x x before before k b
known_again t x before k inv some b open_ = go (layers_at x k) refl some
  where
    go : (o : Option Layers) → layers_at x k ≡ o → is_some o ≡ true → IsKnown t x x before before k b
    go None e s = cc
    go (Some l) e s = record { all = inv; noted = sym (again (of_layers b) before (inv.known k l e b open_).0); found = l; here = e; kept = λ j m h. h }

same-number : (j k : ℕ) → nat_eq k j ≡ true → j ≡ k
same-number j k e = grind (arith, e, nat_tests)

-- where they are new
module _ (t : Bodies) (x y : LayerTable) (before after : List Fault) (k : ℕ) (w : Body) (l : Layers) (inv : AreLayers t before x) (none : is_some (layers_at x k) ≡ false) (here : slice_get t.list.items k ≡ Some w) (put : Updates nat_eq x.list y.list k (Some l))
    (noted : (b : values.Body) → IsOpenAs t w b → after ≡ with_all (of_layers b) before) (given : (b : values.Body) → IsOpenAs t w b → IsLayersOf l b) where
  opened : (b : values.Body) → IsOpenAt t k b → IsOpenAs t w b
  opened b h = let both : Some h.open_ ≡ Some w = sym h.here ∙ here in let same : h.open_ ≡ w = cc in subst (λ z. IsOpenAs t z b) same h.is

  pub known_new : (b : values.Body) → IsOpenAt t k b → IsKnown t x y before after k b
  known_new b open_ =
      let put_in = noted b (opened b open_) in
      record {
        all = record { known = λ j m e c o. old j m e c o (nat_eq k j) refl };
        noted = put_in;
        found = l;
        here = put.1;
        kept = λ j m e. stays j m e (nat_eq k j) refl;
      }
    where
      fs : after ≡ with_all (of_layers b) before
      fs = noted b (opened b open_)

      stays : (j : ℕ) (m : Layers) → layers_at x j ≡ Some m → (q : Bool) → nat_eq k j ≡ q → layers_at y j ≡ Some m
      stays j m e false q = put.2 j q ∙ e
      stays j m e true q =
          let same : j ≡ k = same-number j k q in
          let no : is_some (layers_at x j) ≡ false = ap (λ i. is_some (layers_at x i)) same ∙ none in
          let yes : is_some (layers_at x j) ≡ true = ap is_some e in
          absurd (differ (sym yes ∙ no))
        where
          differ : true ≡ false → ⊥
          differ r = cc

      old : (j : ℕ) (m : Layers) → layers_at y j ≡ Some m → (c : values.Body) → IsOpenAt t j c → (q : Bool) → nat_eq k j ≡ q → Holds after (of_layers c) × IsLayersOf m c
      old j m e c o false q =
          let was = inv.known j m (sym (put.2 j q) ∙ e) c o in
          (subst (λ gs. Holds gs (of_layers c)) (sym fs) (kept (of_layers c) (of_layers b) before was.0), was.1)
      old j m e c o true q =
          let same : j ≡ k = same-number j k q in
          let own = opened c (subst (λ i. IsOpenAt t i c) same o) in
          let both : Some l ≡ Some m = sym put.1 ∙ ap (layers_at y) (sym same) ∙ e in
          let is : l ≡ m = cc in
          (subst (λ gs. Holds gs (of_layers c)) (sym (noted c own)) (held (of_layers c) before), subst (λ z. IsLayersOf z c) is (given c own))

-- The bodies of a tree.

-- What is done after so many nodes.
pub record Done (e : Elab) (t : Bodies) (x : LayerTable) (start now : List Fault) (os : List Spot) (ns : List Instance) : Type 0 where
  pub all : AreLayers t now x
  pub noted : now ≡ with_all (of_layers (root e.source.now) ++ of_nodes ns) start
  pub root_ : HasLayers x 0
  pub nodes_ : AllByRecursion (λ o. HasLayers x o.body) os

pub none_known : (t : Bodies) (x : LayerTable) (held : List Fault) → ((k : ℕ) → layers_at x k ≡ None) → AreLayers t held x
none_known t x held none = record { known = λ k l e b o. absurd (differ l (sym (none k) ∙ e)) }
  where
    differ : (l : Layers) → None ≡ Some l → ⊥
    differ l q = cc

pub done_none : (e : Elab) (t : Bodies) (x y : LayerTable) (before after : List Fault) → IsKnown t x y before after 0 (root e.source.now) → Done e t y before after [] []
done_none e t x y before after h = record { all = h.all; noted = h.noted ∙ ap (λ fs. with_all fs before) (sym (append-nil (of_layers (root e.source.now)))); root_ = (h.found, h.here); nodes_ = tt }

has-on : (x y : LayerTable) (k : ℕ) → ((j : ℕ) (l : Layers) → layers_at x j ≡ Some l → layers_at y j ≡ Some l) → HasLayers x k → HasLayers y k
has-on x y k f h = (h.0, f k h.0 h.1)

all-on : (x y : LayerTable) (os : List Spot) → ((j : ℕ) (l : Layers) → layers_at x j ≡ Some l → layers_at y j ≡ Some l) → AllByRecursion (λ o. HasLayers x o.body) os → AllByRecursion (λ o. HasLayers y o.body) os
all-on x y [] f h = tt
all-on x y (o ∷ os) f h = (has-on x y o.body f h.0, all-on x y os f h.1)

all-push : (x : LayerTable) (os : List Spot) (o : Spot) → AllByRecursion (λ o. HasLayers x o.body) os → HasLayers x o.body → AllByRecursion (λ o. HasLayers x o.body) (os ++ (o ∷ []))
all-push x [] o h g = (g, tt)
all-push x (p ∷ os) o h g = (h.0, all-push x os o h.1 g)

pub done_more : (e : Elab) (t : Bodies) (x y : LayerTable) (start before after : List Fault) (os : List Spot) (ns : List Instance) (o : Spot) (n : Instance) → Done e t x start before os ns → IsKnown t x y before after o.body (body n) → Done e t y start after (os ++ (o ∷ [])) (ns ++ (n ∷ []))
done_more e t x y start before after os ns o n d h =
    let r = of_layers (root e.source.now) in
    let all : (r ++ of_nodes ns) ++ of_layers (body n) ≡ r ++ of_nodes (ns ++ (n ∷ [])) = append_assoc r (of_nodes ns) (of_layers (body n)) ∙ ap (λ fs. r ++ fs) (sym (flat_map-append (λ m. of_layers (body m)) ns (n ∷ []) ∙ ap (λ fs. of_nodes ns ++ fs) (append-nil (of_layers (body n))))) in
    record {
      all = h.all;
      noted = h.noted ∙ ap (with_all (of_layers (body n))) d.noted ∙ sym (with_all-append (r ++ of_nodes ns) (of_layers (body n)) start) ∙ ap (λ fs. with_all fs start) all;
      root_ = has-on x y 0 h.kept d.root_;
      nodes_ = all-push y os o (all-on x y os h.kept d.nodes_) (h.found, h.here);
    }

-- the spot and the node of a number
pub record IsNth (e : Elab) (t : Bodies) (o : Spot) (ns : List Instance) (i : ℕ) : Type 0 where
  pub n : Instance
  pub open_ : IsOpenAt t o.body (body n)
  pub more : take (suc i) ns ≡ take i ns ++ (n ∷ [])

pub nth : (e : Elab) (t : Bodies) (os : List Spot) (ns : List Instance) (i : ℕ) (d : Spot) → i < length os → AreSpots e t os ns → IsNth e t (get_or os i d) ns i
nth e t [] ns i d l h = absurd (omega (arith, l))
nth e t (o ∷ os) [] i d l h = absurd h
nth e t (o ∷ os) (n ∷ ns) zero d l h = record { n = n; open_ = h.0.own; more = refl }
nth e t (o ∷ os) (n ∷ ns) (suc i) d l h =
    let rec = nth e t os ns i d (omega (arith, l)) h.1 in
    record { n = rec.n; open_ = rec.open_; more = ap (λ xs. n ∷ xs) rec.more }

pub all_nodes : (e : Elab) (t : Bodies) (os : List Spot) (ns : List Instance) (i : ℕ) → length os ≤ i → AreSpots e t os ns → take i ns ≡ ns
all_nodes e t [] [] i l h = take_all i [] l
all_nodes e t [] (n ∷ ns) i l h = absurd h
all_nodes e t (o ∷ os) [] i l h = absurd h
all_nodes e t (o ∷ os) (n ∷ ns) zero l h = absurd (omega (arith, l))
all_nodes e t (o ∷ os) (n ∷ ns) (suc i) l h = ap (λ xs. n ∷ xs) (all_nodes e t os ns i (omega (arith, l)) h.1)

module _ (e : Elab) (tree : OpenTree) (open_ : IsOpenTree e tree) (start : List Fault) (i : ℕ) where
  abbrev pub done : LayerTable → List Fault → ℕ → Type 0
  done x now k = Done e tree.bodies x start now (take k tree.spots.items) (take k (nodes_of e))

  module _ (x y : LayerTable) (before after : List Fault) (o d : Spot) (l : i < length tree.spots.items) (at : o ≡ get_or tree.spots.items i d) where
    here : IsNth e tree.bodies o (nodes_of e) i
    here = subst (λ z. IsNth e tree.bodies z (nodes_of e) i) (sym at) (nth e tree.bodies tree.spots.items (nodes_of e) i d l open_.nodes_)

    pub next_done : done x before i → ((b : values.Body) → IsOpenAt tree.bodies o.body b → IsKnown tree.bodies x y before after o.body b) → done y after (i + 1)
    next_done h known =
        let front : take (i + 1) tree.spots.items ≡ take i tree.spots.items ++ (o ∷ []) = take_more tree.spots.items i d l ∙ ap (λ z. take i tree.spots.items ++ (z ∷ [])) (sym at) in
        subst (λ os. Done e tree.bodies y start after os (take (i + 1) (nodes_of e))) (sym front)
        (subst (Done e tree.bodies y start after (take i tree.spots.items ++ (o ∷ []))) (sym (ap (λ k. take k (nodes_of e)) (add-one i) ∙ here.more)) (done_more e tree.bodies x y start before after (take i tree.spots.items) (take i (nodes_of e)) o here.n h (known (body here.n) here.open_)))

  -- the same, where the spots are listed under another name
  pub next_listed : (x y : LayerTable) (before after : List Fault) (os : List Spot) (same : os ≡ tree.spots.items) (d : Spot) → i < length os → done x before i
      → ((b : values.Body) → IsOpenAt tree.bodies (get_or os i d).body b → IsKnown tree.bodies x y before after (get_or os i d).body b) → done y after (i + 1)
  next_listed x y before after os same d l h known = next_done x y before after (get_or os i d) d (subst (λ ps. i < length ps) same l) (ap (λ ps. get_or ps i d) same) h known

  pub all_done : (x : LayerTable) (now : List Fault) → length tree.spots.items ≤ i → done x now i → AreLayersOf e tree x start now
  all_done x now l h =
      let ns = all_nodes e tree.bodies tree.spots.items (nodes_of e) i l open_.nodes_ in
      let os = take_all i tree.spots.items l in
      record {
        all = h.all;
        noted = h.noted ∙ ap (λ ms. with_all (of_layers (root e.source.now) ++ of_nodes ms) start) ns;
        root_ = h.root_;
        nodes_ = subst (AllByRecursion (λ o. HasLayers x o.body)) os h.nodes_;
      }

-- The same holds of a table in which the same is found.
pub found_again : (e : Elab) (tree : OpenTree) (x y : LayerTable) (before after : List Fault) → ((k : ℕ) → layers_at y k ≡ layers_at x k) → AreLayersOf e tree x before after → AreLayersOf e tree y before after
found_again e tree x y before after same h =
    let on : (j : ℕ) (l : Layers) → layers_at x j ≡ Some l → layers_at y j ≡ Some l = λ j l k. same j ∙ k in
    record {
      all = record { known = λ k l g. h.all.known k l (sym (same k) ∙ g) };
      noted = h.noted;
      root_ = has-on x y 0 on h.root_;
      nodes_ = all-on x y tree.spots.items on h.nodes_;
    }

-- Bodies that can be judged.

pub root_judged : (e : Elab) (tree : OpenTree) → IsOpenTree e tree → CanJudge tree.bodies 0
root_judged e tree open_ = record { in_order = open_.in_order; texts = open_.texts; shown = root e.source.now; open_ = open_.root_; distinct = subst (AreDistinct []) (sym (names_bound [] [] e.source.now.items.now)) tt }

node-distinct : (n : Instance) → bound_of n.use_ n.closure ≡ Ok n.bound → AreDistinct [] (body n).names.bound
node-distinct n h = subst (AreDistinct []) (sym (names_bound (around n.closure.scope) n.bound n.closure.def.items.now)) (bound_distinct n.use_ n.closure n.bound h)

abbrev HasBound : Instance → Type 0
HasBound n = bound_of n.use_ n.closure ≡ Ok n.bound

given-bound : (s : Seen) (n : Instance) → IsGivenBy s n → HasBound n
given-bound s n g = subst (λ u. bound_of u n.closure ≡ Ok n.bound) (sym g.use_is) g.bound_is

below-bound : (k : ℕ) (n : Instance) → HasBound n → AllByRecursion HasBound (with_below k n)
below-bound zero n h = (h, tt)
below-bound (suc k) n h = (h, each-flat_map HasBound (with_below k) (children n) (each-imp (IsChildOf n) (λ c. AllByRecursion HasBound (with_below k c)) (children n) (λ c g. below-bound k c (given-bound g.by c g.given_)) (children-given n)))

all-bound : (wanted : Option (List ℕ)) (s : Source) → AllByRecursion HasBound (nodes wanted s)
unfolding nodes
all-bound wanted s =
    each-append HasBound (signals s) (flat_map (with_below most_names) (top_of wanted s)) (each-imp IsAtRoot HasBound (signals s) (λ n g. given-bound g.by n g.given_) (signals-given s))
    (each-flat_map HasBound (with_below most_names) (top_of wanted s) (each-flat_map (λ n. AllByRecursion HasBound (with_below most_names n)) (λ u. given_by (top_seen u)) (option_to_list (top_use_of wanted s)) (tops (option_to_list (top_use_of wanted s)))))
  where
    tops : (us : List Use) → AllByRecursion (λ u. AllByRecursion (λ n. AllByRecursion HasBound (with_below most_names n)) (given_by (top_seen u))) us
    tops [] = tt
    tops (u ∷ us) = (each-imp (IsGivenBy (top_seen u)) (λ n. AllByRecursion HasBound (with_below most_names n)) (given_by (top_seen u)) (λ n g. below-bound most_names n (given-bound (top_seen u) n g)) (given-all (top_seen u)), tops us)

nth-bound : (e : Elab) (t : Bodies) (os : List Spot) (ns : List Instance) (i : ℕ) (d : Spot) → i < length os → AreSpots e t os ns → AllByRecursion HasBound ns → (n : Instance) × IsOpenAt t (get_or os i d).body (body n) × HasBound n
nth-bound e t [] ns i d l h g = absurd (omega (arith, l))
nth-bound e t (o ∷ os) [] i d l h g = absurd h
nth-bound e t (o ∷ os) (n ∷ ns) zero d l h g = (n, h.0.own, g.0)
nth-bound e t (o ∷ os) (n ∷ ns) (suc i) d l h g = nth-bound e t os ns i d (omega (arith, l)) h.1 g.1

pub node_judged : (e : Elab) (tree : OpenTree) (os : List Spot) (i : ℕ) (d : Spot) → IsOpenTree e tree → os ≡ tree.spots.items → i < length os → CanJudge tree.bodies (get_or os i d).body
node_judged e tree os i d open_ same l =
    let h = nth-bound e tree.bodies os (nodes_of e) i d l (subst (λ ps. AreSpots e tree.bodies ps (nodes_of e)) (sym same) open_.nodes_) (all-bound _ e.source.now) in
    record { in_order = open_.in_order; texts = open_.texts; shown = body h.0; open_ = h.1; distinct = node-distinct h.0 h.2 }

pub can_read : (t : Bodies) (k : ℕ) (x : Body) → CanJudge t k → slice_get t.list.items k ≡ Some x → CanRead t x
can_read t k x can at =
    let both : Some can.open_.open_ ≡ Some x = sym can.open_.here ∙ at in
    let same : can.open_.open_ ≡ x = cc in
    record { in_order = can.in_order k x at; texts = can.texts; number = k; listed = at; shown = can.shown; open_ = subst (λ y. IsOpenAs t y can.shown) same can.open_.is; distinct = can.distinct }

-- The names of a body, and those round it.

module _ (t : Bodies) (x : Body) (b : values.Body) (first : ℕ) (rest : List ℕ) (split : x.numbers.now ≡ first ∷ rest) (h : IsOpenAs t x b) where
  shown-split : Shows t.tables.items t.components.items (first ∷ rest) (0 ∷ x.uptos.now) (scope_at b (take 0 x.items.now))
  shown-split = subst (λ ks. Shows t.tables.items t.components.items ks (0 ∷ x.uptos.now) (scope_at b (take 0 x.items.now))) split (h.shown 0)

  pub outer_alike : IsAlike (chained t.tables.items rest) (around b.outer)
  outer_alike = round_alike t rest x.uptos.now b.outer shown-split.2

  names-here : HaveNames t.list.items (first ∷ rest) (b.names ∷ around b.outer)
  names-here = subst (λ ks. HaveNames t.list.items ks (b.names ∷ around b.outer)) split h.names

  pub own_bound : (own : Body) → slice_get t.list.items first ≡ Some own → values_over own.params.now own.touched.now ≡ b.names.bound
  own_bound own at =
      let both : Some names-here.0.body ≡ Some own = sym names-here.0.here ∙ at in
      let same : names-here.0.body ≡ own = cc in
      ap (λ n. n.bound) (subst (λ y. own_names y ≡ b.names) same names-here.0.names_are)

pub first_split : (ks : List ℕ) (k : ℕ) → slice_get ks 0 ≡ Some k → ks ≡ k ∷ drop 1 ks
first_split [] k e = cc
first_split (j ∷ ks) k e = let same : j ≡ k = cc in ap (λ i. i ∷ ks) same

pub first_missing : (t : Bodies) (x : Body) (b : values.Body) → IsOpenAs t x b → slice_get x.numbers.now 0 ≡ None → ⊥
first_missing t x b h none = go x.numbers.now none (h.shown 0)
  where
    go : (ks : List ℕ) → slice_get ks 0 ≡ None → Shows t.tables.items t.components.items ks (0 ∷ x.uptos.now) (scope_at b (take 0 x.items.now)) → ⊥
    go [] e s = s
    go (k ∷ ks) e s = cc

pub own_missing : (t : Bodies) (x : Body) (b : values.Body) (first : ℕ) (rest : List ℕ) → x.numbers.now ≡ first ∷ rest → IsOpenAs t x b → slice_get t.list.items first ≡ None → ⊥
own_missing t x b first rest split h none =
    let have = subst (λ ks. HaveNames t.list.items ks (b.names ∷ around b.outer)) split h.names in
    let both : Some have.0.body ≡ None = sym have.0.here ∙ none in
    cc
