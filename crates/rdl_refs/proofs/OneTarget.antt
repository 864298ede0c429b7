-- A reference leads to one node at most.
use Rattle.std.proofs.Common.{◌≡◌, ◌∙◌, ◌⊎◌, inl, inr, ℕ, ◌≤◌, Bool, true, false, cond, List, [], ◌∷◌, ◌++◌, length, map, filter, flat_map, bytes_eq, Option, None, Some, option_to_list, Ok, Err, refl, sym, ap, subst, arith, append-nil}
use Rattle.std.specs.List.{AllByRecursion}
use Rattle.std.proofs.lemmas.List.{map-append}
use Rattle.plain_lemmas.proofs.Lists.{bytes_eq-same as same_bytes, each-append, each-both as both, each-filter, each-flat_map, each-imp, filter-each as passing}
use Rattle.plain_lemmas.proofs.Bools.{and-both as both_true}
use Rattle.rdl_tree.specs.declared.expr.Name.{Name}
use Rattle.rdl_tree.specs.declared.expr.Step as tree
use Rattle.rdl_tree.specs.declared.item.Kind.{Kind}
use Rattle.rdl_tree.specs.declared.item.Kind.TheVariants as kind
use Rattle.rdl_tree.specs.declared.item.Source.{Source}
use Rattle.rdl_props.specs.declared.prop.Prop.{Prop}
use Rattle.rdl_props.specs.declared.prop.Prop.TheVariants as prop
use Rattle.rdl_props.specs.Table.{find_prop}
use Rattle.rdl_values.specs.Bodies.{Layer, Scope, around}
use Rattle.rdl_values.specs.Bodies as bodies
use Rattle.rdl_values.specs.Elaborated.{index_of, last_index}
use Rattle.rdl_values.specs.Instances.{Instance, kind_of, children, signals, top_of, with_below, most_names, nodes}
use Rattle.rdl_values.specs.Lineages.{Lineage, child_of, children_in, lineages, nodes_in}
use Rattle.rdl_values.specs.NoNode.{may_hold, is_signal}
use Rattle.rdl_values.specs.Paths.{in_node, path_in}
use Rattle.rdl_values.specs.Uses.{values, same_name}
use Rattle.rdl_values.specs.Values.{Around, Outcome}
use Rattle.rdl_values.specs.Views.{steps_of}
use Rattle.rdl_values.proofs.Given.{IsChildOf, IsAtRoot, children-given, signals-given, tops-given, held}
use Rattle.rdl_values.proofs.Numbered.{bottom, At}
use Rattle.rdl_nodes.proofs.Apart.{Apart, apart-imp}
use Rattle.rdl_nodes.proofs.Lineages.{all_nodes}
use Rattle.rdl_nodes.proofs.Paths.{Differ, IsChild, IsUnder, nodes_apart, children_apart, are_children, under}
use Rattle.rdl_layers.specs.Assignments.{same_step, same_steps, same_path, is_index, is_step_exactly, led_down}
use Rattle.rdl_layers.specs.Settings.{Meaning, reference}
use Rattle.rdl_refs.specs.declared.item.What.{What}
use Rattle.rdl_refs.specs.declared.item.What.TheVariants as what
use Rattle.rdl_refs.specs.Leads.{is_at_root, members_of, nearest_with, led_in, led_to}
use Rattle.rdl_refs.specs.Items.{field_what, what_named, item_named, target}

-- Lists of one at most.

abbrev pub AtMost : {X : Type 0} → List X → Type 0
AtMost [] = Unit {0}
AtMost (x ∷ []) = Unit {0}
AtMost (x ∷ y ∷ xs) = ⊥

pub at_most_length : {X : Type 0} (xs : List X) → AtMost xs → length xs ≤ 1
at_most_length [] h = omega arith
at_most_length (x ∷ []) h = omega arith
at_most_length (x ∷ y ∷ xs) h = absurd h

apart-filter : {X : Type 0} (R : X → X → Type 0) (f : X → Bool) (xs : List X) → Apart R xs → Apart R (filter f xs)
apart-filter R f [] h = tt
apart-filter R f (x ∷ xs) h = go (f x) (apart-filter R f xs h.1)
  where
    go : (b : Bool) → Apart R (filter f xs) → Apart R (cond b (x ∷ filter f xs) (filter f xs))
    go true k = (each-filter (R x) f xs h.0, k)
    go false k = k

pub one_passes : {X : Type 0} (R : X → X → Type 0) (f : X → Bool) (xs : List X) → Apart R xs → ((x y : X) → f x ≡ true → f y ≡ true → R x y → ⊥) → AtMost (filter f xs)
one_passes {X = X} R f xs h never = by (filter f xs) (apart-filter R f xs h) (passing f xs)
  where
    by : (ys : List X) → Apart R ys → AllByRecursion (λ x. f x ≡ true) ys → AtMost ys
    by [] a p = tt
    by (x ∷ []) a p = tt
    by (x ∷ y ∷ ys) a p = never x y p.0 p.1.0 a.0.0

-- The same path.

equal_step : (s t : bodies.Step) → s.name ≡ t.name → s.index ≡ t.index → s ≡ t
equal_step s t e g i = record { name = e i; index = g i }

is_same_step : (s t : bodies.Step) → same_step s t ≡ true → s ≡ t
is_same_step s t e = let p = both_true (bytes_eq s.name t.name) (bytes_eq s.index t.index) e in equal_step s t (same_bytes s.name t.name p.0) (same_bytes s.index t.index p.1)

are_same_steps : (ss ts : List bodies.Step) → same_steps ss ts ≡ true → ss ≡ ts
are_same_steps [] [] e = refl
are_same_steps [] (t ∷ ts) e = cc
are_same_steps (s ∷ ss) [] e = cc
are_same_steps (s ∷ ss) (t ∷ ts) e = let p = both_true (same_step s t) (same_steps ss ts) e in ap (λ x. x ∷ ss) (is_same_step s t p.0) ∙ ap (λ xs. t ∷ xs) (are_same_steps ss ts p.1)

pub is_same_path : (p q : bodies.Path) → same_path p q ≡ true → p ≡ q
is_same_path (bodies.of_signal s) (bodies.of_signal t) e = ap bodies.of_signal (is_same_step s t (both_true (same_step s t) true e).0)
is_same_path (bodies.below_top ss) (bodies.below_top ts) e = ap bodies.below_top (are_same_steps ss ts e)
is_same_path (bodies.of_signal s) (bodies.below_top ts) e = cc
is_same_path (bodies.below_top ss) (bodies.of_signal t) e = cc

-- Nodes of one body have other names or other indices.

abbrev pub Other : Instance → Instance → Type 0
Other m n = m.use_.name.text.now ≡ n.use_.name.text.now → index_of m.path ≡ index_of n.path → ⊥

last_step : (ss : List bodies.Step) (t : bodies.Step) → last_index (ss ++ (t ∷ [])) ≡ t.index
last_step [] t = refl
last_step (s ∷ []) t = refl
last_step (s ∷ u ∷ ss) t = last_step (u ∷ ss) t

-- a node by a step of its own name
abbrev IsBy : (bodies.Step → bodies.Path) → Instance → Type 0
IsBy f c = (t : bodies.Step) × (c.path ≡ f t) × (t.name ≡ c.use_.name.text.now)

others : (f : bodies.Step → bodies.Path) → ((t : bodies.Step) → index_of (f t) ≡ t.index) → (c d : Instance) → IsBy f c → IsBy f d → Differ c d → Other c d
others f h c d p q n e g =
    let names : p.0.name ≡ q.0.name = p.2 ∙ e ∙ sym q.2 in
    let indices : p.0.index ≡ q.0.index = sym (h p.0) ∙ ap index_of (sym p.1) ∙ g ∙ ap index_of q.1 ∙ h q.0 in
    n (p.1 ∙ ap f (equal_step p.0 q.0 names indices) ∙ sym q.1)

abbrev child_path : List bodies.Step → bodies.Step → bodies.Path
child_path ss t = bodies.below_top (ss ++ (t ∷ []))

named_child : (n c : Instance) (ss : List bodies.Step) → n.path ≡ bodies.below_top ss → IsChildOf n c → IsBy (child_path ss) c
named_child n c ss e h =
    let step : bodies.Step = record { name = h.by.use_.name.text.now; index = h.given_.index } in
    (step, h.given_.path_is ∙ ap (λ q. path_in q step) h.in_body ∙ ap (λ q. path_in (in_node q (kind_of n)) step) e, ap (λ u. u.name.text.now) (sym h.given_.use_is))

named_signal : (c : Instance) → IsAtRoot c → IsBy bodies.of_signal c
named_signal c h =
    let step : bodies.Step = record { name = h.by.use_.name.text.now; index = h.given_.index } in
    (step, h.given_.path_is ∙ ap (λ q. path_in q step) h.in_body, ap (λ u. u.name.text.now) (sym h.given_.use_is))

children_other : (n : Instance) (ss : List bodies.Step) → n.path ≡ bodies.below_top ss → Apart Other (children n)
children_other n ss e = apart-imp (IsBy (child_path ss)) Differ Other (children n) (others (child_path ss) (last_step ss)) (each-imp (IsChildOf n) (IsBy (child_path ss)) (children n) (λ c h. named_child n c ss e h) (children-given n)) (children_apart n ss e)

-- a node below the top, or one with nothing in its body
abbrev pub Good : Instance → Type 0
Good n = ((ss : List bodies.Step) × (n.path ≡ bodies.below_top ss)) ⊎ (children n ≡ [])

abbrev pub Fine : List Instance → Type 0
Fine ns = Apart Other ns × AllByRecursion Good ns

fine_children : (n : Instance) → Good n → Fine (children n)
fine_children n (inl p) = (children_other n p.0 p.1, each-imp (IsChild p.0) Good (children n) (λ c h. inl (p.0 ++ (h.0 ∷ []), h.1)) (are_children n p.0 p.1))
fine_children n (inr e) = subst Fine (sym e) (tt, tt)

fine_one : (ns : List Instance) → AtMost ns → AllByRecursion Good ns → Fine (flat_map children ns)
fine_one [] a g = (tt, tt)
fine_one (n ∷ []) a g = subst Fine (sym (append-nil (children n))) (fine_children n g.0)
fine_one (m ∷ n ∷ ns) a g = absurd a

-- All nodes.

signal_good : (n : Instance) → IsAtRoot n → Good n
signal_good n h =
    let path = (named_signal n h).1 in
    let kind : is_signal (kind_of n) ≡ true = subst (λ p. may_hold p (kind_of n) ≡ true) h.in_body (held h.by n h.given_) in
    inr (bottom n (subst (λ p. At p 0 n) (sym path) kind))

abbrev Rooted : Instance → Type 0
Rooted n = is_at_root n.path ≡ true → IsBy bodies.of_signal n

-- the nodes in the body of a node, or of the root
abbrev pub members : List Instance → Option bodies.Path → List Instance
members ns None = filter (λ n. is_at_root n.path) ns
members ns (Some p) = flat_map children (filter (λ n. same_path n.path p) ns)

module _ (wanted : Option (List ℕ)) (s : Source) where
  tops_under : AllByRecursion (IsUnder []) (flat_map (with_below most_names) (top_of wanted s))
  tops_under = each-flat_map (IsUnder []) (with_below most_names) (top_of wanted s) (each-imp (λ n. n.path ≡ bodies.below_top []) (λ n. AllByRecursion (IsUnder []) (with_below most_names n)) (top_of wanted s) (λ n e. under most_names n [] e) (tops-given wanted s))

  all_good : AllByRecursion Good (nodes wanted s)
  unfolding nodes
  all_good = each-append Good (signals s) (flat_map (with_below most_names) (top_of wanted s)) (each-imp IsAtRoot Good (signals s) signal_good (signals-given s)) (each-imp (IsUnder []) Good (flat_map (with_below most_names) (top_of wanted s)) (λ n h. inl (h.0, h.1)) tops_under)

  all_rooted : AllByRecursion Rooted (nodes wanted s)
  unfolding nodes
  all_rooted = each-append Rooted (signals s) (flat_map (with_below most_names) (top_of wanted s)) (each-imp IsAtRoot Rooted (signals s) (λ n h e. named_signal n h) (signals-given s)) (each-imp (IsUnder []) Rooted (flat_map (with_below most_names) (top_of wanted s)) (λ n h e. absurd (not_there n h e)) tops_under)
    where
      not_there : (n : Instance) → IsUnder [] n → is_at_root n.path ≡ true → ⊥
      not_there n h e = let no : is_at_root n.path ≡ false = ap is_at_root h.1 in cc

  pub members_fine : (o : Option bodies.Path) → Fine (members (nodes wanted s) o)
  members_fine None = (
    apart-imp (IsBy bodies.of_signal) Differ Other (filter (λ n. is_at_root n.path) (nodes wanted s)) (others bodies.of_signal (λ t. refl)) (both Rooted (λ n. is_at_root n.path ≡ true) (IsBy bodies.of_signal) (filter (λ n. is_at_root n.path) (nodes wanted s)) (λ n h e. h e) (each-filter Rooted (λ n. is_at_root n.path) (nodes wanted s) all_rooted) (passing (λ n. is_at_root n.path) (nodes wanted s))) (apart-filter Differ (λ n. is_at_root n.path) (nodes wanted s) (nodes_apart wanted s)),
    each-filter Good (λ n. is_at_root n.path) (nodes wanted s) all_good,
  )
  members_fine (Some p) = fine_one (filter (λ n. same_path n.path p) (nodes wanted s)) (one_passes Differ (λ n. same_path n.path p) (nodes wanted s) (nodes_apart wanted s) (λ x y e g n. n (is_same_path x.path p e ∙ sym (is_same_path y.path p g)))) (each-filter Good (λ n. same_path n.path p) (nodes wanted s) all_good)

-- Steps.

one_index : (v : Outcome (List ℕ)) (i j : List ℕ) → is_index v i ≡ true → is_index v j ≡ true → i ≡ j
one_index (Ok ns) i j e g = sym (same_bytes ns i e) ∙ same_bytes ns j g
one_index (Err f) i j e g = cc

one_step : (env : Around) (t : tree.Step) (x y : Instance) → is_step_exactly env t x ≡ true → is_step_exactly env t y ≡ true → Other x y → ⊥
one_step env t x y e g n =
    let p = both_true (same_name t.name x.use_.name) (is_index (values env t.index.now) (index_of x.path)) e in
    let q = both_true (same_name t.name y.use_.name) (is_index (values env t.index.now) (index_of y.path)) g in
    n (sym (same_bytes t.name.text.now x.use_.name.text.now p.0) ∙ same_bytes t.name.text.now y.use_.name.text.now q.0) (one_index (values env t.index.now) (index_of x.path) (index_of y.path) p.1 q.1)

led_one : (env : Around) (ns : List Instance) (ts : List tree.Step) → Fine ns → AtMost (led_down children (is_step_exactly env) ns ts)
led_one env ns [] f = tt
led_one env ns (t ∷ []) f = one_passes Other (is_step_exactly env t) ns f.0 (one_step env t)
led_one env ns (t ∷ u ∷ ts) f = led_one env (flat_map children (filter (is_step_exactly env t) ns)) (u ∷ ts) (fine_one (filter (is_step_exactly env t) ns) (one_passes Other (is_step_exactly env t) ns f.0 (one_step env t)) (each-filter Good (is_step_exactly env t) ns f.1))

-- The same with their ancestors.

same_children : (n : Lineage) (cs : List Instance) → nodes_in (map (child_of n) cs) ≡ cs
same_children n [] = refl
same_children n (c ∷ cs) = ap (λ xs. c ∷ xs) (same_children n cs)

pub same_passing : (t : Instance → Bool) (ns : List Lineage) → nodes_in (filter (λ n. t n.node) ns) ≡ filter t (nodes_in ns)
same_passing t [] = refl
same_passing t (n ∷ ns) = go (t n.node) (same_passing t ns)
  where
    go : (b : Bool) → nodes_in (filter (λ n. t n.node) ns) ≡ filter t (nodes_in ns) → nodes_in (cond b (n ∷ filter (λ n. t n.node) ns) (filter (λ n. t n.node) ns)) ≡ cond b (n.node ∷ filter t (nodes_in ns)) (filter t (nodes_in ns))
    go true e = ap (λ xs. n.node ∷ xs) e
    go false e = e

same_inside : (ns : List Lineage) → nodes_in (flat_map children_in ns) ≡ flat_map children (nodes_in ns)
same_inside [] = refl
same_inside (n ∷ ns) = map-append (λ x. x.node) (children_in n) (flat_map children_in ns) ∙ ap (λ xs. xs ++ nodes_in (flat_map children_in ns)) (same_children n (children n.node)) ∙ ap (λ xs. children n.node ++ xs) (same_inside ns)

same_led : (is : tree.Step → Instance → Bool) (ns : List Lineage) (ts : List tree.Step) → nodes_in (led_down children_in (λ t n. is t n.node) ns ts) ≡ led_down children is (nodes_in ns) ts
same_led is ns [] = refl
same_led is ns (t ∷ []) = same_passing (is t) ns
same_led is ns (t ∷ u ∷ ts) = same_led is (flat_map children_in (filter (λ n. is t n.node) ns)) (u ∷ ts) ∙ ap (λ xs. led_down children is xs (u ∷ ts)) (same_inside (filter (λ n. is t n.node) ns) ∙ ap (flat_map children) (same_passing (is t) ns))

pub same_members : (ns : List Lineage) (o : Option bodies.Path) → nodes_in (members_of ns o) ≡ members (nodes_in ns) o
same_members ns None = same_passing (λ n. is_at_root n.path) ns
same_members ns (Some p) = same_inside (filter (λ n. same_path n.node.path p) ns) ∙ ap (flat_map children) (same_passing (λ n. same_path n.path p) ns)

pub of_nodes : (ns : List Lineage) → AtMost (nodes_in ns) → AtMost ns
of_nodes [] h = tt
of_nodes (n ∷ []) h = tt
of_nodes (m ∷ n ∷ ns) h = absurd h

pub one_node : (wanted : Option (List ℕ)) (s : Source) (p : _) (scope : Scope) → AtMost (led_to (lineages wanted s) p scope)
unfolding led_to
one_node wanted s p scope = go (nearest_with (lineages wanted s) (steps_of p) scope)
  where
    nodes_led : (o : Option bodies.Path) → AtMost (led_down children (is_step_exactly (around scope)) (nodes_in (members_of (lineages wanted s) o)) (steps_of p))
    nodes_led o = subst (λ ns. AtMost (led_down children (is_step_exactly (around scope)) ns (steps_of p))) (sym (same_members (lineages wanted s) o ∙ ap (λ ns. members ns o) (all_nodes wanted s))) (led_one (around scope) (members (nodes wanted s) o) (steps_of p) (members_fine wanted s o))

    go : (o : Option Layer) → AtMost (led_in (lineages wanted s) (steps_of p) scope o)
    go None = tt
    go (Some l) = of_nodes _ (subst AtMost (sym (same_led (is_step_exactly (around scope)) (members_of (lineages wanted s) l.node) (steps_of p))) (nodes_led l.node))

-- Items.

one_field : (p : Prop) → AtMost (field_what p)
one_field prop.Anded = tt
one_field prop.Ored = tt
one_field prop.Xored = tt
one_field prop.Incrthreshold = tt
one_field prop.Decrthreshold = tt
one_field prop.Overflow = tt
one_field prop.Underflow = tt
one_field prop.Swmod = tt
one_field prop.Swacc = tt
one_field _ = tt

one_of_field : (o : Option Prop) → AtMost (flat_map field_what (option_to_list o))
one_of_field None = tt
one_of_field (Some p) = subst AtMost (sym (append-nil (field_what p))) (one_field p)

one_what : (k : Kind) (item : Option Name) → AtMost (what_named k item)
one_what kind.Signal None = tt
one_what kind.Signal (Some n) = tt
one_what kind.Field None = tt
one_what kind.Field (Some n) = one_of_field (find_prop n.text.now)
one_what kind.Reg None = tt
one_what kind.Reg (Some n) = two _ _ what.Intr what.Halt
  where
    two : (a b : Bool) (x y : What) → AtMost (cond a (x ∷ []) (cond b (y ∷ []) []))
    two true b x y = tt
    two false true x y = tt
    two false false x y = tt
one_what kind.Regfile item = tt
one_what kind.Addrmap item = tt

map_most : {X Y : Type 0} (f : X → Y) (xs : List X) → AtMost xs → AtMost (map f xs)
map_most f [] h = tt
map_most f (x ∷ []) h = tt
map_most f (x ∷ y ∷ xs) h = absurd h

flat_most : {X Y : Type 0} (f : X → List Y) (xs : List X) → AtMost xs → ((x : X) → AtMost (f x)) → AtMost (flat_map f xs)
flat_most f [] h g = tt
flat_most f (x ∷ []) h g = subst AtMost (sym (append-nil (f x))) (g x)
flat_most f (x ∷ y ∷ xs) h g = absurd h

pub one_target : (wanted : Option (List ℕ)) (s : Source) (m : Meaning) → AtMost (target (lineages wanted s) m)
one_target wanted s (reference p item scope place) = flat_most (item_named item) (led_to (lineages wanted s) p scope) (one_node wanted s p scope) (λ n. map_most _ (what_named (kind_of n.node) item) (one_what (kind_of n.node) item))
one_target wanted s _ = tt
