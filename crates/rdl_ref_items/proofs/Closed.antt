-- What references lead to are nodes of the source.
use Rattle.std.proofs.Common.{◌≡◌, ◌∙◌, ◌⊎◌, inl, inr, ℕ, zero, suc, ◌+◌, ◌≤◌, Bool, true, false, cond, List, [], ◌∷◌, ◌++◌, map, filter, flat_map, Option, None, Some, refl, sym, ap, subst, arith}
use Rattle.rdl_tree.specs.declared.expr.Path.{Path}
use Rattle.rdl_tree.specs.declared.expr.Step.{Step}
use Rattle.rdl_tree.specs.declared.item.Source.{Source}
use Rattle.rdl_values.specs.Bodies.{Layer, Scope, around, below_top, of_signal}
use Rattle.rdl_values.specs.Bodies as bodies
use Rattle.rdl_values.specs.Instances.{Instance, children, kind_of, most_names, signals, top_of}
use Rattle.rdl_values.specs.Lineages.{Lineage, alone, child_of, children_in, lineages, lineages_below}
use Rattle.rdl_values.specs.NoNode.{is_signal, may_hold}
use Rattle.rdl_values.specs.Paths.{path_in}
use Rattle.rdl_values.specs.Views.{steps_of}
use Rattle.rdl_values.proofs.Given.{IsAtRoot, held, signals-given, tops-given}
use Rattle.rdl_values.proofs.Numbered.{At, Deep, bottom, lower, tops_deep}
use Rattle.rdl_layers.specs.Assignments.{led_down, same_path, is_step_exactly}
use Rattle.rdl_refs.specs.Leads.{is_at_root, led_in, led_to, members_of, nearest_with}
use Rattle.rdl_fields.proofs.Lists.{filter-in}
use Rattle.rdl_nodes.proofs.Members.{In, each-in, flat-in, in-either, in-flat, in-left, in-map, in-right, map-in}

none-in : (c : Instance) (ns : List Instance) → ns ≡ [] → In ns c → ⊥
none-in c ns e h = absurd (subst (λ xs. In xs c) e h)

below-closed : (k : ℕ) (up : List Instance) (n : Instance) → Deep k n → (l : Lineage) → In (lineages_below k up n) l → (c : Instance) → In (children l.node) c → In (lineages_below k up n) (child_of l c)
below-closed zero up n d l (inl e) c i = absurd (none-in c (children n) (bottom n d) (subst (λ (m : Lineage). In (children m.node) c) (sym e) i))
below-closed zero up n d l (inr h) c i = absurd h
below-closed (suc k) up n d l (inl e) c i =
    let inside : In (children n) c = subst (λ (m : Lineage). In (children m.node) c) (sym e) i in
    let first : In (lineages_below k (n ∷ up) c) (record { node = c; ancestors = n ∷ up }) = head k (n ∷ up) c in
    subst (λ (m : Lineage). In (lineages_below (suc k) up n) (child_of m c)) e (inr (in-flat (lineages_below k (n ∷ up)) (children n) c (record { node = c; ancestors = n ∷ up }) inside first))
  where
    head : (j : ℕ) (above : List Instance) (m : Instance) → In (lineages_below j above m) (record { node = m; ancestors = above })
    head zero above m = inl refl
    head (suc j) above m = inl refl
below-closed (suc k) up n d l (inr h) c i =
    let q = flat-in (lineages_below k (n ∷ up)) (children n) l h in
    inr (in-flat (lineages_below k (n ∷ up)) (children n) q.0 (child_of l c) q.1 (below-closed k (n ∷ up) q.0 (each-in (Deep k) (children n) q.0 (lower k n d) q.1) l q.2 c i))

signal-bottom : (s : Source) (n : Instance) → In (signals s) n → children n ≡ []
signal-bottom s n i =
    let h = each-in IsAtRoot (signals s) n (signals-given s) i in
    let t : bodies.Step = record { name = h.by.use_.name.text.now; index = h.given_.index } in
    let path : n.path ≡ of_signal t = h.given_.path_is ∙ ap (λ p. path_in p t) h.in_body in
    let kind : is_signal (kind_of n) ≡ true = subst (λ p. may_hold p (kind_of n) ≡ true) h.in_body (held h.by n h.given_) in
    bottom n (subst (λ p. At p 0 n) (sym path) kind)

module _ (w : Option (List ℕ)) (s : Source) where
  pub closed : (l : Lineage) → In (lineages w s) l → (c : Instance) → In (children l.node) c → In (lineages w s) (child_of l c)
  unfolding lineages
  closed l h c i = by (in-either (map alone (signals s)) (flat_map (lineages_below most_names []) (top_of w s)) l h)
    where
      by : In (map alone (signals s)) l ⊎ In (flat_map (lineages_below most_names []) (top_of w s)) l → In (map alone (signals s) ++ flat_map (lineages_below most_names []) (top_of w s)) (child_of l c)
      by (inl g) =
          let q = map-in alone (signals s) l g in
          let node : q.0 ≡ l.node = ap (λ (m : Lineage). m.node) q.2 in
          absurd (none-in c (children l.node) (subst (λ n. children n ≡ []) node (signal-bottom s q.0 q.1)) i)
      by (inr g) =
          let q = flat-in (lineages_below most_names []) (top_of w s) l g in
          in-right (map alone (signals s)) (flat_map (lineages_below most_names []) (top_of w s)) (child_of l c)
          (in-flat (lineages_below most_names []) (top_of w s) q.0 (child_of l c) q.1 (below-closed most_names [] q.0 (each-in (Deep most_names) (top_of w s) q.0 (tops_deep w s) q.1) l q.2 c i))

  abbrev Among : List Lineage → Type 0
  Among ls = (l : Lineage) → In ls l → In (lineages w s) l

  inside : (ls : List Lineage) → Among ls → Among (flat_map children_in ls)
  inside ls h m i =
      let q = flat-in children_in ls m i in
      let r = map-in (child_of q.0) (children q.0.node) m q.2 in
      subst (In (lineages w s)) r.2 (closed q.0 (h q.0 q.1) r.0 r.1)

  filtered : (p : Lineage → Bool) (ls : List Lineage) → Among ls → Among (filter p ls)
  filtered p ls h m i = h m (filter-in p ls m i)

  down : (test : Step → Lineage → Bool) (ts : List Step) (ls : List Lineage) → Among ls → Among (led_down children_in test ls ts)
  down test [] ls h m i = absurd i
  down test (t ∷ []) ls h m i = filtered (test t) ls h m i
  down test (t ∷ u ∷ ts) ls h m i = down test (u ∷ ts) (flat_map children_in (filter (test t) ls)) (inside (filter (test t) ls) (filtered (test t) ls h)) m i

  members : (o : Option bodies.Path) → Among (members_of (lineages w s) o)
  members None = filtered (λ (n : Lineage). is_at_root n.node.path) (lineages w s) (λ l h. h)
  members (Some p) = inside (filter (λ (n : Lineage). same_path n.node.path p) (lineages w s)) (filtered (λ (n : Lineage). same_path n.node.path p) (lineages w s) (λ l h. h))

  pub leads-among : (p : Path) (scope : Scope) → Among (led_to (lineages w s) p scope)
  unfolding led_to
  leads-among p scope = by (nearest_with (lineages w s) (steps_of p) scope)
    where
      by : (o : Option Layer) → Among (led_in (lineages w s) (steps_of p) scope o)
      by None = λ m i. absurd i
      by (Some l) = down (λ t n. is_step_exactly (around scope) t n.node) (steps_of p) (members_of (lineages w s) l.node) (members l.node)
