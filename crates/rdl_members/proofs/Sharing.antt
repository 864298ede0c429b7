-- Where fields stand, and that they have no indices.
use Rattle.std.proofs.Common.{◌≡◌, ◌∙◌, ◌⊎◌, inl, inr, ℕ, Bool, true, false, cond, List, [], ◌∷◌, ◌++◌, flat_map, Option, None, Some, Ok, Err, option_to_list, slice_get, refl, sym, ap, subst}
use Rattle.std.specs.List.{AllByRecursion}
use denote.Enum.Bare.{same_true}
use Rattle.rdl_tree.specs.contracts.item.Kind as of_kind
use Rattle.rdl_tree.specs.declared.item.Kind.{Kind}
use Rattle.rdl_tree.specs.declared.item.Kind.TheVariants as kind
use Rattle.rdl_tree.specs.declared.node.Elab.{Elab}
use Rattle.rdl_tree.specs.Kinds.{same_kind}
use Rattle.rdl_values.specs.Bodies.{Closure, Step, below_top}
use Rattle.rdl_values.specs.Elaborated.{index_of, last_index, top_name}
use Rattle.rdl_values.specs.Instances.{Instance, body, children, elements, given_by, kind_of, rows, seen_in}
use Rattle.rdl_values.specs.Lineages.{Lineage, lineages_of}
use Rattle.rdl_values.specs.NoNode.{holds, no_node}
use Rattle.rdl_values.specs.Parameters.{Bound, bound_of}
use Rattle.rdl_values.specs.Parts.{dims_of, is_empty}
use Rattle.rdl_values.specs.Paths.{in_node, path_in}
use Rattle.rdl_values.specs.Uses.{Seen, parent_of}
use Rattle.rdl_values.specs.Values.{Outcome}
use Rattle.rdl_values.proofs.Given.{IsChildOf, children-given, each-map, seen-parents}
use Rattle.plain_lemmas.proofs.Lists.{each-flat_map}
use Rattle.rdl_layers.specs.Fields.{is_a}
use Rattle.rdl_addr.proofs.Covers.{child_held}
use Rattle.rdl_nodes.proofs.Members.{In, each-in, flat-in}
use Rattle.rdl_nodes.proofs.Order.{shallow-at, stands-under}

holder : (k : Kind) → holds k kind.Field ≡ true → k ≡ kind.Reg
holder kind.Reg h = refl
holder kind.Addrmap h = cc
holder kind.Regfile h = cc
holder kind.Field h = cc
holder kind.Signal h = cc

pub the-kind : (n : Instance) → is_a kind.Field n ≡ true → kind_of n ≡ kind.Field
the-kind n e = sym (same_true of_kind.the_type tt kind.Field (kind_of n) e)

-- a field stands in a register
pub in-register : (p c : Instance) → In (children p) c → is_a kind.Field c ≡ true → is_a kind.Reg p ≡ true
in-register p c i e =
    let h = each-in (IsChildOf p) (children p) c (children-given p) i in
    ap (same_kind kind.Reg) (holder (kind_of p) (subst (λ k. holds (kind_of p) k ≡ true) (the-kind c e) (child_held p c h)))

-- a field has no index
abbrev IsBare : Seen → Instance → Type 0
IsBare s c = kind_of c ≡ kind.Field → c.path ≡ path_in s.parent (record { name = s.use_.name.text.now; index = [] })

no-field : (s : Seen) (c : Closure) (o : Outcome Bound) (d : Outcome (List ℕ)) → (c.def.kind ≡ kind.Field → ⊥) → AllByRecursion (IsBare s) (elements s c o d)
no-field s c (Ok b) (Ok ds) never = each-map (IsBare s) _ (rows ds) (λ is q. absurd (never q))
no-field s c (Ok b) (Err f) never = tt
no-field s c (Err f) d never = tt

of-kind : (s : Seen) (c : Closure) (o : Outcome Bound) (k : Kind) → c.def.kind ≡ k → AllByRecursion (IsBare s) (elements s c o (dims_of s.use_ k))
of-kind s c (Ok b) kind.Field e = ((λ q. refl), tt)
of-kind s c (Err f) kind.Field e = tt
of-kind s c o kind.Reg e = no-field s c o (dims_of s.use_ kind.Reg) (λ q. let two : kind.Reg ≡ kind.Field = sym e ∙ q in cc two)
of-kind s c o kind.Regfile e = no-field s c o (dims_of s.use_ kind.Regfile) (λ q. let two : kind.Regfile ≡ kind.Field = sym e ∙ q in cc two)
of-kind s c o kind.Addrmap e = no-field s c o (dims_of s.use_ kind.Addrmap) (λ q. let two : kind.Addrmap ≡ kind.Field = sym e ∙ q in cc two)
of-kind s c o kind.Signal e = no-field s c o (dims_of s.use_ kind.Signal) (λ q. let two : kind.Signal ≡ kind.Field = sym e ∙ q in cc two)

bare : (s : Seen) → AllByRecursion (IsBare s) (given_by s)
bare s = go (is_empty (no_node s))
  where
    closed : (o : Option Closure) → AllByRecursion (IsBare s) (flat_map (λ c. elements s c (bound_of s.use_ c) (dims_of s.use_ c.def.kind)) (option_to_list o))
    closed None = tt
    closed (Some c) = each-flat_map (IsBare s) (λ c. elements s c (bound_of s.use_ c) (dims_of s.use_ c.def.kind)) (c ∷ []) (of-kind s c (bound_of s.use_ c) c.def.kind refl, tt)

    go : (b : Bool) → AllByRecursion (IsBare s) (cond b (flat_map (λ c. elements s c (bound_of s.use_ c) (dims_of s.use_ c.def.kind)) (option_to_list s.use_.closure)) [])
    go true = closed s.use_.closure
    go false = tt

last-step : (ss : List Step) (t : Step) → last_index (ss ++ (t ∷ [])) ≡ t.index
last-step [] t = refl
last-step (s ∷ []) t = refl
last-step (s ∷ u ∷ ss) t = last-step (u ∷ ss) t

pub no-index : (e : Elab) (i : ℕ) (q : Lineage) → slice_get (lineages_of e) i ≡ Some q → (c : Instance) → In (children q.node) c → is_a kind.Field c ≡ true → index_of c.path ≡ []
no-index e i q at c inside field = by (stands-under q (shallow-at (Some (top_name e)) e.source.now i q at))
  where
    by : ((ss : List Step) × (q.node.path ≡ below_top ss)) ⊎ (children q.node ≡ []) → index_of c.path ≡ []
    by (inr none) = absurd (subst (λ cs. In cs c) none inside)
    by (inl under) =
        let g = flat-in given_by (seen_in q.node) c inside in
        let s = g.0 in
        let step : Step = record { name = s.use_.name.text.now; index = [] } in
        let path = each-in (IsBare s) (given_by s) c (bare s) g.2 (the-kind c field) in
        let parent = each-in (λ (x : Seen). x.parent ≡ parent_of (body q.node)) (seen_in q.node) s (seen-parents _ (body q.node)) g.1 in
        let whole : c.path ≡ below_top (under.0 ++ (step ∷ [])) = path ∙ (ap (λ p. path_in p step) parent ∙ ap (λ p. path_in (in_node p (kind_of q.node)) step) under.1) in
        ap index_of whole ∙ last-step under.0 step
