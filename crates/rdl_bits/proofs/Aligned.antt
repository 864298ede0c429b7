-- An alignment of 0 fails at an instance that is an element of a group.
use Rattle.std.proofs.Common.{◌≡◌, ◌∙◌, ℕ, zero, suc, ◌&&◌, ◌||◌, ◌==◌, inl, inr, Bool, true, false, not, cond, List, [], ◌∷◌, ◌++◌, map, flat_map, filter, take, drop, reverse, slice_get, option_and_then, option_to_list, Option, None, Some, is_some, refl, sym, ap, subst}
use Rattle.std.specs.List.{list_any}
use Rattle.plain_lemmas.proofs.Options.{is_some-false as absent}
use Rattle.rdl_base.specs.declared.fault.Fault.{Fault}
use Rattle.rdl_base.specs.declared.rule.Rule.TheVariants as rules
use Rattle.rdl_tree.specs.declared.expr.Name.{Name}
use Rattle.rdl_tree.specs.declared.item.Def.{Def}
use Rattle.rdl_tree.specs.declared.item.Item.{Item}
use Rattle.rdl_tree.specs.declared.item.Kind.{Kind}
use Rattle.rdl_tree.specs.declared.item.Kind.TheVariants as kind
use Rattle.rdl_tree.specs.declared.item.Source.{Source}
use Rattle.rdl_tree.specs.declared.node.Elab.{Elab}
use Rattle.rdl_values.specs.Bodies.{Body, Closure, Scope, around, component_of, scope_at, standing}
use Rattle.rdl_values.specs.Elaborated.{nodes_of, top_name}
use Rattle.rdl_values.specs.Elaboration.{IsClean}
use Rattle.rdl_values.specs.Faults.{at_, when}
use Rattle.rdl_values.specs.Given.{IsGivenBy}
use Rattle.rdl_values.specs.Instances.{Instance, body, children, given_by, judged_nodes, kind_of, most_nodes, root, seen_in, top_of}
use Rattle.rdl_values.specs.Lineages.{Lineage, lineages_of}
use Rattle.rdl_values.specs.NoNode.{no_node}
use Rattle.rdl_values.specs.Parts.{is_empty, is_unit}
use Rattle.rdl_values.specs.Phase3.{bad_form, failures3, first_over, is_bad_form, is_field, many_parameters, of_enums, of_judged, of_node, of_use, twice_defined}
use Rattle.rdl_values.specs.Top.{is_addrmap, is_wanted, top_at, top_named, top_seen, top_use, top_use_of}
use Rattle.rdl_values.specs.Uses.{Seen, Use, seen}
use Rattle.rdl_values.specs.Values.{number_of}
use Rattle.rdl_values.specs.Views.{item_is}
use Rattle.rdl_values.proofs.Clean.{Somewhere, nearest_is, nodes_nil, none_over, root_nil, unreversed}
use Rattle.rdl_values.proofs.Given.{given-all}
use Rattle.rdl_values.proofs.Sorted.{none_fails}
use Rattle.rdl_layers.specs.Settings.{given}
use Rattle.rdl_nodes.proofs.Members.{In, each-in, flat-in, in-either, in-flat, in-map, in-place, place-in}
use Rattle.rdl_nodes.proofs.Order.{behind}
use Rattle.rdl_addr.specs.Layout.{Group, access_of, greatest, group, grouped, has_address, mode_in, size_of}
use Rattle.rdl_addr.specs.Rules.{no_alignment}
use Rattle.rdl_addr.proofs.Covers.{address_by_kind}
use Rattle.rdl_sizes.specs.Levels.{groups_at, levels, mode_under}
use Rattle.rdl_sizes.proofs.Facts.{lineage-at, node-at}
use Rattle.rdl_bits.proofs.Filtered.{in-kept, kept-in}
use Rattle.rdl_bits.proofs.Descending.{at-top, signal-unplaced}

-- what fails of an instance by the use that it comes from
abbrev align_faults : Use → List Fault
align_faults u = when (list_any (λ m. m == 0) (flat_map (λ e. given (number_of (around u.scope) e)) (option_to_list u.form.align))) (at_ rules.A2 u.name.place)

by-use : (n : Instance) → no_alignment n ≡ align_faults n.use_
by-use n = refl

unaligned : (u : Use) → u.form.align ≡ None → align_faults u ≡ []
unaligned u e = ap (λ o. when (list_any (λ m. m == 0) (flat_map (λ x. given (number_of (around u.scope) x)) (option_to_list o))) (at_ rules.A2 u.name.place)) e

-- Where nothing fails of a body, no field or signal has an alignment.

nil-left : (xs ys : List Fault) → xs ++ ys ≡ [] → xs ≡ []
nil-left [] ys e = refl
nil-left (x ∷ xs) ys e = cc e

nil-right : (xs ys : List Fault) → xs ++ ys ≡ [] → ys ≡ []
nil-right [] ys e = e
nil-right (x ∷ xs) ys e = cc e

nil-in : {X : Type 0} (f : X → List Fault) (xs : List X) (x : X) → flat_map f xs ≡ [] → In xs x → f x ≡ []
nil-in f [] x e h = absurd h
nil-in f (y ∷ ys) x e (inl s) = ap f (sym s) ∙ nil-left (f y) (flat_map f ys) e
nil-in f (y ∷ ys) x e (inr h) = nil-in f ys x (nil-right (f y) (flat_map f ys) e) h

when-nil : (t : Bool) (f : Fault) → when t f ≡ [] → t ≡ false
when-nil false f e = refl
when-nil true f e = cc e

none-there : (a b c d e f g : Bool) → a || (b && (c || d || e)) || f || g ≡ false → b ≡ true → e ≡ false
none-there true b c d e f g h t = cc h
none-there false true true d e f g h t = cc h
none-there false true false true e f g h t = cc h
none-there false true false false true f g h t = cc h
none-there false true false false false f g h t = refl
none-there false false c d e f g h t = cc t

unit-unaligned : (u : Seen) (c : Closure) → of_use u ≡ [] → u.use_.closure ≡ Some c → is_unit c.def.kind ≡ true → u.use_.form.align ≡ None
unit-unaligned u c nothing e unit =
    let of_type = nil-right (no_node u) (flat_map (λ c. many_parameters c ++ bad_form u.use_ c.def.kind) (option_to_list u.use_.closure)) nothing in
    let one = nil-in (λ c. many_parameters c ++ bad_form u.use_ c.def.kind) (option_to_list u.use_.closure) c of_type (subst (λ o. In (option_to_list o) c) (sym e) (inl refl)) in
    let form = when-nil (is_bad_form u.use_ c.def.kind) (at_ rules.E12 u.use_.name.place) (nil-right (many_parameters c) (bad_form u.use_ c.def.kind) one) in
    absent u.use_.form.align
    (none-there (not (is_field c.def.kind) && (is_some u.use_.form.range || is_some u.use_.form.reset)) (is_unit c.def.kind) (is_some u.use_.form.at) (is_some u.use_.form.stride) (is_some u.use_.form.align) (is_some u.use_.form.at && is_some u.use_.form.align)
    (is_some u.use_.form.stride && is_empty u.use_.dims) form unit)

judged-use : (us : List Seen) (b : Body) (u : Seen) → of_judged us b ≡ [] → In us u → of_use u ≡ []
judged-use us b u e h = nil-in of_use us u (nil-right (twice_defined b ++ of_enums b) (flat_map of_use us) e) h

unit-kind : (k : Kind) (n : Instance) → kind_of n ≡ k → has_address n ≡ false → is_unit k ≡ true
unit-kind kind.Field n e h = refl
unit-kind kind.Signal n e h = refl
unit-kind kind.Addrmap n e h = let two : true ≡ false = sym (address_by_kind n kind.Addrmap e) ∙ h in cc two
unit-kind kind.Regfile n e h = let two : true ≡ false = sym (address_by_kind n kind.Regfile e) ∙ h in cc two
unit-kind kind.Reg n e h = let two : true ≡ false = sym (address_by_kind n kind.Reg e) ∙ h in cc two

-- a unit given by a use of a body of which nothing fails
bare-unit : (us : List Seen) (b : Body) (u : Seen) (n : Instance) → of_judged us b ≡ [] → In us u → In (given_by u) n → has_address n ≡ false → no_alignment n ≡ []
bare-unit us b u n clean i h unplaced =
    let g = each-in (IsGivenBy u) (given_by u) n (given-all u) h in
    let none = unit-unaligned u n.closure (judged-use us b u clean i) g.closure_is (unit-kind (kind_of n) n refl unplaced) in
    unaligned n.use_ (ap (λ x. x.form.align) g.use_is ∙ none)

-- All nodes are judged.

taken-whole : (k : ℕ) (ns : List Instance) → first_over (drop k ns) ≡ [] → take k ns ≡ ns
taken-whole zero [] e = refl
taken-whole zero (n ∷ ns) e = cc e
taken-whole (suc k) [] e = refl
taken-whole (suc k) (n ∷ ns) e = ap (λ xs. n ∷ xs) (taken-whole k ns e)

no-failures : (e : Elab) → IsClean e → failures3 (Some (top_name e)) e.source.now ≡ []
no-failures e clean = none_fails (failures3 (Some (top_name e)) e.source.now) clean.elaborated.clean

node-clean : (e : Elab) → IsClean e → (n : Instance) → In (nodes_of e) n → of_node n ≡ []
node-clean e clean n h =
    let none = no-failures e clean in
    let all : judged_nodes (Some (top_name e)) e.source.now ≡ nodes_of e = taken-whole most_nodes (nodes_of e) (none_over (Some (top_name e)) e.source.now none) in
    each-in (λ m. of_node m ≡ []) (judged_nodes (Some (top_name e)) e.source.now) n (nodes_nil (Some (top_name e)) e.source.now none) (subst (λ ns. In ns n) (sym all) h)

-- The top has no alignment.

abbrev IsBare : Option Use → Type 0
IsBare None = Unit {0}
IsBare (Some u) = u.form.align ≡ None

top-bare : (wanted : Option (List ℕ)) (s : Source) (u : Use) (is : List (List Item × Item)) → Somewhere (λ i. top_at wanted s i ≡ Some u) is → IsBare (Some u)
top-bare wanted s u [] h = absurd h
top-bare wanted s u (i ∷ is) (inr h) = top-bare wanted s u is h
top-bare wanted s u (i ∷ is) (inl h) = go (component_of (item_is i.1)) h
  where
    scope : Scope
    scope = scope_at (root s) i.0

    chosen : (b : Bool) (d : Def) (n : Name) → IsBare (cond b (Some (top_use scope d n)) None)
    chosen true d n = refl
    chosen false d n = tt

    named : (d : Def) (o : Option Name) → IsBare (top_named wanted scope d o)
    named d None = tt
    named d (Some n) = chosen (is_addrmap d.kind && is_wanted wanted n) d n

    go : (o : Option Def) → option_and_then (λ d. top_named wanted scope d d.name) o ≡ Some u → IsBare (Some u)
    go None q = cc
    go (Some d) q = subst IsBare q (named d d.name)

found-bare : (wanted : Option (List ℕ)) (s : Source) (u : Use) → top_use_of wanted s ≡ Some u → IsBare (Some u)
found-bare None s u e = top-bare None s u (standing s.items.now) (unreversed (λ i. top_at None s i ≡ Some u) (standing s.items.now) (nearest_is (top_at None s) (reverse (standing s.items.now)) u e))
found-bare (Some w) s u e = top-bare (Some w) s u (standing s.items.now) (nearest_is (top_at (Some w) s) (standing s.items.now) u e)

top-unaligned : (wanted : Option (List ℕ)) (s : Source) (n : Instance) → In (top_of wanted s) n → no_alignment n ≡ []
top-unaligned wanted s n h = go (top_use_of wanted s) refl h
  where
    go : (o : Option Use) → top_use_of wanted s ≡ o → In (flat_map (λ u. given_by (top_seen u)) (option_to_list o)) n → no_alignment n ≡ []
    go None e i = absurd i
    go (Some u) e i = elim (in-either (given_by (top_seen u)) [] n i) [
      | inl p ↦
          let g = each-in (IsGivenBy (top_seen u)) (given_by (top_seen u)) n (given-all (top_seen u)) p in
          unaligned n.use_ (ap (λ x. x.form.align) g.use_is ∙ found-bare wanted s u e)
      | inr p ↦ absurd p
    ]

-- What has no parent.

orphan : (e : Elab) → IsClean e → (l : Lineage) → In (lineages_of e) l → l.ancestors ≡ [] → no_alignment l.node ≡ []
orphan e clean l h none = elim (at-top (Some (top_name e)) e.source.now l h none) [
  | inl p ↦
      let u = flat-in given_by (seen [] (root e.source.now)) l.node p in
      bare-unit (seen [] (root e.source.now)) (root e.source.now) u.0 l.node (root_nil (Some (top_name e)) e.source.now (no-failures e clean)) u.1 u.2 (signal-unplaced e.source.now l.node p)
  | inr p ↦ top-unaligned (Some (top_name e)) e.source.now l.node p
]

-- What has one.

-- the group of a use is that of its elements, whose first comes of the same use
first-of : (size access : Instance → ℕ) (us : List Seen) (u : Seen) (n : Instance) → In us u → In (given_by u) n → has_address n ≡ true
    → (g : Group) × In (grouped size access (map (λ s. filter has_address (given_by s)) us)) g × (n.use_ ≡ g.first.use_)
first-of size access us u n i h placed = by (filter has_address (given_by u)) refl (in-kept has_address (given_by u) n h placed)
  where
    comes : (m : Instance) → In (given_by u) m → m.use_ ≡ u.use_
    comes m q = (each-in (IsGivenBy u) (given_by u) m (given-all u) q).use_is

    by : (ns : List Instance) → filter has_address (given_by u) ≡ ns → In ns n → (g : Group) × In (grouped size access (map (λ s. filter has_address (given_by s)) us)) g × (n.use_ ≡ g.first.use_)
    by [] e q = absurd q
    by (m ∷ ms) e q =
        let among = in-map (λ s. filter has_address (given_by s)) us u i in
        let from : In (given_by u) m = kept-in has_address (given_by u) m (subst (λ xs. In xs m) (sym e) (inl refl)) in
        let g : Group = record { first = m; others = ms; size = greatest (map size (m ∷ ms)); access = greatest (map access (m ∷ ms)) } in (
          g,
          in-flat (group size access) (map (λ s. filter has_address (given_by s)) us) (filter has_address (given_by u)) g among (subst (λ xs. In (group size access xs) g) (sym e) (inl refl)),
          comes n h ∙ sym (comes m from),
        )

-- it fails at the first element of a group
abbrev pub IsInGroup : Elab → Fault → Type 0
IsInGroup e f = (l : Lineage) × In (lineages_of e) l × ((g : Group) × In (groups_at l) g × In (no_alignment g.first) f)

in-body : (e : Elab) → IsClean e → (n : Instance) (f : Fault) → In (no_alignment n) f → (a : Instance) (up : List Instance) (u : Seen) → In (lineages_of e) (record { node = a; ancestors = up }) → In (nodes_of e) a → In (seen_in a) u → In (given_by u) n → (b : Bool) → has_address n ≡ b → IsInGroup e f
unfolding groups_at
in-body e clean n f fails a up u here among i g true placed =
    let all = levels (a ∷ up) in
    let mode = mode_in (mode_under up) a in
    let r = first-of (size_of all mode) (access_of all) (seen_in a) u n i g placed in
    (record { node = a; ancestors = up }, here, (r.0, r.1, subst (λ x. In (align_faults x) f) r.2 fails))
in-body e clean n f fails a up u here among i g false unplaced = absurd (subst (λ xs. In xs f) (bare-unit (seen_in a) (body a) u n (node-clean e clean a among) i g unplaced) fails)

pub unaligned-in : (e : Elab) → IsClean e → (n : Instance) → In (nodes_of e) n → (f : Fault) → In (no_alignment n) f → IsInGroup e f
unaligned-in e clean n h f fails =
    let k = in-place (nodes_of e) n h in
    let l = lineage-at e k.0 n k.2 in
    by l.0 l.1 l.2 l.0.ancestors refl
  where
    by : (l : Lineage) → slice_get (lineages_of e) (in-place (nodes_of e) n h).0 ≡ Some l → l.node ≡ n → (up : List Instance) → l.ancestors ≡ up → IsInGroup e f
    by l at same [] none = absurd (subst (λ xs. In xs f) (orphan e clean l (place-in (lineages_of e) _ l at) none) (subst (λ m. In (no_alignment m) f) (sym same) fails))
    by l at same (a ∷ up) is =
        let b = behind (Some (top_name e)) e.source.now (in-place (nodes_of e) n h).0 l a up at is in
        let here = place-in (lineages_of e) b.0 (record { node = a; ancestors = up }) b.2 in
        let u = flat-in given_by (seen_in a) n (subst (In (children a)) same b.3) in
        in-body e clean n f fails a up u.0 here (among a up b.0 b.2) u.1 u.2 (has_address n) refl
      where
        among : (a : Instance) (up : List Instance) (i : ℕ) → slice_get (lineages_of e) i ≡ Some (record { node = a; ancestors = up }) → In (nodes_of e) a
        among a up i q = place-in (nodes_of e) i a (node-at e i (record { node = a; ancestors = up }) q)
