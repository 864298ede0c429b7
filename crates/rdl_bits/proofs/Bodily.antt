-- The failures of strides and alignments.
use Rattle.std.proofs.Common.{◌↔◌, ◌⊎◌, inl, inr, List, ◌∷◌, ◌++◌, flat_map, Contains, Some, sym, subst}
use Rattle.rdl_base.specs.declared.fault.Fault.{Fault}
use Rattle.rdl_tree.specs.declared.node.Elab.{Elab}
use Rattle.rdl_values.specs.Elaborated.{nodes_of, top_name}
use Rattle.rdl_values.specs.Elaboration.{IsClean}
use Rattle.rdl_values.specs.Lineages.{Lineage, child_of, lineages_of}
use Rattle.rdl_nodes.proofs.Lineages.{all_nodes}
use Rattle.rdl_nodes.proofs.Members.{In, flat-in, in-either, in-flat, in-from, in-left, in-map, in-right, in-to, map-in}
use Rattle.rdl_addr.specs.Layout.{Group}
use Rattle.rdl_addr.specs.Rules.{all_groups, no_alignment, small_stride}
use Rattle.rdl_sizes.specs.declared.known.Sizes.{Sizes}
use Rattle.rdl_sizes.specs.Levels.{groups_at, mode_under}
use Rattle.rdl_sizes.specs.Sized.{AreSizes, body_faults}
use Rattle.rdl_bits.specs.Judged.{failures_of_bodies}
use Rattle.rdl_bits.proofs.Aligned.{unaligned-in}
use Rattle.rdl_bits.proofs.Descending.{listed-down}
use Rattle.rdl_bits.proofs.Grouping.{first-in, moded, of-bodies, of-groups}

module _ (e : Elab) (clean : IsClean e) (f : Fault) where
  abbrev Judged : Type 0
  Judged = (l : Lineage) × In (lineages_of e) l × In (body_faults l) f

  -- what fails of a body, group by group
  opened : (l : Lineage) → In (body_faults l) f → (g : Group) × In (groups_at l) g × (In (small_stride (mode_under (l.node ∷ l.ancestors), g)) f ⊎ In (no_alignment g.first) f)
  unfolding body_faults
  opened l h =
      let g = flat-in (λ g. small_stride (mode_under (l.node ∷ l.ancestors), g) ++ no_alignment g.first) (groups_at l) f h in
      (g.0, g.1, in-either (small_stride (mode_under (l.node ∷ l.ancestors), g.0)) (no_alignment g.0.first) f g.2)

  closed : (l : Lineage) (g : Group) → In (groups_at l) g → In (small_stride (mode_under (l.node ∷ l.ancestors), g) ++ no_alignment g.first) f → In (body_faults l) f
  unfolding body_faults
  closed l g i h = in-flat (λ g. small_stride (mode_under (l.node ∷ l.ancestors), g) ++ no_alignment g.first) (groups_at l) g f i h

  abbrev strides : List Fault
  strides = flat_map small_stride (all_groups (Some (top_name e)) e.source.now)

  abbrev alignments : List Fault
  alignments = flat_map no_alignment (nodes_of e)

  node-among : (l : Lineage) → In (lineages_of e) l → In (nodes_of e) l.node
  node-among l h = subst (λ ns. In ns l.node) (all_nodes (Some (top_name e)) e.source.now) (in-map (λ n. n.node) (lineages_of e) l h)

  to : (l : Lineage) → In (lineages_of e) l → In (body_faults l) f → In (strides ++ alignments) f
  to l h q = by (opened l q)
    where
      by : (g : Group) × In (groups_at l) g × (In (small_stride (mode_under (l.node ∷ l.ancestors), g)) f ⊎ In (no_alignment g.first) f) → In (strides ++ alignments) f
      by (g, i, inl s) =
          let x : In (moded l) (mode_under (l.node ∷ l.ancestors), g) = in-map (λ g. (mode_under (l.node ∷ l.ancestors), g)) (groups_at l) g i in
          let all = of-groups (Some (top_name e)) e.source.now (mode_under (l.node ∷ l.ancestors), g) (l, h, x) in
          in-left strides alignments f (in-flat small_stride (all_groups (Some (top_name e)) e.source.now) (mode_under (l.node ∷ l.ancestors), g) f all s)
      by (g, i, inr s) =
          let child = listed-down (Some (top_name e)) e.source.now l h g.first (first-in l g i) in
          in-right strides alignments f (in-flat no_alignment (nodes_of e) g.first f (node-among (child_of l g.first) child) s)

  from : In (strides ++ alignments) f → Judged
  from h = elim (in-either strides alignments f h) [
    | inl p ↦
        let x = flat-in small_stride (all_groups (Some (top_name e)) e.source.now) f p in
        let l = of-bodies (Some (top_name e)) e.source.now x.0 x.1 in
        let g = map-in (λ g. (mode_under (l.0.node ∷ l.0.ancestors), g)) (groups_at l.0) x.0 l.2 in
        (l.0, l.1, closed l.0 g.0 g.1 (in-left (small_stride (mode_under (l.0.node ∷ l.0.ancestors), g.0)) (no_alignment g.0.first) f (subst (λ y. In (small_stride y) f) (sym g.2) x.2)))
    | inr p ↦
        let n = flat-in no_alignment (nodes_of e) f p in
        let l = unaligned-in e clean n.0 n.1 f n.2 in
        (l.0, l.1, closed l.0 l.2.0 l.2.1 (in-right (small_stride (mode_under (l.0.node ∷ l.0.ancestors), l.2.0)) (no_alignment l.2.0.first) f l.2.2))
  ]

  pub same-judged : Contains (flat_map body_faults (lineages_of e)) f ↔ Contains (failures_of_bodies e) f
  unfolding failures_of_bodies
  same-judged = (
    (λ h. let l = flat-in body_faults (lineages_of e) f (in-from (flat_map body_faults (lineages_of e)) f h) in in-to (strides ++ alignments) f (to l.0 l.1 l.2)),
    (λ h. let l = from (in-from (strides ++ alignments) f h) in in-to (flat_map body_faults (lineages_of e)) f (in-flat body_faults (lineages_of e) l.0 f l.1 l.2)),
  )

pub bodies-judged : (e : Elab) (s : Sizes) → IsClean e → AreSizes e s → (f : Fault) → Contains s.faults.items f ↔ Contains (failures_of_bodies e) f
bodies-judged e s clean sizes f =
    let own = sizes.failures f in
    let all = same-judged e clean f in
    ((λ h. all.0 (own.0 h)), (λ h. own.1 (all.1 h)))
