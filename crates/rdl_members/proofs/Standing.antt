-- The rows of the nodes in a body.
use Rattle.std.proofs.Common.{◌≡◌, ◌∙◌, ℕ, zero, suc, ◌+◌, ◌≤◌, ◌<◌, ◌⊎◌, inl, inr, true, false, ◌&&◌, List, [], ◌∷◌, filter, length, Option, None, Some, option_map, slice_get, refl, sym, ap, subst, arith}
use Rattle.plain_lemmas.proofs.Lists.{bytes_eq-itself as same-bytes-itself, get-beyond as none-beyond}
use Rattle.rdl_tree.specs.declared.item.Kind.{Kind}
use Rattle.rdl_tree.specs.declared.item.Kind.TheVariants as kind
use Rattle.rdl_tree.specs.declared.node.Elab.{Elab}
use Rattle.rdl_tree.specs.declared.node.Node.{out-Node}
use Rattle.rdl_values.specs.Bodies.{Path, Step, below_top, of_signal}
use Rattle.rdl_values.specs.Elaborated.{nodes_of, top_name}
use Rattle.rdl_values.specs.Elaboration.{IsClean}
use Rattle.rdl_values.specs.Instances.{Instance, children, kind_of, signals}
use Rattle.rdl_values.specs.Lineages.{Lineage, child_of, children_in, lineages_of}
use Rattle.rdl_values.specs.NoNode.{is_signal}
use Rattle.rdl_values.specs.Paths.{path_in}
use Rattle.rdl_values.proofs.Given.{IsAtRoot, signals-given}
use Rattle.rdl_values.proofs.Numbered.{At}
use Rattle.rdl_layers.specs.Assignments.{same_path, same_steps}
use Rattle.rdl_nodes.proofs.Paths.{IsChild, are_children, paths_differ}
use Rattle.rdl_nodes.specs.declared.table.Row.{Row}
use Rattle.rdl_nodes.specs.Rows.{AreRows, IsParent, IsRow}
use Rattle.rdl_addr.proofs.Covers.{address_by_kind}
use Rattle.rdl_nodes.proofs.Members.{In, each-in, flat-in, get-read, get-within, in-flat, in-map, in-place, map-in, place-in}
use Rattle.rdl_nodes.proofs.Order.{behind, once, shallow-at, stands-under}
use Rattle.rdl_refs.specs.Leads.{is_at_root, members_of}
use Rattle.rdl_refs.proofs.OneTarget.{is_same_path}
use Rattle.rdl_bits.proofs.Filtered.{in-kept, kept-in, kept-passes}
use Rattle.rdl_sizes.proofs.Facts.{count-is, node-at, row-at, rows-many}
use Rattle.rdl_bits.proofs.Descending.{at-top, listed-down, top-placed}
use Rattle.rdl_members.specs.Found.{members_at}
use Rattle.rdl_members.specs.Listed.{body_by, body_in}

same-steps-itself : (ss : List Step) → same_steps ss ss ≡ true
same-steps-itself [] = refl
same-steps-itself (s ∷ ss) = (λ i. (same-bytes-itself s.name i && same-bytes-itself s.index i) && same-steps-itself ss i)

pub same-path-itself : (p : Path) → same_path p p ≡ true
same-path-itself (of_signal s) = same-steps-itself (s ∷ [])
same-path-itself (below_top ss) = same-steps-itself ss

module _ (e : Elab) where
  abbrev all : List Lineage
  all = lineages_of e

  -- a path is that of one node
  pub one-by-path : (i j : ℕ) (l m : Lineage) → slice_get (lineages_of e) i ≡ Some l → slice_get (lineages_of e) j ≡ Some m → l.node.path ≡ m.node.path → l ≡ m
  one-by-path i j l m at_i at_j same = by (split i j)
    where
      not-before : (a b : ℕ) (x y : Lineage) → slice_get (lineages_of e) a ≡ Some x → slice_get (lineages_of e) b ≡ Some y → x.node.path ≡ y.node.path → a < b → ⊥
      not-before a b x y p q path less =
          let ns = nodes_of e in
          let at_a = node-at e a x p in
          let at_b = node-at e b y q in
          let differ = paths_differ (Some (top_name e)) e.source.now a b y.node less (get-within ns b y.node at_b) in
          differ (ap (λ n. n.path) (get-read ns a y.node x.node at_a) ∙ (path ∙ sym (ap (λ n. n.path) (get-read ns b y.node y.node at_b))))

      split : (a b : ℕ) → (a < b) ⊎ (b < a) ⊎ (a ≡ b)
      split a b = grind arith

      by : (i < j) ⊎ (j < i) ⊎ (i ≡ j) → l ≡ m
      by (inl less) = absurd (not-before i j l m at_i at_j same less)
      by (inr (inl more)) = absurd (not-before j i m l at_j at_i (sym same) more)
      by (inr (inr q)) = let one : Some l ≡ Some m = sym at_i ∙ (ap (slice_get (lineages_of e)) q ∙ at_j) in cc one

  -- the nodes in the body of a node
  module _ (b : ℕ) (q : Lineage) (here : slice_get (lineages_of e) b ≡ Some q) where
    path-here : option_map (λ y. y.node.path) (slice_get (lineages_of e) b) ≡ Some q.node.path
    path-here = ap (option_map (λ y. y.node.path)) here

    pub in-body : (m : Lineage) → In (members_at (lineages_of e) b) m → In (children q.node) m.node × (m ≡ child_of q m.node)
    in-body m h =
        let x = flat-in children_in (filter (λ n. same_path n.node.path q.node.path) all) m (subst (λ o. In (members_of all o) m) path-here h) in
        let among = kept-in (λ n. same_path n.node.path q.node.path) all x.0 x.1 in
        let passes = kept-passes (λ n. same_path n.node.path q.node.path) all x.0 x.1 in
        let j = in-place all x.0 among in
        let same = one-by-path j.0 b x.0 q j.2 here (is_same_path x.0.node.path q.node.path passes) in
        let c = map-in (child_of q) (children q.node) m (subst (λ y. In (children_in y) m) same x.2) in
        let node : c.0 ≡ m.node = ap (λ y. y.node) c.2 in
        (subst (In (children q.node)) node c.1, sym c.2 ∙ ap (child_of q) node)

    pub body-in : (c : Instance) → In (children q.node) c → In (members_at (lineages_of e) b) (child_of q c)
    body-in c i =
        subst (λ o. In (members_of all o) (child_of q c)) (sym path-here)
        (in-flat children_in (filter (λ n. same_path n.node.path q.node.path) all) q (child_of q c) (in-kept (λ n. same_path n.node.path q.node.path) all q (place-in all b q here) (same-path-itself q.node.path)) (in-map (child_of q) (children q.node) c i))

  -- those in the body of the root
  pub root-body : (b : ℕ) → length (lineages_of e) ≤ b → members_at (lineages_of e) b ≡ filter (λ n. is_at_root n.node.path) (lineages_of e)
  root-body b beyond = ap (λ o. members_of all (option_map (λ y. y.node.path) o)) (none-beyond all b beyond)

  at-root-alone : (j : ℕ) (m : Lineage) → slice_get (lineages_of e) j ≡ Some m → is_at_root m.node.path ≡ true → (m.ancestors ≡ []) × (kind_of m.node ≡ kind.Signal)
  at-root-alone j m here rooted = (alone m.ancestors refl, signal (kind_of m.node) (by-path m.node.path refl deep.2))
    where
      deep : (d : ℕ) × (length m.ancestors + d ≡ 31) × At m.node.path d m.node
      deep = let h = shallow-at (Some (top_name e)) e.source.now j m here in (h.0, h.1, h.2)

      by-path : (p : Path) → m.node.path ≡ p → At p deep.0 m.node → is_signal (kind_of m.node) ≡ true
      by-path (of_signal t) q d = d
      by-path (below_top ss) q d = let two : true ≡ false = sym rooted ∙ ap is_at_root q in cc two

      signal : (k : Kind) → is_signal k ≡ true → k ≡ kind.Signal
      signal kind.Signal h = refl
      signal _ h = cc h

      alone : (up : List Instance) → m.ancestors ≡ up → m.ancestors ≡ []
      alone [] q = q
      alone (a ∷ up) q =
          let b = behind (Some (top_name e)) e.source.now j m a up here q in
          absurd (elim (stands-under (record { node = a; ancestors = up }) (shallow-at (Some (top_name e)) e.source.now b.0 (record { node = a; ancestors = up }) b.2)) [
            | inl under ↦
                let child = each-in (IsChild under.0) (children a) m.node (are_children a under.0 under.1) b.3 in
                let two : true ≡ false = sym rooted ∙ ap is_at_root child.1 in
                cc two
            | inr none ↦ subst (λ cs. In cs m.node) none b.3
          ])

  signal-rooted : (j : ℕ) (l : Lineage) → slice_get (lineages_of e) j ≡ Some l → l.ancestors ≡ [] → kind_of l.node ≡ kind.Signal → is_at_root l.node.path ≡ true
  signal-rooted j l here none signal = elim (at-top (Some (top_name e)) e.source.now l (place-in (lineages_of e) j l here) none) [
    | inl p ↦
        let h = each-in IsAtRoot (signals e.source.now) l.node (signals-given e.source.now) p in
        ap is_at_root (h.given_.path_is ∙ ap (λ q. path_in q (record { name = h.by.use_.name.text.now; index = h.given_.index })) h.in_body)
    | inr p ↦
        let placed = top-placed (Some (top_name e)) e.source.now l.node p in
        let two : true ≡ false = sym placed ∙ address_by_kind l.node kind.Signal signal in
        cc two
  ]

  module _ (clean : IsClean e) (rows : List Row) (are : AreRows e rows) where
    -- a row's node is in its body
    pub row-body : (i : ℕ) (x : Row) → slice_get rows i ≡ Some x → (l : Lineage) → slice_get (lineages_of e) i ≡ Some l → (b : ℕ) → body_in e.count x ≡ Some b → In (members_at (lineages_of e) b) l
    row-body i x here l at b body = by x.parent refl parent
      where
        found : (m : Lineage) × (slice_get (lineages_of e) i ≡ Some m) × IsRow e (lineages_of e) i x m
        found = row-at e rows are i x here

        same : found.0 ≡ l
        same = let one : Some found.0 ≡ Some l = sym found.1 ∙ at in cc one

        parent : IsParent (lineages_of e) x.parent l.ancestors
        parent = subst (λ y. IsParent (lineages_of e) x.parent y.ancestors) same found.2.parent

        of-kind : (out-Node x.node.now).kind ≡ kind_of l.node
        of-kind = found.2.says.kind ∙ ap (λ y. kind_of y.node) same

        rooted : (k : Kind) → (out-Node x.node.now).kind ≡ k → l.ancestors ≡ [] → body_by e.count None k ≡ Some b → In (members_at (lineages_of e) b) l
        rooted kind.Signal q none is =
            let at_root = signal-rooted i l at none (sym of-kind ∙ q) in
            let is_count : e.count ≡ b = cc is in
            let many = count-is e clean in
            subst (λ xs. In xs l) (sym (root-body b (omega (arith, is_count, many)))) (in-kept (λ n. is_at_root n.node.path) all l (place-in all i l at) at_root)
        rooted kind.Addrmap q none is = cc is
        rooted kind.Regfile q none is = cc is
        rooted kind.Reg q none is = cc is
        rooted kind.Field q none is = cc is

        by : (o : Option ℕ) → x.parent ≡ o → IsParent (lineages_of e) o l.ancestors → In (members_at (lineages_of e) b) l
        by None q h = rooted (out-Node x.node.now).kind refl h (sym (ap (λ o. body_by e.count o (out-Node x.node.now).kind) q) ∙ body)
        by (Some p) q h =
            let is_p : Some p ≡ Some b = sym (ap (λ o. body_by e.count o (out-Node x.node.now).kind) q) ∙ body in
            let number : p ≡ b = cc is_p in
            let at_b : slice_get (lineages_of e) b ≡ Some h.0 = ap (slice_get (lineages_of e)) (sym number) ∙ h.1 in
            let inside = (behind (Some (top_name e)) e.source.now i l h.0.node h.0.ancestors at h.2).3 in
            let whole : child_of h.0 l.node ≡ l = (λ t. record { node = l.node; ancestors = sym h.2 t }) in
            subst (In (members_at (lineages_of e) b)) whole (body-in b h.0 at_b l.node inside)

    -- a node in a body has a row of that body
    pub body-row : (b : ℕ) → b ≤ e.count → (m : Lineage) → In (members_at (lineages_of e) b) m → (j : ℕ) × (x : Row) × (slice_get rows j ≡ Some x) × (slice_get (lineages_of e) j ≡ Some m) × (body_in e.count x ≡ Some b)
    body-row b low m h = by (slice_get (lineages_of e) b) refl
      where
        long : length rows ≡ length (lineages_of e)
        long = rows-many e rows are

        row-of : (j : ℕ) → slice_get (lineages_of e) j ≡ Some m → (x : Row) × (slice_get rows j ≡ Some x)
        row-of j at = have rows j (let l = get-within (lineages_of e) j m at in let n = long in omega (arith, l, n))
          where
            have : (xs : List Row) (j : ℕ) → j < length xs → (x : Row) × (slice_get xs j ≡ Some x)
            have [] j l = absurd (omega (arith, l))
            have (x ∷ xs) zero l = (x, refl)
            have (x ∷ xs) (suc j) l = have xs j (omega (arith, l))

        with-parent : (q : Lineage) → slice_get (lineages_of e) b ≡ Some q → (j : ℕ) → slice_get (lineages_of e) j ≡ Some m → m ≡ child_of q m.node → (x : Row) → slice_get rows j ≡ Some x → body_in e.count x ≡ Some b
        with-parent q at_b j at whole x here = go x.parent refl parent
          where
            found : (n : Lineage) × (slice_get (lineages_of e) j ≡ Some n) × IsRow e (lineages_of e) j x n
            found = row-at e rows are j x here

            parent : IsParent (lineages_of e) x.parent m.ancestors
            parent = let one : Some found.0 ≡ Some m = sym found.1 ∙ at in let same : found.0 ≡ m = cc one in subst (λ y. IsParent (lineages_of e) x.parent y.ancestors) same found.2.parent

            up : m.ancestors ≡ q.node ∷ q.ancestors
            up = ap (λ y. y.ancestors) whole

            go : (o : Option ℕ) → x.parent ≡ o → IsParent (lineages_of e) o m.ancestors → body_in e.count x ≡ Some b
            go None r none = let two : [] ≡ q.node ∷ q.ancestors = sym none ∙ up in cc two
            go (Some p) r is =
                let both : is.0.node ∷ is.0.ancestors ≡ q.node ∷ q.ancestors = sym is.2 ∙ up in
                let node : is.0.node ≡ q.node = cc both in
                let above : is.0.ancestors ≡ q.ancestors = cc both in
                let same : is.0 ≡ q = (λ t. record { node = node t; ancestors = above t }) in
                let number = once (Some (top_name e)) e.source.now p b q (is.1 ∙ ap Some same) at_b in
                ap (λ o. body_by e.count o (out-Node x.node.now).kind) r ∙ ap Some number

        without : (j : ℕ) → slice_get (lineages_of e) j ≡ Some m → is_at_root m.node.path ≡ true → b ≡ e.count → (x : Row) → slice_get rows j ≡ Some x → body_in e.count x ≡ Some b
        without j at rooted is_count x here = go x.parent refl parent
          where
            found : (n : Lineage) × (slice_get (lineages_of e) j ≡ Some n) × IsRow e (lineages_of e) j x n
            found = row-at e rows are j x here

            same : found.0 ≡ m
            same = let one : Some found.0 ≡ Some m = sym found.1 ∙ at in cc one

            parent : IsParent (lineages_of e) x.parent m.ancestors
            parent = subst (λ y. IsParent (lineages_of e) x.parent y.ancestors) same found.2.parent

            alone : (m.ancestors ≡ []) × (kind_of m.node ≡ kind.Signal)
            alone = at-root-alone j m at rooted

            signal : (out-Node x.node.now).kind ≡ kind.Signal
            signal = found.2.says.kind ∙ (ap (λ y. kind_of y.node) same ∙ alone.1)

            go : (o : Option ℕ) → x.parent ≡ o → IsParent (lineages_of e) o m.ancestors → body_in e.count x ≡ Some b
            go None r none = (λ t. body_by e.count (r t) (signal t)) ∙ ap Some (sym is_count)
            go (Some p) r is = let two : [] ≡ is.0.node ∷ is.0.ancestors = sym alone.0 ∙ is.2 in cc two

        by : (o : Option Lineage) → slice_get (lineages_of e) b ≡ o → (j : ℕ) × (x : Row) × (slice_get rows j ≡ Some x) × (slice_get (lineages_of e) j ≡ Some m) × (body_in e.count x ≡ Some b)
        by (Some q) at_b =
            let i = in-body b q at_b m h in
            let listed = listed-down (Some (top_name e)) e.source.now q (place-in (lineages_of e) b q at_b) m.node i.0 in
            let j = in-place (lineages_of e) (child_of q m.node) listed in
            let at : slice_get (lineages_of e) j.0 ≡ Some m = j.2 ∙ ap Some (sym i.1) in
            let x = row-of j.0 at in
            (j.0, x.0, x.1, at, with-parent q at_b j.0 at i.1 x.0 x.1)
        by None none =
            let beyond : length (lineages_of e) ≤ b = not-within (lineages_of e) b none in
            let among = subst (λ xs. In xs m) (root-body b beyond) h in
            let j = in-place (lineages_of e) m (kept-in (λ n. is_at_root n.node.path) (lineages_of e) m among) in
            let rooted = kept-passes (λ n. is_at_root n.node.path) (lineages_of e) m among in
            let x = row-of j.0 j.2 in
            let many = count-is e clean in
            (j.0, x.0, x.1, j.2, without j.0 j.2 rooted (omega (arith, beyond, low, many)) x.0 x.1)
          where
            not-within : {X : Type 0} (xs : List X) (k : ℕ) → slice_get xs k ≡ None → length xs ≤ k
            not-within [] k q = omega arith
            not-within (y ∷ ys) zero q = cc q
            not-within (y ∷ ys) (suc k) q = let l = not-within ys k q in omega (arith, l)
