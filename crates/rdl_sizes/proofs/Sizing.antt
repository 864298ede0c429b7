-- The size of a row more, from the last one on.
use Rattle.std.specs.List.{All}
use Rattle.std.proofs.Common.{◌≡◌, ◌∙◌, ◌↔◌, ℕ, zero, suc, ◌+◌, ◌/◌, ◌<◌, ◌≤◌, ◌⊎◌, inl, inr, max, Bool, true, false, cond, List, [], ◌∷◌, ◌++◌, length, map, flat_map, filter, take, drop, set, get_or, slice_get, Contains, Some, refl, sym, ap, subst, arith}
use Rattle.std.proofs.lemmas.List.{get_or-set_same, get_or-set_other, length-set}
use denote.Enum.Bare.{same_true}
use Rattle.plain_lemmas.proofs.Lists.{length-map}
use Rattle.rdl_base.specs.declared.fault.Fault.{Fault}
use Rattle.rdl_tree.specs.contracts.item.Kind as of_kind
use Rattle.rdl_tree.specs.declared.item.Kind.TheVariants as kind
use Rattle.rdl_tree.specs.declared.node.Elab.{Elab}
use Rattle.rdl_tree.specs.declared.node.Node.{Node, out-Node}
use Rattle.rdl_props.specs.declared.prop.Prop.TheVariants as prop
use Rattle.rdl_values.specs.Elaborated.{nodes_of, top_name}
use Rattle.rdl_values.specs.Elaboration.{IsClean}
use Rattle.rdl_values.specs.Instances.{Instance, children, kind_of, seen_in}
use Rattle.rdl_values.specs.Lineages.{Lineage, child_of, lineages_of}
use Rattle.rdl_layers.specs.Answers.{IsSettled}
use Rattle.rdl_layers.specs.Fields.{is_a}
use Rattle.rdl_layers.specs.Phase4.{number_at}
use Rattle.rdl_layout.specs.declared.part.Mode.{Mode}
use Rattle.rdl_layout.specs.Parts as parts
use Rattle.rdl_nodes.specs.declared.table.Row.{Row}
use Rattle.rdl_nodes.specs.Rows.{AreInside, IsRow}
use Rattle.rdl_addr.specs.Layout.{access_of, greatest, greatest_end, groups, has_address, mode_in, offsets, size_of}
use Rattle.rdl_addr.specs.Parts.{ArePartsOf, mode_of}
use Rattle.rdl_addr.proofs.Covers.{offsets_of}
use Rattle.rdl_addr.proofs.Grouped.{greatest-ends}
use Rattle.rdl_nodes.proofs.Members.{In, get-made, get-within, in-either, in-from, in-left, in-place, in-right, in-to, place-in}
use Rattle.rdl_nodes.proofs.Order.{behind, few, once}
use Rattle.rdl_sizes.specs.declared.known.Measure.{Measure}
use Rattle.rdl_sizes.specs.declared.known.Sizes.{Sizes}
use Rattle.rdl_sizes.specs.declared.lot.Lot.{Lot}
use Rattle.rdl_sizes.specs.Bodies.{IsBodyOf, addressed}
use Rattle.rdl_sizes.specs.Elements.{element_starts}
use Rattle.rdl_sizes.specs.Levels.{access_at, groups_at, levels, mode_under, size_at}
use Rattle.rdl_sizes.specs.Lots.{AreLotsOf, greatest_access, lot_faults, parts_in}
use Rattle.rdl_sizes.specs.Measuring.{measured}
use Rattle.rdl_sizes.specs.Sized.{AreSizesFrom, IsMeasure, IsOffset, body_faults, measure_at, offset_at}
use Rattle.rdl_sizes.proofs.Facts.{node-at}
use Rattle.rdl_sizes.proofs.Gathered.{placed-by-kind}
use Rattle.rdl_sizes.proofs.Offsets.{same-counts}
use Rattle.rdl_sizes.proofs.Settled.{reg-accesswidth}
use Rattle.rdl_sizes.proofs.Sums.{all-groups, group_faults, parts-are, same-faults, starts-are, widths-are}
use Rattle.rdl_sizes.proofs.Turns.{AreKnown, as-many, drop-at, inside-at}

-- the numbers of the nodes in a body are among all
pub all-within : (all : List Lineage) (up : List Instance) (beside rs : List Node) (ns : List Instance) → AreInside all up beside rs ns → (n : ℕ) → length all ≡ n → All (λ r. (out-Node r).id < n) rs
all-within all up beside [] [] h n e k d l = absurd (omega (arith, l))
all-within all up beside [] (m ∷ ms) h n e k d l = absurd h
all-within all up beside (r ∷ rs) [] h n e k d l = absurd h
all-within all up beside (r ∷ rs) (m ∷ ms) h n e zero d l = let low = get-within all (out-Node r).id (record { node = m; ancestors = up }) h.0.here in omega (arith, low, e)
all-within all up beside (r ∷ rs) (m ∷ ms) h n e (suc k) d l = all-within all up beside rs ms h.1 n e k d (omega (arith, l))

no-later : (k i : ℕ) → k ≡ i → k + 1 ≤ i → ⊥
no-later k i s from = omega (arith, s, from)

levels-down : (n : Instance) (up : List Instance) → length up < 32 → levels up ≡ suc (levels (n ∷ up))
unfolding levels
levels-down n up l = omega (arith, l)

whole-take : (xs : List Node) → take (length xs) xs ≡ xs
whole-take [] = refl
whole-take (x ∷ xs) = ap (λ ys. x ∷ ys) (whole-take xs)

whole-take' : (xs : List Instance) → take (length xs) xs ≡ xs
whole-take' [] = refl
whole-take' (x ∷ xs) = ap (λ ys. x ∷ ys) (whole-take' xs)

-- a node has an address
abbrev pub has_kind : Node → Bool
has_kind r = addressed (out-Node r).kind

-- what a body is laid out as
pub record IsLaid (mode : Mode) (lots : List Lot) (end access : ℕ) (starts : List ℕ) : Type 0 where
  pub end_ : end ≡ parts.greatest_end mode 0 (parts_in lots)
  pub access_ : access ≡ max 1 (greatest_access lots)
  pub starts_ : starts ≡ element_starts mode (parts_in lots) (parts.starts mode 0 (parts_in lots))

module _ (e : Elab) (clean : IsClean e) (settled : IsSettled e) (x : Row) (l : Lineage) (here : slice_get (lineages_of e) (out-Node x.node.now).id ≡ Some l) (row : IsRow e (lineages_of e) (out-Node x.node.now).id x l) (mode : Mode)
    (modes : mode_of mode ≡ mode_under (l.node ∷ l.ancestors)) (old : Sizes) (later : AreSizesFrom e ((out-Node x.node.now).id + 1) old) where
  abbrev k : ℕ
  k = (out-Node x.node.now).id

  abbrev rs : List Node
  rs = (out-Node x.node.now).children.now

  abbrev all : List Lineage
  all = lineages_of e

  pub body : IsBodyOf e x.node.now l
  body = record { number = (out-Node x.node.now).id; here = here; inside = row.inside }

  pub within : (n : ℕ) → n ≡ length (lineages_of e) → All (λ r. (out-Node r).id < n) (out-Node x.node.now).children.now
  within n q = all-within (lineages_of e) (l.node ∷ l.ancestors) rs rs (children l.node) row.inside n (sym q)

  pub low : (out-Node x.node.now).id < length (lineages_of e)
  low = get-within (lineages_of e) k l here

  -- what stands in the body comes later, and is known
  after : (j : ℕ) (c : Instance) → slice_get all j ≡ Some (child_of l c) → k < j
  after j c at =
      let b = behind (Some (top_name e)) e.source.now j (child_of l c) l.node l.ancestors at refl in
      let same : b.0 ≡ k = once (Some (top_name e)) e.source.now b.0 k l b.2 here in
      let less = b.1 in
      omega (arith, less, same)

  pub known : AreKnown e l old.measures.items
  known j c at placed = later.sizes j (child_of l c) (let less = after j c at in omega (arith, less)) at placed

  module _ (lots : List Lot) (are : AreLotsOf lots (groups_at l)) (end access : ℕ) (starts : List ℕ) (laid : IsLaid mode lots end access starts) where
    abbrev parted : ArePartsOf (parts_in lots) (groups_at l)
    parted = parts-are lots (groups_at l) are

    end-is : end ≡ greatest_end (mode_under (l.node ∷ l.ancestors)) (groups_at l)
    end-is = laid.end_ ∙ (greatest-ends mode 0 (parts_in lots) (groups_at l) (parts-are lots (groups_at l) are) ∙ ap (λ m. greatest_end m (groups_at l)) modes)

    starts-is : starts ≡ map (λ c. c.1) (offsets (mode_under (l.node ∷ l.ancestors)) (groups_at l))
    starts-is = laid.starts_ ∙ (starts-are mode 0 (parts_in lots) (groups_at l) (parts-are lots (groups_at l) are) ∙ ap (λ m. map (λ c. c.1) (offsets m (groups_at l))) modes)

    nodes-are : map (λ c. c.0) (offsets (mode_under (l.node ∷ l.ancestors)) (groups_at l)) ≡ filter has_address (children l.node)
    unfolding groups_at mode_under
    nodes-are = offsets_of (levels (l.node ∷ l.ancestors)) (mode_under l.ancestors) l.node

    access-is : access ≡ max 1 (greatest (map (access_of (levels (l.node ∷ l.ancestors))) (filter has_address (children l.node))))
    unfolding groups_at
    access-is =
        laid.access_
        ∙ ap (max 1) (widths-are lots (groups_at l) are ∙ all-groups (size_of (levels (l.node ∷ l.ancestors)) (mode_in (mode_under l.ancestors) l.node)) (access_of (levels (l.node ∷ l.ancestors))) (seen_in l.node))

    pub many : length (filter has_kind (out-Node x.node.now).children.now) ≡ length starts
    many =
        let same = same-counts {V = ℕ} 0 addressed has_address placed-by-kind all (l.node ∷ l.ancestors) rs rs (children l.node) row.inside (length rs) in
        let long = as-many all (l.node ∷ l.ancestors) rs rs (children l.node) row.inside in
        ap (λ xs. length (filter has_kind xs)) (sym (whole-take rs))
        ∙ (same
        ∙ (ap (λ n. length (filter has_address (take n (children l.node)))) long
        ∙ (ap (λ xs. length (filter has_address xs)) (whole-take' (children l.node))
        ∙ (ap length (sym nodes-are)
        ∙ (length-map (λ c. c.0) (offsets (mode_under (l.node ∷ l.ancestors)) (groups_at l))
        ∙ (sym (length-map (λ c. c.1) (offsets (mode_under (l.node ∷ l.ancestors)) (groups_at l))) ∙ ap length (sym starts-is)))))))

    module _ (m : Measure) (is : m ≡ measured l.node end access) where
      size-is : m.size ≡ size_at l
      unfolding size_at groups_at mode_under
      size-is =
          let down = levels-down l.node l.ancestors (few (Some (top_name e)) e.source.now k l here) in
          ap (λ y. y.size) is ∙ (go (is_a kind.Reg l.node) ∙ ap (λ n. size_of n (mode_under l.ancestors) l.node) (sym down))
        where
          go : (b : Bool) → (cond {A = Measure} b (record { size = number_at l.node prop.Regwidth / 8; access = number_at l.node prop.Accesswidth / 8 }) (record { size = end; access = access })).size
              ≡ cond b (number_at l.node prop.Regwidth / 8) (greatest_end (mode_in (mode_under l.ancestors) l.node) (groups (levels (l.node ∷ l.ancestors)) (mode_under l.ancestors) l.node))
          go true = refl
          go false = end-is

      access-there : m.access ≡ access_at l
      unfolding access_at
      access-there =
          let down = levels-down l.node l.ancestors (few (Some (top_name e)) e.source.now k l here) in
          ap (λ y. y.access) is ∙ (go (is_a kind.Reg l.node) ∙ ap (λ n. access_of n l.node) (sym down))
        where
          go : (b : Bool) → (cond {A = Measure} b (record { size = number_at l.node prop.Regwidth / 8; access = number_at l.node prop.Accesswidth / 8 }) (record { size = end; access = access })).access
              ≡ cond b (number_at l.node prop.Accesswidth / 8) (max 1 (greatest (map (access_of (levels (l.node ∷ l.ancestors))) (filter has_address (children l.node)))))
          go true = refl
          go false = access-is

      wide : 0 < m.access
      wide = subst (λ y. 0 < y.access) (sym is) (go (is_a kind.Reg l.node) refl)
        where
          go : (b : Bool) → is_a kind.Reg l.node ≡ b → 0 < (cond {A = Measure} b (record { size = number_at l.node prop.Regwidth / 8; access = number_at l.node prop.Accesswidth / 8 }) (record { size = end; access = access })).access
          go true q =
              let reg : kind_of l.node ≡ kind.Reg = sym (same_true of_kind.the_type tt kind.Reg (kind_of l.node) q) in
              let fits = (reg-accesswidth e settled l.node (place-in (nodes_of e) k l.node (node-at e k l here)) reg).0 in
              omega (arith, fits)
          go false q = let a = laid.access_ in omega (arith, a)

      module _ (os : List ℕ) (kept : (j : ℕ) → ((r : Node) → Contains (out-Node x.node.now).children.now r → (out-Node r).id ≡ j → ⊥) → offset_at os j ≡ offset_at old.offsets.items j) (long : length os ≡ length old.offsets.items)
          (placed : (all : List Lineage) (l : Lineage) (cs : List Instance) (ps : List (Instance × ℕ)) → AreInside all (l.node ∷ l.ancestors) (out-Node x.node.now).children.now (out-Node x.node.now).children.now cs
          → map (λ o. o.0) ps ≡ filter has_address cs → map (λ o. o.1) ps ≡ starts
          → (i : ℕ) (r : Node) (c : Instance) → slice_get (out-Node x.node.now).children.now i ≡ Some r → slice_get cs i ≡ Some c → has_address c ≡ true → Contains ps (c, offset_at os (out-Node r).id))
          (fs : List Fault) (added : fs ≡ old.faults.items ++ flat_map (lot_faults mode) lots) (new : Sizes) (measures_is : new.measures.items ≡ set old.measures.items (out-Node x.node.now).id m) (offsets_is : new.offsets.items ≡ os) (faults_is : new.faults.items ≡ fs) where
        low_old : k < length old.measures.items
        low_old = let q = later.measured in let l' = low in omega (arith, q, l')

        new-positive : All (λ y. 0 < y.access) new.measures.items
        new-positive = subst (All (λ y. 0 < y.access)) (sym measures_is) (go old.measures.items k later.positive)
          where
            go : (ms : List Measure) (i : ℕ) → All (λ y. 0 < y.access) ms → All (λ y. 0 < y.access) (set ms i m)
            go [] i h j d q = absurd (omega (arith, q))
            go (y ∷ ys) zero h zero d q = wide
            go (y ∷ ys) zero h (suc j) d q = h (suc j) d (omega (arith, q))
            go (y ∷ ys) (suc i) h zero d q = h zero y (omega arith)
            go (y ∷ ys) (suc i) h (suc j) d q = go ys i (λ n z p. h (suc n) z (omega (arith, p))) j d (omega (arith, q))

        split : (j : ℕ) → k ≤ j → (j ≡ k) ⊎ (k + 1 ≤ j)
        split j q = grind (arith, q)

        same-lineage : (j : ℕ) (n : Lineage) → j ≡ k → slice_get all j ≡ Some n → l ≡ n
        same-lineage j n q at = let one : Some l ≡ Some n = sym here ∙ (ap (slice_get all) (sym q) ∙ at) in cc one

        new-sizes : (j : ℕ) (n : Lineage) → k ≤ j → slice_get all j ≡ Some n → has_address n.node ≡ true → IsMeasure (measure_at new.measures.items j) n
        new-sizes j n from at placed' = by (split j from)
          where
            by : (j ≡ k) ⊎ (k + 1 ≤ j) → IsMeasure (measure_at new.measures.items j) n
            by (inl q) =
                let value : measure_at new.measures.items j ≡ m = ap (λ ms. measure_at ms j) measures_is ∙ (ap (measure_at (set old.measures.items k m)) q ∙ get_or-set_same old.measures.items k m (record { size = 0; access = 1 }) low_old) in
                let mine : IsMeasure m l = record { size_ = size-is; access_ = access-there } in
                subst (λ y. IsMeasure y n) (sym value) (subst (IsMeasure m) (same-lineage j n q at) mine)
            by (inr q) =
                let value : measure_at new.measures.items j ≡ measure_at old.measures.items j = ap (λ ms. measure_at ms j) measures_is ∙ get_or-set_other old.measures.items k j m (record { size = 0; access = 1 }) (λ s. absurd (omega (arith, s, q))) in
                subst (λ y. IsMeasure y n) (sym value) (later.sizes j n q at placed')

        mine-placed : (j : ℕ) (c : Instance) → slice_get all j ≡ Some (child_of l c) → has_address c ≡ true → IsOffset l c (offset_at os j)
        unfolding IsOffset
        mine-placed j c at has =
            let b = behind (Some (top_name e)) e.source.now j (child_of l c) l.node l.ancestors at refl in
            let p = in-place (children l.node) c b.3 in
            let long' = as-many all (l.node ∷ l.ancestors) rs rs (children l.node) row.inside in
            let i = p.0 in
            let low_i : i < length rs = (let q = p.1 in omega (arith, q, long')) in
            let d = x.node.now in
            let r = get_or rs i d in
            let at_r : slice_get rs i ≡ Some r = get-made rs i d r low_i refl in
            let its = inside-at all (l.node ∷ l.ancestors) rs rs (children l.node) row.inside i r at_r in
            let c_is : its.0 ≡ c = (let q : Some its.0 ≡ Some c = sym its.1 ∙ p.2 in cc q) in
            let at_id : slice_get all (out-Node r).id ≡ Some (child_of l c) = subst (λ y. slice_get all (out-Node r).id ≡ Some (child_of l y)) c_is its.2.here in
            let id_is : (out-Node r).id ≡ j = once (Some (top_name e)) e.source.now (out-Node r).id j (child_of l c) at_id at in
            subst (λ n. Contains (offsets (mode_under (l.node ∷ l.ancestors)) (groups_at l)) (c, offset_at os n)) id_is
            (placed all l (children l.node) (offsets (mode_under (l.node ∷ l.ancestors)) (groups_at l)) row.inside nodes-are (sym starts-is) i r c at_r p.2 has)

        not-mine : (i j : ℕ) (n : Lineage) (c : Instance) → k + 1 ≤ i → slice_get all i ≡ Some n → slice_get all j ≡ Some (child_of n c) → (r : Node) → Contains rs r → (out-Node r).id ≡ j → ⊥
        not-mine i j n c from at_n at r has q =
            let p = in-place rs r (in-from rs r has) in
            let its = inside-at all (l.node ∷ l.ancestors) rs rs (children l.node) row.inside p.0 r p.2 in
            let one : Some (child_of l its.0) ≡ Some (child_of n c) = sym its.2.here ∙ (ap (slice_get all) q ∙ at) in
            let twin : child_of l its.0 ≡ child_of n c = cc one in
            let ups : l.node ∷ l.ancestors ≡ n.node ∷ n.ancestors = ap (λ y. y.ancestors) twin in
            let nodes : l.node ≡ n.node = cc ups in
            let above : l.ancestors ≡ n.ancestors = cc ups in
            let same : l ≡ n = (λ t. record { node = nodes t; ancestors = above t }) in
            let s : k ≡ i = once (Some (top_name e)) e.source.now k i l here (subst (λ y. slice_get all i ≡ Some y) (sym same) at_n) in
            no-later k i s from

        new-places : (i j : ℕ) (n : Lineage) (c : Instance) → k ≤ i → slice_get all i ≡ Some n → slice_get all j ≡ Some (child_of n c) → has_address c ≡ true → IsOffset n c (offset_at new.offsets.items j)
        new-places i j n c from at_n at has = subst (λ xs. IsOffset n c (offset_at xs j)) (sym offsets_is) (by (split i from))
          where
            by : (i ≡ k) ⊎ (k + 1 ≤ i) → IsOffset n c (offset_at os j)
            by (inl q) = let s = same-lineage i n q at_n in subst (λ y. IsOffset y c (offset_at os j)) s (mine-placed j c (subst (λ y. slice_get all j ≡ Some (child_of y c)) (sym s) at) has)
            by (inr q) = subst (IsOffset n c) (sym (kept j (not-mine i j n c q at_n at))) (later.places i j n c q at_n at has)

        faults-here : flat_map (lot_faults mode) lots ≡ body_faults l
        unfolding body_faults
        faults-here = same-faults mode lots (groups_at l) are ∙ ap (λ n. flat_map (group_faults n) (groups_at l)) modes

        dropped : drop k all ≡ l ∷ drop (k + 1) all
        dropped = drop-at all k l here ∙ (let s : suc k ≡ k + 1 = omega arith in ap (λ n. l ∷ drop n all) s)

        new-failures : (f : Fault) → Contains new.faults.items f ↔ Contains (flat_map body_faults (drop k all)) f
        new-failures f =
            let listed : new.faults.items ≡ old.faults.items ++ body_faults l = faults_is ∙ (added ∙ ap (λ xs. old.faults.items ++ xs) faults-here) in
            let rest = flat_map body_faults (drop (k + 1) all) in (
              (λ h. subst (λ xs. Contains (flat_map body_faults xs) f) (sym dropped) (in-to (body_faults l ++ rest) f (to (in-either old.faults.items (body_faults l) f (in-from (old.faults.items ++ body_faults l) f (subst (λ xs. Contains xs f) listed h)))))),
              (λ h. subst (λ xs. Contains xs f) (sym listed) (in-to (old.faults.items ++ body_faults l) f (from (in-either (body_faults l) rest f (in-from (body_faults l ++ rest) f (subst (λ xs. Contains (flat_map body_faults xs) f) dropped h)))))),
            )
          where
            to : In old.faults.items f ⊎ In (body_faults l) f → In (body_faults l ++ flat_map body_faults (drop (k + 1) all)) f
            to (inl h) = in-right (body_faults l) (flat_map body_faults (drop (k + 1) all)) f (in-from (flat_map body_faults (drop (k + 1) all)) f ((later.failures f).0 (in-to old.faults.items f h)))
            to (inr h) = in-left (body_faults l) (flat_map body_faults (drop (k + 1) all)) f h

            from : In (body_faults l) f ⊎ In (flat_map body_faults (drop (k + 1) all)) f → In (old.faults.items ++ body_faults l) f
            from (inl h) = in-right old.faults.items (body_faults l) f h
            from (inr h) = in-left old.faults.items (body_faults l) f (in-from old.faults.items f ((later.failures f).1 (in-to (flat_map body_faults (drop (k + 1) all)) f h)))

        pub sized : AreSizesFrom e (out-Node x.node.now).id new
        sized = record {
          measured = ap length measures_is ∙ (length-set old.measures.items k m ∙ later.measured);
          positive = new-positive;
          sizes = new-sizes;
          placed = ap length offsets_is ∙ (long ∙ later.placed);
          places = new-places;
          failures = new-failures;
        }
