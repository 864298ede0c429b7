-- The address of a row more.
use Rattle.std.proofs.Common.{◌≡◌, ◌∙◌, ℕ, zero, suc, ◌+◌, ◌-◌, ◌<◌, ◌≤◌, ◌⊎◌, inl, inr, Bool, true, false, cond, List, [], ◌∷◌, ◌++◌, length, map, flat_map, get_or, slice_get, Contains, Option, None, Some, refl, sym, ap, subst, arith, length-append}
use Rattle.std.specs.List.{AllByRecursion}
use denote.Enum.Bare.{same_true}
use Rattle.plain_lemmas.proofs.Numbers.{below_next-same_or as split-next}
use Rattle.rdl_tree.specs.contracts.item.Kind as of_kind
use Rattle.rdl_tree.specs.declared.item.Kind.{Kind}
use Rattle.rdl_tree.specs.declared.item.Kind.TheVariants as kinds
use Rattle.rdl_tree.specs.declared.item.Source.{Source}
use Rattle.rdl_tree.specs.declared.node.Elab.{Elab}
use Rattle.rdl_values.specs.Elaborated.{top_name}
use Rattle.rdl_values.specs.Instances.{Instance, children, kind_of, most_names, signals, top_of}
use Rattle.rdl_values.specs.Lineages.{Lineage, alone, child_of, lineages, lineages_below, lineages_of}
use Rattle.rdl_values.specs.NoNode.{is_signal, may_hold}
use Rattle.rdl_values.proofs.Given.{IsAtRoot, held, signals-given}
use Rattle.rdl_layers.specs.Fields.{is_a}
use Rattle.rdl_nodes.specs.declared.table.Row.{Row}
use Rattle.rdl_nodes.specs.Rows.{AreRows, IsParent}
use Rattle.rdl_addr.specs.Layout.{Mode, Placed, groups, has_address, layout, mode_in, offsets, placed_from, regalign, size_of}
use Rattle.rdl_addr.proofs.Covers as covers
use Rattle.rdl_addr.proofs.Covers.{address_by_kind, addressed, in_reg}
use Rattle.rdl_nodes.proofs.Members.{In, each-in, flat-in, get-made, get-within, in-either, in-flat, in-from, in-to, map-in, place-in}
use Rattle.rdl_nodes.proofs.Order.{behind, few}
use Rattle.rdl_sizes.specs.Levels.{groups_at, levels, mode_under}
use Rattle.rdl_sizes.specs.Modes.{IsBelow}
use Rattle.rdl_sizes.specs.Sized.{AreSizes, IsOffset, offset_at}
use Rattle.rdl_sizes.specs.declared.known.Sizes.{Sizes}
use Rattle.rdl_sizes.proofs.Facts.{row-at}
use Rattle.rdl_sizes.proofs.Moding.{parent-before}
use Rattle.rdl_sizes.specs.Addresses.{AreFirst, IsArea, address_at, address_by}

-- Nodes that stand in no other are signals or the top.

deeper-among : (k : ℕ) (n : Instance) (up : List Instance) (l : Lineage) → ((c : Instance) → In (lineages_below k (n ∷ up) c) l → length (n ∷ up) ≤ length l.ancestors) → (cs : List Instance) → In (flat_map (lineages_below k (n ∷ up)) cs) l → length up ≤ length l.ancestors
deeper-among k n up l each [] h = absurd h
deeper-among k n up l each (c ∷ cs) h = elim (in-either (lineages_below k (n ∷ up) c) (flat_map (lineages_below k (n ∷ up)) cs) l h) [
  | inl q ↦ let d = each c q in omega (arith, d)
  | inr q ↦ deeper-among k n up l each cs q
]

deeper : (k : ℕ) (up : List Instance) (n : Instance) (l : Lineage) → In (lineages_below k up n) l → length up ≤ length l.ancestors
deeper zero up n l (inl e) = let s = ap (λ x. length x.ancestors) e in omega (arith, s)
deeper zero up n l (inr h) = absurd h
deeper (suc k) up n l (inl e) = let s = ap (λ x. length x.ancestors) e in omega (arith, s)
deeper (suc k) up n l (inr h) = deeper-among k n up l (λ c q. deeper k (n ∷ up) c l q) (children n) h

signal-unplaced : (n : Instance) → IsAtRoot n → has_address n ≡ true → ⊥
signal-unplaced n h placed =
    let signal : is_signal (kind_of n) ≡ true = subst (λ p. may_hold p (kind_of n) ≡ true) h.in_body (held h.by n h.given_) in
    by (kind_of n) signal (sym (address_by_kind n (kind_of n) refl) ∙ placed)
  where
    by : (k : Kind) → is_signal k ≡ true → addressed k ≡ true → ⊥
    by kinds.Signal s a = cc a
    by _ s a = cc s

top-alone : (wanted : Option (List ℕ)) (s : Source) (l : Lineage) → In (lineages wanted s) l → l.ancestors ≡ [] → has_address l.node ≡ true → In (top_of wanted s) l.node
unfolding lineages
top-alone wanted s l h none placed = elim (in-either (map alone (signals s)) (flat_map (lineages_below most_names []) (top_of wanted s)) l h) [
  | inl q ↦
      let n = map-in alone (signals s) l q in
      absurd (signal-unplaced n.0 (each-in IsAtRoot (signals s) n.0 (signals-given s) n.1) (ap (λ x. has_address x.node) n.2 ∙ placed))
  | inr q ↦ let t = flat-in (lineages_below most_names []) (top_of wanted s) l q in subst (In (top_of wanted s)) (same t.0 t.2) t.1
]
  where
    inner : (n : Instance) (cs : List Instance) → In (flat_map (lineages_below 31 (n ∷ [])) cs) l → ⊥
    inner n cs h = let c = flat-in (lineages_below 31 (n ∷ [])) cs l h in let d = deeper 31 (n ∷ []) c.0 l c.2 in let z = ap length none in omega (arith, d, z)

    same : (n : Instance) → In (lineages_below most_names [] n) l → n ≡ l.node
    same n (inl e) = ap (λ x. x.node) e
    same n (inr h) = absurd (inner n (children n) h)

-- What stands in a node.

levels-down : (n : Instance) (up : List Instance) → length up < 32 → levels up ≡ suc (levels (n ∷ up))
unfolding levels
levels-down n up l = omega (arith, l)

module _ (e : Elab) (q : Lineage) (c : Instance) (here : (p : ℕ) × (slice_get (lineages_of e) p ≡ Some q)) (among : In (children q.node) c) (placed : has_address c ≡ true) where
  holds-something : has_address q.node ≡ true
  holds-something = go (has_address q.node) refl
    where
      go : (b : Bool) → has_address q.node ≡ b → has_address q.node ≡ true
      go true h = h
      go false h = absurd (subst (λ cs. In cs c) (covers.alone q.node h) among)

  no-register : is_a kinds.Reg q.node ≡ false
  no-register = go (is_a kinds.Reg q.node) refl
    where
      go : (b : Bool) → is_a kinds.Reg q.node ≡ b → is_a kinds.Reg q.node ≡ false
      go false h = h
      go true h =
          let reg : kind_of q.node ≡ kinds.Reg = sym (same_true of_kind.the_type tt kinds.Reg (kind_of q.node) h) in
          let unplaced : has_address c ≡ false = each-in (λ n. has_address n ≡ false) (children q.node) c (in_reg q.node reg) among in
          let two : true ≡ false = sym placed ∙ unplaced in
          cc two

  inside-area : (at offset : ℕ) → IsOffset q c offset → IsArea e q at → IsArea e (child_of q c) (at + offset)
  unfolding IsOffset IsArea mode_under groups_at
  inside-area at offset stands area p h =
      let down = levels-down q.node q.ancestors (few (Some (top_name e)) e.source.now here.0 q here.1) in
      let k = levels (q.node ∷ q.ancestors) in
      let mode = mode_in (mode_under q.ancestors) q.node in
      let all = offsets mode (groups k (mode_under q.ancestors) q.node) in
      let inner : In (flat_map (λ o. placed_from k mode (at + o.1) o.0) all) p = in-flat (λ o. placed_from k mode (at + o.1) o.0) all (c, offset) p (in-from all (c, offset) stands) (in-from (placed_from k mode (at + offset) c) p h) in
      let chosen : In (cond (is_a kinds.Reg q.node) [] (flat_map (λ o. placed_from k mode (at + o.1) o.0) all)) p = subst (λ b. In (cond b [] (flat_map (λ o. placed_from k mode (at + o.1) o.0) all)) p) (sym no-register) inner in
      let self : Placed = record { node = q.node; address = at; size = size_of (suc k) (mode_under q.ancestors) q.node } in
      let whole : In (placed_from (suc k) (mode_under q.ancestors) at q.node) p = inr chosen in
      area p (subst (λ n. Contains (placed_from n (mode_under q.ancestors) at q.node) p) (sym down) (in-to (placed_from (suc k) (mode_under q.ancestors) at q.node) p whole))

top-area : (e : Elab) (l : Lineage) → In (top_of (Some (top_name e)) e.source.now) l.node → l.ancestors ≡ [] → IsArea e l 0
unfolding IsArea layout levels mode_under
top-area e l h none p has =
    let all = top_of (Some (top_name e)) e.source.now in
    let shown : Contains (placed_from most_names regalign 0 l.node) p = subst (λ up. Contains (placed_from (levels up) (mode_under up) 0 l.node) p) none has in
    in-to (flat_map (placed_from most_names regalign 0) all) p (in-flat (placed_from most_names regalign 0) all l.node p h (in-from (placed_from most_names regalign 0 l.node) p shown))

-- A row more.

at-end : (as_ : List ℕ) (a k : ℕ) → k ≡ length as_ → address_at (as_ ++ (a ∷ [])) k ≡ a
at-end [] a zero e = refl
at-end [] a (suc k) e = absurd (omega (arith, e))
at-end (x ∷ xs) a zero e = absurd (omega (arith, e))
at-end (x ∷ xs) a (suc k) e = at-end xs a k (omega (arith, e))

before-end : (as_ : List ℕ) (a k : ℕ) → k < length as_ → address_at (as_ ++ (a ∷ [])) k ≡ address_at as_ k
before-end [] a k l = absurd (omega (arith, l))
before-end (x ∷ xs) a zero l = refl
before-end (x ∷ xs) a (suc k) l = before-end xs a k (omega (arith, l))

module _ (e : Elab) (rows : List Row) (are : AreRows e rows) (sizes : Sizes) (known : AreSizes e sizes) (i : ℕ) (x : Row) (low : i < length rows) (read : x ≡ get_or rows i x) where
  area_row : (l : Lineage) × (slice_get (lineages_of e) i ≡ Some l) × IsParent (lineages_of e) x.parent l.ancestors
  area_row = let r = row-at e rows are i x (get-made rows i x x low (sym read)) in (r.0, r.1, r.2.parent)

  module _ (as_ : List ℕ) (many : length as_ ≡ i) (before : AreFirst e as_) where
    mine : (o : Option ℕ) → IsParent (lineages_of e) o area_row.0.ancestors → has_address area_row.0.node ≡ true → IsArea e area_row.0 (address_by as_ o (offset_at sizes.offsets.items i))
    mine None h placed = top-area e area_row.0 (top-alone (Some (top_name e)) e.source.now area_row.0 (place-in (lineages_of e) i area_row.0 area_row.1) h placed) h
    mine (Some p) h placed =
        let q = h.0 in
        let l = area_row.0 in
        let b = behind (Some (top_name e)) e.source.now i l q.node q.ancestors area_row.1 h.2 in
        let whole : l ≡ child_of q l.node = (λ t. record { node = l.node; ancestors = h.2 t }) in
        let less = parent-before e i p l area_row.1 h in
        let at_i : slice_get (lineages_of e) i ≡ Some (child_of q l.node) = subst (λ y. slice_get (lineages_of e) i ≡ Some y) whole area_row.1 in
        let offset = known.places p i q l.node (omega arith) h.1 at_i placed in
        let area = before.areas p q (omega (arith, less, many)) h.1 (holds-something e q l.node (p, h.1) b.3 placed) in
        subst (λ y. IsArea e y (address_at as_ p + offset_at sizes.offsets.items i)) (sym whole) (inside-area e q l.node (p, h.1) b.3 placed (address_at as_ p) (offset_at sizes.offsets.items i) offset area)

    pub addresses-more : (a : ℕ) → a ≡ address_by as_ x.parent (offset_at sizes.offsets.items i) → (new : List ℕ) → new ≡ as_ ++ (a ∷ []) → AreFirst e new
    addresses-more a is new pushed = record { areas = λ k l less at placed. by k l at placed (split-next k i (let s = length-append as_ (a ∷ []) in let n = ap length pushed in omega (arith, less, s, n, many))) }
      where
        by : (k : ℕ) (l : Lineage) → slice_get (lineages_of e) k ≡ Some l → has_address l.node ≡ true → (k ≡ i) ⊎ (k < i) → IsArea e l (address_at new k)
        by k l at placed (inr less) =
            let value : address_at new k ≡ address_at as_ k = ap (λ xs. address_at xs k) pushed ∙ before-end as_ a k (omega (arith, less, many)) in
            subst (IsArea e l) (sym value) (before.areas k l (omega (arith, less, many)) at placed)
        by k l at placed (inl same) =
            let one : Some area_row.0 ≡ Some l = sym area_row.1 ∙ (ap (slice_get (lineages_of e)) (sym same) ∙ at) in
            let twin : area_row.0 ≡ l = cc one in
            let value : address_at new k ≡ address_by as_ x.parent (offset_at sizes.offsets.items i) = ap (λ xs. address_at xs k) pushed ∙ (at-end as_ a k (same ∙ sym many) ∙ is) in
            subst (IsArea e l) (sym value) (subst (λ y. IsArea e y (address_by as_ x.parent (offset_at sizes.offsets.items i))) twin (mine x.parent area_row.2 (ap (λ y. has_address y.node) twin ∙ placed)))

pub no-addresses : (e : Elab) (as_ : List ℕ) → as_ ≡ [] → AreFirst e as_
no-addresses e as_ none = record { areas = λ k l less at placed. absurd (let z = ap length none in omega (arith, less, z)) }
