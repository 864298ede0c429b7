-- The tables of a tree of which nothing fails.
use Rattle.std.proofs.Common.{◌≡◌, ◌∙◌, ℕ, suc, ◌+◌, ◌-◌, ◌^◌, ◌==◌, ◌≤◌, ◌<◌, ◌||◌, inl, inr, Bool, true, false, cond, List, [], ◌∷◌, ◌++◌, length, flat_map, filter, slice_get, nat_lt, nat_le, Contains, Some, refl, sym, ap, subst, arith}
use Rattle.std.specs.List.{list_any}
use Rattle.std.proofs.lemmas.Bool.Decides.{nat_tests}
use denote.Enum.Bare.{same_true}
use Rattle.plain_lemmas.proofs.Numbers.{nat_lt-word_false as not-above}
use Rattle.rdl_base.specs.declared.fault.Fault.{Fault}
use Rattle.rdl_base.specs.declared.rule.Rule.TheVariants as rules
use Rattle.rdl_tree.specs.contracts.item.Kind as of_kind
use Rattle.rdl_tree.specs.declared.item.Kind.{Kind}
use Rattle.rdl_tree.specs.declared.item.Kind.TheVariants as kind
use Rattle.rdl_tree.specs.declared.node.Elab.{Elab}
use Rattle.rdl_tree.specs.Kinds.{same_kind}
use Rattle.rdl_props.specs.declared.prop.Prop.TheVariants as prop
use Rattle.rdl_values.specs.Bodies.{standing, standing_from}
use Rattle.rdl_values.specs.Elaborated.{nodes_of, top_name}
use Rattle.rdl_values.specs.Faults.{at_, when}
use Rattle.rdl_values.specs.Instances.{Instance, children, kind_of, signals, top_of}
use Rattle.rdl_values.specs.NoNode.{holds, is_signal, may_hold}
use Rattle.rdl_values.specs.Lineages.{Lineage, child_of, lineages_of}
use Rattle.rdl_values.proofs.Given.{IsAtRoot, IsChildOf, children-given, held, signals-given}
use Rattle.rdl_values.proofs.Numbered.{Deep}
use Rattle.rdl_layers.specs.Answers.{IsSettled}
use Rattle.rdl_layers.specs.Fields.{fields_of, is_a}
use Rattle.rdl_layers.specs.Phase4.{bad_width, number_at, range_of, width_of}
use Rattle.rdl_nodes.proofs.Members.{In, each-in, get-within, in-from, in-place, in-to, place-in}
use Rattle.rdl_nodes.proofs.Order.{behind, shallow-at}
use Rattle.rdl_addr.specs.Answers.{AreBitsAt, HasAddressAt, IsAddressAt, IsFieldAt, IsPlaced, IsSizeAt, is_filled}
use Rattle.rdl_addr.specs.Bits.{Bits, bits_from, bits_of}
use Rattle.rdl_addr.specs.Bits as bits
use Rattle.rdl_addr.specs.Layout.{Placed, has_address, layout, placed_from, size_of}
use Rattle.rdl_addr.specs.Rules.{clashes, is_outside, of_bits, too_large}
use Rattle.rdl_addr.specs.Areas.{bits_at, area_at}
use Rattle.rdl_addr.specs.declared.map.Area.{Area}
use Rattle.rdl_addr.proofs.Covers.{address_by_kind, child_held}
use Rattle.rdl_sizes.specs.declared.known.Sizes.{Sizes}
use Rattle.rdl_sizes.specs.Levels.{levels, mode_under, size_at}
use Rattle.rdl_sizes.specs.Sized.{AreSizes, measure_at}
use Rattle.rdl_sizes.proofs.Facts.{lineage-at, node-at}
use Rattle.rdl_sizes.proofs.Settled.{field-width, reg-regwidth}
use Rattle.rdl_bits.specs.declared.table.BitTable.{BitTable}
use Rattle.rdl_bits.specs.Tabled.{AreBits, IsBitsOf}
use Rattle.rdl_bits.specs.Written as written
use Rattle.rdl_sizes.specs.Addresses.{AreAddresses, IsArea, address_at}
use Rattle.rdl_bits.proofs.Descending.{at-top, listed-down, top-placed}
use Rattle.rdl_bits.specs.Failing.{registers_of}
use Rattle.rdl_bits.proofs.Filtered.{in-kept, kept-in, kept-passes}
use Rattle.rdl_place.specs.Kept.{AreAreas, narrow, area}
use Rattle.rdl_place.proofs.Bounded.{IsLow, sized}
use Rattle.rdl_place.proofs.Filled.{most-deep}
use Rattle.rdl_place.proofs.Fitting.{reach}
use Rattle.rdl_place.proofs.Listing.{none-far, none-outside}

nil-in : {X : Type 0} (f : X → List Fault) (xs : List X) (x : X) → flat_map f xs ≡ [] → In xs x → f x ≡ []
nil-in f [] x e h = absurd h
nil-in f (y ∷ ys) x e (inl s) = ap f (sym s) ∙ left (f y) (flat_map f ys) e
  where
    left : (xs ys : List Fault) → xs ++ ys ≡ [] → xs ≡ []
    left [] ys q = refl
    left (x ∷ xs) ys q = cc q
nil-in f (y ∷ ys) x e (inr h) = nil-in f ys x (right (f y) (flat_map f ys) e) h
  where
    right : (xs ys : List Fault) → xs ++ ys ≡ [] → ys ≡ []
    right [] ys q = q
    right (x ∷ xs) ys q = cc q

when-nil : (t : Bool) (f : Fault) → when t f ≡ [] → t ≡ false
when-nil false f e = refl
when-nil true f e = cc e

-- Addresses.

low-register : (e : Elab) → IsPlaced e → (p : Placed) → Contains (layout (Some (top_name e)) e.source.now) p → is_a kind.Reg p.node ≡ true → p.address + p.size ≤ 4294967296
low-register e placed p among reg =
    let all = layout (Some (top_name e)) e.source.now in
    let here : In (registers_of e) p = in-kept (λ x. is_a kind.Reg x.node) all p (in-from all p among) reg in
    let none = nil-in too_large (registers_of e) p (none-far e placed) here in
    not-above (p.address + p.size) (when-nil (nat_lt (2 ^ 32) (p.address + p.size)) (at_ rules.A4 p.node.use_.name.place) none)

narrow-is : (n : ℕ) → n < 18446744073709551616 → narrow n ≡ n
narrow-is n l = go (nat_lt n (2 ^ 64)) refl
  where
    below : n < 18446744073709551616 → nat_lt n (2 ^ 64) ≡ false → ⊥
    below l e = grind (arith, nat_tests)

    go : (b : Bool) → nat_lt n (2 ^ 64) ≡ b → cond b n 0 ≡ n
    go true e = refl
    go false e = absurd (below l e)

levels-are : (up : List Instance) (d : ℕ) → length up + d ≡ 31 → levels up ≡ suc d
unfolding levels
levels-are up d e = omega (arith, e)

module _ (e : Elab) (placed : IsPlaced e) (k : ℕ) (l : Lineage) (here : slice_get (lineages_of e) k ≡ Some l) (addressed : has_address l.node ≡ true) (filled : is_filled l.node ≡ true) (at : ℕ) (stands : IsArea e l at) where
  depth : (d : ℕ) × (length l.ancestors + d ≡ 31) × Deep d l.node
  depth = shallow-at (Some (top_name e)) e.source.now k l here

  in-layout : (p : Placed) → In (placed_from (suc depth.0) (mode_under l.ancestors) at l.node) p → Contains (layout (Some (top_name e)) e.source.now) p
  unfolding IsArea
  in-layout p h = stands p (subst (λ n. Contains (placed_from n (mode_under l.ancestors) at l.node) p) (sym (levels-are l.ancestors depth.0 depth.1)) (in-to (placed_from (suc depth.0) (mode_under l.ancestors) at l.node) p h))

  low : IsLow (suc depth.0) (mode_under l.ancestors) at l.node
  low p h reg = low-register e placed p (in-layout p h) reg

  address-low : at < 18446744073709551616
  address-low =
      let p = reach depth.0 (mode_under l.ancestors) at l.node depth.2 (most-deep depth.0 l.node depth.2) addressed filled in
      let near = low p.0 p.1 p.2 in
      let far = p.3 in
      omega (arith, near, far)

  size-is : size_at l ≡ size_of (suc depth.0) (mode_under l.ancestors) l.node
  unfolding size_at
  size-is = ap (λ n. size_of n (mode_under l.ancestors) l.node) (levels-are l.ancestors depth.0 depth.1)

  size-low : size_at l < 18446744073709551616
  size-low =
      let s = sized depth.0 (mode_under l.ancestors) at l.node depth.2 (most-deep depth.0 l.node depth.2) addressed filled low in
      let is = size-is in
      let d = depth.1 in
      omega (arith, s, is, d)

  abbrev own : Placed
  own = record { node = l.node; address = at; size = size_of (suc depth.0) (mode_under l.ancestors) l.node }

  own-in : Contains (layout (Some (top_name e)) e.source.now) own
  own-in = in-layout own (inl refl)

  module _ (s : Area) (size : ℕ) (measured : size ≡ size_at l) (is : s ≡ area at size) where
    pub address-kept : IsAddressAt e k s.address
    address-kept = (own, (node-at e k l here, own-in), sym (ap (λ y. y.address) is ∙ narrow-is at address-low))

    pub size-kept : IsSizeAt e k s.size
    size-kept = (own, (node-at e k l here, own-in), sym (ap (λ y. y.size) is ∙ (ap narrow measured ∙ (narrow-is (size_at l) size-low ∙ size-is))))

module _ (e : Elab) (sizes : Sizes) (are : AreSizes e sizes) (as_ : List ℕ) (addresses : AreAddresses e as_) (ss : List Area) (kept : AreAreas as_ sizes.measures.items ss) where
  pub as-many-areas : length ss ≡ length (lineages_of e)
  as-many-areas = kept.many ∙ addresses.many

  module _ (placed : IsPlaced e) (k : ℕ) (has : HasAddressAt e k) where
    abbrev found : (l : Lineage) × (slice_get (lineages_of e) k ≡ Some l) × (l.node ≡ has.0)
    found = lineage-at e k has.0 has.1

    within : k < length ss
    within = let low = get-within (lineages_of e) k found.0 found.1 in let many = as-many-areas in omega (arith, low, many)

    with-address : has_address found.0.node ≡ true
    with-address = ap has_address found.2 ∙ has.2

    with-registers : is_filled found.0.node ≡ true
    with-registers = ap is_filled found.2 ∙ has.3

    stands-here : IsArea e found.0 (address_at as_ k)
    stands-here = addresses.first.areas k found.0 (let low = get-within (lineages_of e) k found.0 found.1 in let many = addresses.many in omega (arith, low, many)) found.1 with-address

    measured-here : (measure_at sizes.measures.items k).size ≡ size_at found.0
    measured-here = (are.sizes k found.0 (omega arith) found.1 with-address).size_

    pub address-at : IsAddressAt e k (area_at ss k).address
    address-at = address-kept e placed k found.0 found.1 with-address with-registers (address_at as_ k) stands-here (area_at ss k) (measure_at sizes.measures.items k).size measured-here (kept.each k within)

    pub size-at : IsSizeAt e k (area_at ss k).size
    size-at = size-kept e placed k found.0 found.1 with-address with-registers (address_at as_ k) stands-here (area_at ss k) (measure_at sizes.measures.items k).size measured-here (kept.each k within)

-- Bits.

standing-in : {X : Type 0} (before xs : List X) (x : X) → In xs x → (b : List X) × In (standing_from before xs) (b, x)
standing-in before [] x h = absurd h
standing-in before (y ∷ ys) x (inl q) = (before, inl (λ i. (before, q i)))
standing-in before (y ∷ ys) x (inr h) = let r = standing-in (before ++ (y ∷ [])) ys x h in (r.0, inr r.1)

no-more : (xs ys : List Fault) → xs ++ ys ≡ [] → xs ≡ []
no-more [] ys q = refl
no-more (x ∷ xs) ys q = cc q

high-inside : (e : Elab) → IsPlaced e → (r : Instance) → In (nodes_of e) r → is_a kind.Reg r ≡ true → (b : Bits) → In (bits_of r) b → b.high < number_at r prop.Regwidth
high-inside e placed r among reg b h =
    let here = in-kept (is_a kind.Reg) (nodes_of e) r among reg in
    let none = nil-in (λ r. flat_map (of_bits r) (standing (bits_of r))) (filter (is_a kind.Reg) (nodes_of e)) r (none-outside e placed) here in
    let s = standing-in [] (bits_of r) b h in
    let both = nil-in (of_bits r) (standing (bits_of r)) (s.0, b) none s.1 in
    let inside = when-nil (is_outside r b) (at_ rules.B1 b.node.use_.name.place) (no-more (when (is_outside r b) (at_ rules.B1 b.node.use_.name.place)) (when (list_any (clashes b) s.0) (at_ rules.B2 b.node.use_.name.place)) both) in
    below (number_at r prop.Regwidth) b.high inside
  where
    below : (w h : ℕ) → nat_le w h ≡ false → h < w
    below w h e = grind (arith, nat_tests)

in-order : (w : ℕ) (next : ℕ) → (w == 0) ≡ false → next ≤ next + w - 1
in-order w next e = grind (arith, nat_tests)

not-under : (h l : ℕ) → nat_lt h l ≡ false → l ≤ h
not-under h l e = grind (arith, nat_tests)

first-false : (a b c d : Bool) → a || b || c || d ≡ false → (a ≡ false) × (c ≡ false)
first-false true b c d e = cc e
first-false false true c d e = cc e
first-false false false true d e = cc e
first-false false false false d e = (refl, refl)

any-first : {X : Type 0} (p : X → Bool) (x : X) (xs : List X) → list_any p (x ∷ xs) ≡ false → p x ≡ false
any-first p x xs e = go (p x) e
  where
    go : (b : Bool) → b || list_any p xs ≡ false → b ≡ false
    go true q = cc q
    go false q = refl

low-of : (next : ℕ) (n : Instance) → bad_width n ≡ false → (bits.bits_at next n).low ≤ (bits.bits_at next n).high
low-of next n fits = go (range_of n) refl
  where
    parts : (width_of n == 0 ≡ false) × (list_any (λ r. nat_lt r.0 r.1) (range_of n) ≡ false)
    parts = first-false _ _ _ _ fits

    go : (rs : List (ℕ × ℕ)) → range_of n ≡ rs → (bits.bits_at next n).low ≤ (bits.bits_at next n).high
    go [] e = rw e (in-order (width_of n) next parts.0)
    go (r ∷ rs) e = rw e (not-under r.0 r.1 (any-first (λ r. nat_lt r.0 r.1) r rs (subst (λ xs. list_any (λ r. nat_lt r.0 r.1) xs ≡ false) e parts.1)))

low-in : (next : ℕ) (ns : List Instance) → ((n : Instance) → In ns n → bad_width n ≡ false) → (b : Bits) → In (bits_from next ns) b → b.low ≤ b.high
low-in next [] fits b h = absurd h
low-in next (n ∷ ns) fits b (inl q) = subst (λ y. y.low ≤ y.high) q (low-of next n (fits n (inl refl)))
low-in next (n ∷ ns) fits b (inr h) = low-in ((bits.bits_at next n).high + 1) ns (λ m i. fits m (inr i)) b h

field-kind : (n : Instance) → is_a kind.Field n ≡ true → kind_of n ≡ kind.Field
field-kind n e = sym (same_true of_kind.the_type tt kind.Field (kind_of n) e)

narrowed : (n : ℕ) → n < 256 → written.narrow n ≡ n
narrowed n l = go (nat_lt n 256) refl
  where
    below : n < 256 → nat_lt n 256 ≡ false → ⊥
    below l e = grind (arith, nat_tests)

    go : (b : Bool) → nat_lt n 256 ≡ b → cond b n 0 ≡ n
    go true e = refl
    go false e = absurd (below l e)

module _ (e : Elab) (settled : IsSettled e) (t : BitTable) (are : AreBits e t) (placed : IsPlaced e) (k : ℕ) (is : IsFieldAt e k) where
  abbrev here : (l : Lineage) × (slice_get (lineages_of e) k ≡ Some l) × (l.node ≡ is.0)
  here = lineage-at e k is.0 is.1

  field : is_a kind.Field here.0.node ≡ true
  field = ap (is_a kind.Field) here.2 ∙ is.2

  unplaced : has_address here.0.node ≡ false
  unplaced = address_by_kind here.0.node kind.Field (field-kind here.0.node field)

  in-register : (k : Kind) → holds k kind.Field ≡ true → k ≡ kind.Reg
  in-register kind.Reg h = refl
  in-register kind.Addrmap h = cc h
  in-register _ h = cc h

  module _ (a : Instance) (up : List Instance) (i : ℕ) (at_i : slice_get (lineages_of e) i ≡ Some (record { node = a; ancestors = up })) (inside : In (children a) here.0.node) (over : here.0.ancestors ≡ a ∷ up) where
    reg : is_a kind.Reg a ≡ true
    reg =
        let by = each-in (IsChildOf a) (children a) here.0.node (children-given a) inside in
        let kinds = in-register (kind_of a) (subst (λ c. holds (kind_of a) c ≡ true) (field-kind here.0.node field) (child_held a here.0.node by)) in
        ap (same_kind kind.Reg) kinds

    among : In (nodes_of e) a
    among = place-in (nodes_of e) i a (node-at e i (record { node = a; ancestors = up }) at_i)

    kept : IsBitsOf a here.0.node (bits_at t.bits.items k)
    kept =
        let whole : here.0 ≡ child_of (record { node = a; ancestors = up }) here.0.node = (λ j. record { node = here.0.node; ancestors = over j }) in
        are.fields i k (record { node = a; ancestors = up }) here.0.node (get-within (lineages_of e) i _ at_i) at_i reg (subst (λ y. slice_get (lineages_of e) k ≡ Some y) whole here.1) field

    high-low : kept.of.high < 256
    high-low =
        let inside = high-inside e placed a among reg kept.of (in-from (bits_of a) kept.of kept.among) in
        let wide = (reg-regwidth e settled a among (sym (same_true of_kind.the_type tt kind.Reg (kind_of a) reg))).1 in
        omega (arith, inside, wide)

    fits : (m : Instance) → In (fields_of a) m → bad_width m ≡ false
    fits m h =
        let child = kept-in (is_a kind.Field) (children a) m h in
        let listed = listed-down (Some (top_name e)) e.source.now (record { node = a; ancestors = up }) (place-in (lineages_of e) i _ at_i) m child in
        let place = in-place (lineages_of e) (record { node = m; ancestors = a ∷ up }) listed in
        field-width e settled m (place-in (nodes_of e) place.0 m (node-at e place.0 (record { node = m; ancestors = a ∷ up }) place.2)) (field-kind m (kept-passes (is_a kind.Field) (children a) m h))

    low-high : kept.of.low ≤ kept.of.high
    low-high = low-in 0 (fields_of a) fits kept.of (in-from (bits_of a) kept.of kept.among)

    of-register : AreBitsAt e k (bits_at t.bits.items k)
    of-register =
        let high = narrowed kept.of.high high-low in
        let low = narrowed kept.of.low (let h = high-low in let l = low-high in omega (arith, h, l)) in
        (a, kept.of, in-to (nodes_of e) a among, kept.among, node-at e k here.0 here.1 ∙ ap Some (sym kept.node_), sym (kept.kept ∙ (λ j. (high j, low j))))

  no-signal : In (signals e.source.now) here.0.node → ⊥
  no-signal p =
      let h = each-in IsAtRoot (signals e.source.now) here.0.node (signals-given e.source.now) p in
      let unlike = by (kind_of here.0.node) (subst (λ q. may_hold q (kind_of here.0.node) ≡ true) h.in_body (held h.by here.0.node h.given_)) in
      let two : true ≡ false = sym field ∙ unlike in
      cc two
    where
      by : (k : Kind) → is_signal k ≡ true → same_kind kind.Field k ≡ false
      by kind.Signal h = refl
      by _ h = cc h

  no-top : In (top_of (Some (top_name e)) e.source.now) here.0.node → ⊥
  no-top p = let two : true ≡ false = sym (top-placed (Some (top_name e)) e.source.now here.0.node p) ∙ unplaced in cc two

  parented : here.0.ancestors ≡ [] → ⊥
  parented none = elim (at-top (Some (top_name e)) e.source.now here.0 (place-in (lineages_of e) k here.0 here.1) none) [ inl p ↦ no-signal p | inr p ↦ no-top p ]

  in-its-register : (up : List Instance) → here.0.ancestors ≡ up → AreBitsAt e k (bits_at t.bits.items k)
  in-its-register [] none = absurd (parented none)
  in-its-register (a ∷ up) over = let b = behind (Some (top_name e)) e.source.now k here.0 a up here.1 over in of-register a up b.0 b.2 b.3 over

  pub bits-kept : AreBitsAt e k (bits_at t.bits.items k)
  bits-kept = in-its-register here.0.ancestors refl

pub as-many-bits : (e : Elab) (t : BitTable) → AreBits e t → length t.bits.items ≡ length (lineages_of e)
as-many-bits e t are = are.sized
