-- The registers of the code are those of the layout.
use Rattle.std.specs.List.{All}
use Rattle.std.proofs.Common.{◌≡◌, ◌∙◌, ℕ, zero, suc, ◌+◌, ◌/◌, ◌<◌, ◌≤◌, ◌^◌, inl, inr, true, false, cond, List, [], ◌∷◌, ◌++◌, length, map, filter, take, slice_get, Contains, Some, refl, sym, ap, subst, arith}
use denote.Enum.Bare.{same_true}
use Rattle.plain_lemmas.proofs.Lists.{append-none as none-behind, map-filter as filter-map}
use Rattle.rdl_tree.specs.contracts.item.Kind as of_kind
use Rattle.rdl_tree.specs.declared.item.Kind.TheVariants as kinds
use Rattle.rdl_tree.specs.declared.node.Elab.{Elab}
use Rattle.rdl_props.specs.declared.prop.Prop.TheVariants as prop
use Rattle.rdl_values.specs.Elaborated.{nodes_of, top_name}
use Rattle.rdl_values.specs.Instances.{Instance, kind_of}
use Rattle.rdl_values.specs.Lineages.{Lineage, lineages_of}
use Rattle.rdl_layers.specs.Answers.{IsSettled}
use Rattle.rdl_layers.specs.Fields.{is_a}
use Rattle.rdl_layers.specs.Phase4.{number_at}
use Rattle.rdl_nodes.proofs.Apart.{Apart}
use Rattle.rdl_nodes.proofs.Lineages.{all_nodes}
use Rattle.rdl_nodes.proofs.Paths.{Differ, nodes_apart}
use Rattle.rdl_nodes.proofs.Members.{In, each-in, in-from, in-map, in-to, place-in}
use Rattle.rdl_nodes.proofs.Order.{few}
use Rattle.rdl_layout.specs.declared.register.Register.{Register}
use Rattle.rdl_layout.specs.Registers.{IsFit}
use Rattle.rdl_addr.specs.Layout.{Placed, has_address, layout, greatest_end, groups, mode_in, placed_from, size_of}
use Rattle.rdl_addr.specs.Registers.{AreRegistersOf, IsRegisterOf}
use Rattle.rdl_addr.proofs.Covers.{address_by_kind, covers}
use Rattle.rdl_sizes.specs.Levels.{levels, mode_under}
use Rattle.rdl_sizes.proofs.Facts.{node-at}
use Rattle.rdl_sizes.proofs.Settled.{reg-accesswidth, reg-regwidth}
use Rattle.rdl_sizes.specs.Addresses.{IsArea}
use Rattle.rdl_bits.specs.Failing.{registers_of}
use Rattle.rdl_bits.specs.Found.{AreFound, AreRegistersTo, AreRegisters, IsFound, IsNumbersOf, is_register}
use Rattle.rdl_bits.proofs.Filtered.{apart-kept, filter-all, filter-next, kept-in, twice}

pub reg-kind : (n : Instance) → is_a kinds.Reg n ≡ true → kind_of n ≡ kinds.Reg
reg-kind n e = sym (same_true of_kind.the_type tt kinds.Reg (kind_of n) e)

pub reg-placed : (n : Instance) → is_a kinds.Reg n ≡ true → has_address n ≡ true
reg-placed n e = address_by_kind n kinds.Reg (reg-kind n e)

-- A node stands in the layout once.

unique : (ps : List Placed) (p q : Placed) → Apart Differ (map (λ x. x.node) ps) → In ps p → In ps q → p.node ≡ q.node → p ≡ q
unique [] p q d h g same = absurd h
unique (x ∷ xs) p q d (inl e) (inl f) same = sym e ∙ f
unique (x ∷ xs) p q d (inl e) (inr g) same = absurd (each-in (Differ x.node) (map (λ y. y.node) xs) q.node d.0 (in-map (λ y. y.node) xs q g) (ap (λ y. y.node.path) e ∙ ap (λ n. n.path) same))
unique (x ∷ xs) p q d (inr h) (inl f) same = absurd (each-in (Differ x.node) (map (λ y. y.node) xs) p.node d.0 (in-map (λ y. y.node) xs p h) (ap (λ y. y.node.path) f ∙ ap (λ n. n.path) (sym same)))
unique (x ∷ xs) p q d (inr h) (inr g) same = unique xs p q d.1 h g same

module _ (e : Elab) where
  abbrev all_placed : List Placed
  all_placed = layout (Some (top_name e)) e.source.now

  placed-apart : Apart Differ (map (λ p. p.node) (layout (Some (top_name e)) e.source.now))
  placed-apart = subst (Apart Differ) (sym (covers (Some (top_name e)) e.source.now)) (apart-kept has_address Differ (nodes_of e) (nodes_apart (Some (top_name e)) e.source.now))

  one-by-one : (rs : List Register) (ls : List Lineage) (ps : List Placed) → AreFound e rs ls → map (λ p. p.node) ps ≡ map (λ l. l.node) ls → ((p : Placed) → In ps p → In (layout (Some (top_name e)) e.source.now) p) → AreRegistersOf rs ps
  one-by-one [] [] [] h same among = tt
  one-by-one [] [] (p ∷ ps) h same among = cc same
  one-by-one [] (l ∷ ls) ps h same among = absurd h
  one-by-one (r ∷ rs) [] ps h same among = absurd h
  one-by-one (r ∷ rs) (l ∷ ls) [] h same among = cc same
  one-by-one (r ∷ rs) (l ∷ ls) (p ∷ ps) h same among =
      let first : p.node ≡ l.node = cc same in
      let rest : map (λ p. p.node) ps ≡ map (λ l. l.node) ls = cc same in
      let f = h.0 in
      let one = unique all_placed f.area p placed-apart (in-from all_placed f.area f.among) (among p (inl refl)) (f.node_ ∙ sym first) in
      (subst (IsRegisterOf r) one f.is, one-by-one rs ls ps h.1 rest (λ q i. among q (inr i)))

  nodes-placed : map (λ p. p.node) (registers_of e) ≡ map (λ l. l.node) (filter is_register (lineages_of e))
  nodes-placed =
      filter-map (λ p. p.node) (is_a kinds.Reg) all_placed
      ∙ (ap (filter (is_a kinds.Reg)) (covers (Some (top_name e)) e.source.now)
      ∙ (twice (is_a kinds.Reg) has_address reg-placed (nodes_of e)
      ∙ (ap (filter (is_a kinds.Reg)) (sym (all_nodes (Some (top_name e)) e.source.now)) ∙ sym (filter-map (λ l. l.node) (is_a kinds.Reg) (lineages_of e)))))

  -- where all nodes are taken up
  pub all-taken : (rs : List Register) (k : ℕ) → AreRegistersTo e k rs → length (lineages_of e) ≤ k → AreRegisters e rs
  all-taken rs k h past = record {
    fit = h.fit;
    are = one-by-one rs (filter is_register (lineages_of e)) (registers_of e) (subst (AreFound e rs) (filter-all is_register (lineages_of e) k past) h.found) nodes-placed (λ p i. kept-in (λ x. is_a kinds.Reg x.node) all_placed p i);
  }

  pub none-taken : (rs : List Register) → rs ≡ [] → AreRegistersTo e 0 rs
  none-taken rs none = record {
    fit = subst (All IsFit) (sym none) (λ k d l. absurd (omega (arith, l)));
    found = subst (λ xs. AreFound e xs []) (sym none) tt;
  }

-- A node more.

found-push : (e : Elab) (rs : List Register) (ls : List Lineage) (r : Register) (l : Lineage) → AreFound e rs ls → IsFound e r l.node → AreFound e (rs ++ (r ∷ [])) (ls ++ (l ∷ []))
found-push e [] [] r l h is = (is, tt)
found-push e [] (m ∷ ms) r l h is = absurd h
found-push e (s ∷ ss) [] r l h is = absurd h
found-push e (s ∷ ss) (m ∷ ms) r l h is = (h.0, found-push e ss ms r l h.1 is)

fit-push : (rs : List Register) (r : Register) → All IsFit rs → IsFit r → All IsFit (rs ++ (r ∷ []))
fit-push [] r h is zero d l = is
fit-push [] r h is (suc k) d l = absurd (omega (arith, l))
fit-push (s ∷ ss) r h is zero d l = h 0 d (omega arith)
fit-push (s ∷ ss) r h is (suc k) d l = fit-push ss r (λ j c m. h (suc j) c (omega (arith, m))) is k d (omega (arith, l))

levels-down : (n : Instance) (up : List Instance) → length up < 32 → levels up ≡ suc (levels (n ∷ up))
unfolding levels
levels-down n up l = omega (arith, l)

module _ (e : Elab) (k : ℕ) (l : Lineage) (here : slice_get (lineages_of e) k ≡ Some l) (old : List Register) (before : AreRegistersTo e k old) where
  pub passed-by : is_register l ≡ false → AreRegistersTo e (k + 1) old
  passed-by unlike = record {
    fit = before.fit;
    found = subst (AreFound e old) (sym (filter-next is_register (lineages_of e) k l here ∙ (ap (λ b. filter is_register (take k (lineages_of e)) ++ cond b (l ∷ []) []) unlike ∙ none-behind (filter is_register (take k (lineages_of e)))))) before.found;
  }

  module _ (reg : is_register l ≡ true) (at : ℕ) (area : IsArea e l at) (r : Register) (is : IsNumbersOf r l.node at) where
    abbrev here_placed : Placed
    here_placed = record { node = l.node; address = at; size = number_at l.node prop.Regwidth / 8 }

    in-layout : Contains (layout (Some (top_name e)) e.source.now) here_placed
    unfolding IsArea
    in-layout =
        let down = levels-down l.node l.ancestors (few (Some (top_name e)) e.source.now k l here) in
        let mode = mode_under l.ancestors in
        let j = levels (l.node ∷ l.ancestors) in
        let size : size_of (suc j) mode l.node ≡ number_at l.node prop.Regwidth / 8 = ap (λ b. cond b (number_at l.node prop.Regwidth / 8) (greatest_end (mode_in mode l.node) (groups j mode l.node))) reg in
        let head : In (placed_from (suc j) mode at l.node) here_placed = inl (λ i. record { node = l.node; address = at; size = size i }) in
        area here_placed (subst (λ n. Contains (placed_from n mode at l.node) here_placed) (sym down) (in-to (placed_from (suc j) mode at l.node) here_placed head))

    is-found : IsFound e r l.node
    is-found = record {
      area = here_placed;
      among = in-layout;
      node_ = refl;
      is = record { place_ = is.place_; address_ = is.address_; size_ = is.size_; regwidth_ = is.regwidth_; accesswidth_ = is.accesswidth_; side_ = is.side_ };
    }

    fits : IsSettled e → r.address + r.size < 2 ^ 128 → IsFit r
    fits settled low =
        let among = place-in (nodes_of e) k l.node (node-at e k l here) in
        let access = (reg-accesswidth e settled l.node among (reg-kind l.node reg)).0 in
        let width = (reg-regwidth e settled l.node among (reg-kind l.node reg)).0 in
        record {
          wide = subst (λ n. 7 < n) (sym is.accesswidth_) access;
          some = subst (λ n. 0 < n) (sym is.size_) (eighth (number_at l.node prop.Regwidth) width);
          below = low;
        }
      where
        eighth : (n : ℕ) → 7 < n → 0 < n / 8
        eighth n l = omega (arith, l)

    pub taken-up : IsSettled e → r.address + r.size < 2 ^ 128 → (new : List Register) → new ≡ old ++ (r ∷ []) → AreRegistersTo e (k + 1) new
    taken-up settled low new pushed = record {
      fit = subst (All IsFit) (sym pushed) (fit-push old r before.fit (fits settled low));
      found =
          subst (AreFound e new) (sym (filter-next is_register (lineages_of e) k l here ∙ ap (λ b. filter is_register (take k (lineages_of e)) ++ cond b (l ∷ []) []) reg))
          (subst (λ xs. AreFound e xs (filter is_register (take k (lineages_of e)) ++ (l ∷ []))) (sym pushed) (found-push e old (filter is_register (take k (lineages_of e))) r l before.found is-found));
    }
