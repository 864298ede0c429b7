-- The fields of a register more.
use Rattle.std.specs.List.{All}
use Rattle.std.proofs.Common.{◌≡◌, ◌∙◌, ◌↔◌, ℕ, ◌+◌, ◌<◌, ◌⊎◌, inl, inr, true, false, cond, List, [], ◌∷◌, ◌++◌, length, map, flat_map, filter, take, get_or, slice_get, Contains, Some, refl, sym, ap, subst, arith}
use Rattle.std.proofs.lemmas.List.{take_more}
use Rattle.std.proofs.lemmas.Grind.{flat_map-append}
use Rattle.plain_lemmas.proofs.Lists.{length-map as long-map}
use Rattle.plain_lemmas.proofs.Numbers.{below_next-same_or as split-next}
use Rattle.rdl_base.specs.declared.fault.Fault.{Fault}
use Rattle.rdl_tree.specs.declared.item.Kind.TheVariants as kinds
use Rattle.rdl_tree.specs.declared.node.Elab.{Elab}
use Rattle.rdl_tree.specs.declared.node.Node.{Node, out-Node}
use Rattle.rdl_tree.specs.Kinds.{same_kind}
use Rattle.rdl_props.specs.declared.prop.Prop.TheVariants as prop
use Rattle.rdl_values.specs.Bodies.{standing}
use Rattle.rdl_values.specs.Elaborated.{top_name}
use Rattle.rdl_values.specs.Instances.{Instance, children}
use Rattle.rdl_values.specs.Lineages.{Lineage, child_of, lineages_of}
use Rattle.rdl_layers.specs.Fields.{fields_of, is_a}
use Rattle.rdl_layers.specs.Phase4.{number_at, range_of}
use Rattle.rdl_layout.specs.Fields as fields
use Rattle.rdl_layout.specs.declared.bits.Field.{Field}
use Rattle.rdl_layout.specs.declared.bits.FieldBits.{FieldBits}
use Rattle.rdl_nodes.specs.Rows.{AreInside}
use Rattle.rdl_addr.specs.Bits as bits
use Rattle.rdl_addr.specs.Bits.{Bits, bits_of}
use Rattle.rdl_addr.specs.Fields.{AllAreBitsOf, AreFieldsOf}
use Rattle.rdl_addr.specs.Rules.{of_bits}
use Rattle.rdl_addr.specs.Areas.{bits_at}
use Rattle.rdl_addr.proofs.Fielding.{all-bits, same-faults}
use Rattle.rdl_nodes.proofs.Members.{In, get-made, get-read, get-within, in-either, in-from, in-left, in-place, in-right, in-to, map-in}
use Rattle.rdl_nodes.proofs.Order.{behind, once}
use Rattle.rdl_sizes.proofs.Offsets.{same-counts}
use Rattle.rdl_sizes.proofs.Sizing.{all-within}
use Rattle.rdl_sizes.proofs.Turns.{as-many, inside-at}
use Rattle.rdl_bits.specs.declared.table.BitTable.{BitTable}
use Rattle.rdl_bits.specs.Tabled.{AreBitsTo, IsBitsOf, bit_faults}
use Rattle.rdl_bits.specs.Written.{narrow, narrowed}
use Rattle.rdl_bits.proofs.Fielded.{same_field}
use Rattle.rdl_bits.proofs.Lists.{filter-all}

-- a field with its bits, as they are kept
abbrev kept_of : Bits → Instance × (ℕ × ℕ)
kept_of b = (b.node, (narrow b.high, narrow b.low))

-- each field of a register
abbrev kept_bits : Instance → List (Instance × (ℕ × ℕ))
kept_bits n = map kept_of (bits_of n)

abbrev nodes_in : List (Instance × (ℕ × ℕ)) → List Instance
nodes_in os = map (λ (o : Instance × (ℕ × ℕ)). o.0) os

abbrev values_in : List (Instance × (ℕ × ℕ)) → List (ℕ × ℕ)
values_in os = map (λ (o : Instance × (ℕ × ℕ)). o.1) os

node-of : (next : ℕ) (n : Instance) → (bits.bits_at next n).node ≡ n
node-of next n = go (range_of n) refl
  where
    go : (r : List (ℕ × ℕ)) → range_of n ≡ r → (bits.bits_at next n).node ≡ n
    go [] e = rw e refl
    go (r ∷ rs) e = rw e refl

nodes-from : (next : ℕ) (ns : List Instance) → nodes_in (map kept_of (bits.bits_from next ns)) ≡ ns
nodes-from next [] = refl
nodes-from next (n ∷ ns) = (λ i. node-of next n i ∷ nodes-from ((bits.bits_at next n).high + 1) ns i)

values-from : (cs : List FieldBits) (bs : List Bits) → AllAreBitsOf cs bs → values_in (map kept_of bs) ≡ map narrowed cs
values-from [] [] h = refl
values-from [] (b ∷ bs) h = absurd h
values-from (c ∷ cs) [] h = absurd h
values-from (c ∷ cs) (b ∷ bs) h = let high = sym h.0.high_ in let low = sym h.0.low_ in λ i. (narrow (high i), narrow (low i)) ∷ values-from cs bs h.1 i

is-kept : (n c : Instance) (v : ℕ × ℕ) → Contains (kept_bits n) (c, v) → IsBitsOf n c v
is-kept n c v h =
    let b = map-in kept_of (bits_of n) (c, v) (in-from (kept_bits n) (c, v) h) in
    record { of = b.0; among = in-to (bits_of n) b.0 b.1; node_ = ap (λ o. o.0) b.2; kept = sym (ap (λ o. o.1) b.2) }

no-later : (k i : ℕ) → k ≡ i → i < k → ⊥
no-later k i s l = omega (arith, s, l)

take-next : (all : List Lineage) (k : ℕ) (l : Lineage) → slice_get all k ≡ Some l → take (k + 1) all ≡ take k all ++ (l ∷ [])
take-next all k l here = take_more all k l (get-within all k l here) ∙ ap (λ y. take k all ++ (y ∷ [])) (get-read all k l l here)

faults-next : (all : List Lineage) (k : ℕ) (l : Lineage) → slice_get all k ≡ Some l → flat_map (λ n. bit_faults n.node) (take (k + 1) all) ≡ flat_map (λ n. bit_faults n.node) (take k all) ++ bit_faults l.node
faults-next all k l here = ap (flat_map (λ n. bit_faults n.node)) (take-next all k l here) ∙ (flat_map-append (λ n. bit_faults n.node) (take k all) (l ∷ []) ∙ ap (λ xs. flat_map (λ n. bit_faults n.node) (take k all) ++ xs) (alone (bit_faults l.node)))
  where
    alone : (xs : List Fault) → xs ++ [] ≡ xs
    alone [] = refl
    alone (x ∷ xs) = ap (λ ys. x ∷ ys) (alone xs)

same-at : (all : List Lineage) (i k : ℕ) (l n : Lineage) → i ≡ k → slice_get all k ≡ Some l → slice_get all i ≡ Some n → l ≡ n
same-at all i k l n q here at = let one : Some l ≡ Some n = sym here ∙ (ap (slice_get all) (sym q) ∙ at) in cc one

opened : (n : Instance) → is_a kinds.Reg n ≡ true → bit_faults n ≡ flat_map (of_bits n) (standing (bits_of n))
unfolding bit_faults
opened n e = ap (λ b. cond b (flat_map (of_bits n) (standing (bits_of n))) []) e

closed : (n : Instance) → is_a kinds.Reg n ≡ false → bit_faults n ≡ []
unfolding bit_faults
closed n e = ap (λ b. cond b (flat_map (of_bits n) (standing (bits_of n))) []) e

module _ (e : Elab) (k : ℕ) (l : Lineage) (here : slice_get (lineages_of e) k ≡ Some l) (old : BitTable) (before : AreBitsTo e k old) where
  abbrev all : List Lineage
  all = lineages_of e

  -- a node that is no register
  pub passed-by : is_a kinds.Reg l.node ≡ false → AreBitsTo e (k + 1) old
  passed-by unlike = record {
    sized = before.sized;
    fields = λ i j n c low at reg at_c fld. by i j n c at reg at_c fld (split-next i k low);
    failures = λ f.
        let nothing : flat_map (λ n. bit_faults n.node) (take (k + 1) all) ≡ flat_map (λ n. bit_faults n.node) (take k all) = faults-next all k l here ∙ (ap (λ xs. flat_map (λ n. bit_faults n.node) (take k all) ++ xs) (closed l.node unlike) ∙ ended (flat_map (λ n. bit_faults n.node) (take k all))) in
        subst (λ xs. Contains old.faults.items f ↔ Contains xs f) (sym nothing) (before.failures f);
  }
    where
      ended : (xs : List Fault) → xs ++ [] ≡ xs
      ended [] = refl
      ended (x ∷ xs) = ap (λ ys. x ∷ ys) (ended xs)

      by : (i j : ℕ) (n : Lineage) (c : Instance) → slice_get all i ≡ Some n → is_a kinds.Reg n.node ≡ true → slice_get all j ≡ Some (child_of n c) → is_a kinds.Field c ≡ true → (i ≡ k) ⊎ (i < k) → IsBitsOf n.node c (bits_at old.bits.items j)
      by i j n c at reg at_c fld (inr less) = before.fields i j n c less at reg at_c fld
      by i j n c at reg at_c fld (inl q) = let s = same-at all i k l n q here at in let two : false ≡ true = sym unlike ∙ (ap (λ y. is_a kinds.Reg y.node) s ∙ reg) in cc two

  module _ (node : Node) (id : (out-Node node).id ≡ k) (inside : AreInside (lineages_of e) (l.node ∷ l.ancestors) (out-Node node).children.now (out-Node node).children.now (children l.node)) (reg : is_a kinds.Reg l.node ≡ true) where
    abbrev rs : List Node
    rs = (out-Node node).children.now

    pub within : (n : ℕ) → n ≡ length (lineages_of e) → All (λ r. (out-Node r).id < n) (out-Node node).children.now
    within n q = all-within all (l.node ∷ l.ancestors) rs rs (children l.node) inside n (sym q)

    module _ (fs : List Field) (are : AreFieldsOf fs (fields_of l.node)) (cs : List FieldBits) (bits_are : cs ≡ fields.bits_from 0 fs) where
      bits-of : AllAreBitsOf cs (bits_of l.node)
      bits-of = subst (λ xs. AllAreBitsOf xs (bits_of l.node)) (sym bits_are) (all-bits 0 fs (fields_of l.node) are)

      values-are : values_in (kept_bits l.node) ≡ map narrowed cs
      values-are = values-from cs (bits_of l.node) bits-of

      nodes-are : nodes_in (kept_bits l.node) ≡ filter (is_a kinds.Field) (children l.node)
      nodes-are = nodes-from 0 (fields_of l.node)

      pub many : length (filter (λ r. same_kind kinds.Field (out-Node r).kind) (out-Node node).children.now) ≡ length cs
      many =
          let same = same-counts {V = ℕ × ℕ} (0, 0) (same_kind kinds.Field) (is_a kinds.Field) same_field all (l.node ∷ l.ancestors) rs rs (children l.node) inside (length rs) in
          let long = as-many all (l.node ∷ l.ancestors) rs rs (children l.node) inside in
          ap length (sym (filter-all (λ r. same_kind kinds.Field (out-Node r).kind) rs (length rs) (omega arith)))
          ∙ (same
          ∙ (ap length (filter-all (is_a kinds.Field) (children l.node) (length rs) (omega (arith, long)))
          ∙ (ap length (sym nodes-are)
          ∙ (long-map (λ (o : Instance × (ℕ × ℕ)). o.0) (kept_bits l.node) ∙ (sym (long-map (λ (o : Instance × (ℕ × ℕ)). o.1) (kept_bits l.node)) ∙ (ap length values-are ∙ long-map narrowed cs))))))

      module _ (spans : All fields.IsSpan cs) (w : ℕ) (width : w ≡ number_at l.node prop.Regwidth) (now : List (ℕ × ℕ)) (long : length now ≡ length old.bits.items)
          (kept : (j : ℕ) → ((r : Node) → Contains (out-Node node).children.now r → (out-Node r).id ≡ j → ⊥) → bits_at now j ≡ bits_at old.bits.items j)
          (placed : (all : List Lineage) (l : Lineage) (ns : List Instance) (os : List (Instance × (ℕ × ℕ))) → AreInside all (l.node ∷ l.ancestors) (out-Node node).children.now (out-Node node).children.now ns
          → map (λ o. o.0) os ≡ filter (is_a kinds.Field) ns → map (λ o. o.1) os ≡ map narrowed cs
          → (i : ℕ) (r : Node) (c : Instance) → slice_get (out-Node node).children.now i ≡ Some r → slice_get ns i ≡ Some c → is_a kinds.Field c ≡ true → Contains os (c, bits_at now (out-Node r).id))
          (faults : List Fault) (added : faults ≡ old.faults.items ++ fields.faults w cs) (new : BitTable) (bits_is : new.bits.items ≡ now) (faults_is : new.faults.items ≡ faults) where
        mine : (j : ℕ) (c : Instance) → slice_get all j ≡ Some (child_of l c) → is_a kinds.Field c ≡ true → IsBitsOf l.node c (bits_at now j)
        mine j c at fld =
            let b = behind (Some (top_name e)) e.source.now j (child_of l c) l.node l.ancestors at refl in
            let p = in-place (children l.node) c b.3 in
            let long' = as-many all (l.node ∷ l.ancestors) rs rs (children l.node) inside in
            let i = p.0 in
            let low_i : i < length rs = (let q = p.1 in omega (arith, q, long')) in
            let r = get_or rs i node in
            let at_r : slice_get rs i ≡ Some r = get-made rs i node r low_i refl in
            let its = inside-at all (l.node ∷ l.ancestors) rs rs (children l.node) inside i r at_r in
            let c_is : its.0 ≡ c = (let q : Some its.0 ≡ Some c = sym its.1 ∙ p.2 in cc q) in
            let at_id : slice_get all (out-Node r).id ≡ Some (child_of l c) = subst (λ y. slice_get all (out-Node r).id ≡ Some (child_of l y)) c_is its.2.here in
            let id_is : (out-Node r).id ≡ j = once (Some (top_name e)) e.source.now (out-Node r).id j (child_of l c) at_id at in
            is-kept l.node c (bits_at now j) (subst (λ n. Contains (kept_bits l.node) (c, bits_at now n)) id_is (placed all l (children l.node) (kept_bits l.node) inside nodes-are values-are i r c at_r p.2 fld))

        not-mine : (i j : ℕ) (n : Lineage) (c : Instance) → i < k → slice_get all i ≡ Some n → slice_get all j ≡ Some (child_of n c) → (r : Node) → Contains rs r → (out-Node r).id ≡ j → ⊥
        not-mine i j n c less at_n at r has q =
            let p = in-place rs r (in-from rs r has) in
            let its = inside-at all (l.node ∷ l.ancestors) rs rs (children l.node) inside p.0 r p.2 in
            let one : Some (child_of l its.0) ≡ Some (child_of n c) = sym its.2.here ∙ (ap (slice_get all) q ∙ at) in
            let twin : child_of l its.0 ≡ child_of n c = cc one in
            let ups : l.node ∷ l.ancestors ≡ n.node ∷ n.ancestors = ap (λ y. y.ancestors) twin in
            let nodes : l.node ≡ n.node = cc ups in
            let above : l.ancestors ≡ n.ancestors = cc ups in
            let same : l ≡ n = (λ t. record { node = nodes t; ancestors = above t }) in
            no-later k i (once (Some (top_name e)) e.source.now k i l here (subst (λ y. slice_get all i ≡ Some y) (sym same) at_n)) less

        new-fields : (i j : ℕ) (n : Lineage) (c : Instance) → i < k + 1 → slice_get all i ≡ Some n → is_a kinds.Reg n.node ≡ true → slice_get all j ≡ Some (child_of n c) → is_a kinds.Field c ≡ true → IsBitsOf n.node c (bits_at new.bits.items j)
        new-fields i j n c low at r at_c fld = subst (λ xs. IsBitsOf n.node c (bits_at xs j)) (sym bits_is) (by (split-next i k low))
          where
            by : (i ≡ k) ⊎ (i < k) → IsBitsOf n.node c (bits_at now j)
            by (inl q) = let s = same-at all i k l n q here at in subst (λ y. IsBitsOf y.node c (bits_at now j)) s (mine j c (subst (λ y. slice_get all j ≡ Some (child_of y c)) (sym s) at_c) fld)
            by (inr less) = subst (IsBitsOf n.node c) (sym (kept j (not-mine i j n c less at at_c))) (before.fields i j n c less at r at_c fld)

        new-failures : (f : Fault) → Contains new.faults.items f ↔ Contains (flat_map (λ n. bit_faults n.node) (take (k + 1) all)) f
        new-failures f =
            let listed : new.faults.items ≡ old.faults.items ++ fields.faults w cs = faults_is ∙ added in
            let next = faults-next all k l here in
            let before' = flat_map (λ n. bit_faults n.node) (take k all) in
            let same = same-faults w l.node width cs (bits_of l.node) bits-of spans f in (
              (λ h. subst (λ xs. Contains xs f) (sym next) (in-to (before' ++ bit_faults l.node) f (to (in-either old.faults.items (fields.faults w cs) f (in-from (old.faults.items ++ fields.faults w cs) f (subst (λ xs. Contains xs f) listed h)))))),
              (λ h. subst (λ xs. Contains xs f) (sym listed) (in-to (old.faults.items ++ fields.faults w cs) f (from (in-either before' (bit_faults l.node) f (in-from (before' ++ bit_faults l.node) f (subst (λ xs. Contains xs f) next h)))))),
            )
          where
            to : In old.faults.items f ⊎ In (fields.faults w cs) f → In (flat_map (λ n. bit_faults n.node) (take k all) ++ bit_faults l.node) f
            to (inl h) = in-left (flat_map (λ n. bit_faults n.node) (take k all)) (bit_faults l.node) f (in-from (flat_map (λ n. bit_faults n.node) (take k all)) f ((before.failures f).0 (in-to old.faults.items f h)))
            to (inr h) =
                in-right (flat_map (λ n. bit_faults n.node) (take k all)) (bit_faults l.node) f
                (subst (λ xs. In xs f) (sym (opened l.node reg)) (in-from (flat_map (of_bits l.node) (standing (bits_of l.node))) f ((same-faults w l.node width cs (bits_of l.node) bits-of spans f).0 (in-to (fields.faults w cs) f h))))

            from : In (flat_map (λ n. bit_faults n.node) (take k all)) f ⊎ In (bit_faults l.node) f → In (old.faults.items ++ fields.faults w cs) f
            from (inl h) = in-left old.faults.items (fields.faults w cs) f (in-from old.faults.items f ((before.failures f).1 (in-to (flat_map (λ n. bit_faults n.node) (take k all)) f h)))
            from (inr h) =
                in-right old.faults.items (fields.faults w cs) f
                (in-from (fields.faults w cs) f ((same-faults w l.node width cs (bits_of l.node) bits-of spans f).1 (in-to (flat_map (of_bits l.node) (standing (bits_of l.node))) f (subst (λ xs. In xs f) (opened l.node reg) h))))

        pub taken-up : AreBitsTo e (k + 1) new
        taken-up = record { sized = ap length bits_is ∙ (long ∙ before.sized); fields = new-fields; failures = new-failures }

-- nothing is known at first
pub none-known : (e : Elab) (t : BitTable) → length t.bits.items ≡ length (lineages_of e) → t.faults.items ≡ [] → AreBitsTo e 0 t
none-known e t many faults_is = record {
  sized = many;
  fields = λ i j l c low. absurd (omega (arith, low));
  failures = λ f. ((λ h. absurd (nowhere f (subst (λ xs. Contains xs f) faults_is h))), (λ h. absurd (nowhere f h)));
}
  where
    nowhere : (f : Fault) → Contains [] f → ⊥
    nowhere f h = let l = h.1 in omega (arith, l)
