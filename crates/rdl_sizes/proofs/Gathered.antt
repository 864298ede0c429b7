-- A node more of a body, from the last one on.
use Rattle.std.proofs.Common.{◌≡◌, ◌∙◌, ℕ, ◌+◌, max, true, false, List, [], ◌∷◌, ◌++◌, map, length, reverse, Some, refl, sym, ap, subst, arith}
use Rattle.std.specs.Option.{option_copied}
use Rattle.std.proofs.lemmas.List.{reverse-append}
use Rattle.rdl_tree.specs.declared.item.Inst.{Inst}
use Rattle.rdl_tree.specs.declared.item.Kind.{Kind}
use Rattle.rdl_tree.specs.declared.item.Kind.TheVariants as kind
use Rattle.rdl_tree.specs.declared.node.Node.{Node, out-Node}
use Rattle.rdl_values.specs.Elaborated.{Says}
use Rattle.rdl_values.specs.Instances.{Instance, kind_of}
use Rattle.rdl_values.specs.Values.{Around}
use Rattle.rdl_addr.specs.TextReadings.{IsGiven}
use Rattle.rdl_addr.specs.Layout.{Group, greatest, grouped, has_address}
use Rattle.rdl_addr.proofs.Read.{one-part}
use Rattle.rdl_sizes.specs.declared.known.Measure.{Measure}
use Rattle.rdl_sizes.specs.declared.lot.Lot.{Lot}
use Rattle.rdl_sizes.specs.declared.lot.Run.{Run}
use Rattle.rdl_sizes.specs.Bodies.{HasText, IsGathered, Runs, addressed, all_zero, is_first, with_one}
use Rattle.rdl_sizes.specs.Lots.{AreLotsOf, IsLotOf}

pub placed-by-kind : (n : Instance) → has_address n ≡ addressed (kind_of n)
placed-by-kind n = go (kind_of n) refl
  where
    go : (k : Kind) → kind_of n ≡ k → has_address n ≡ addressed k
    go kind.Addrmap e = rw e refl
    go kind.Regfile e = rw e refl
    go kind.Reg e = rw e refl
    go kind.Field e = rw e refl
    go kind.Signal e = rw e refl

module _ (size access : Instance → ℕ) (child : Node) (env : Around) (measure : Measure) (run : Run) (lots : List Lot) (beside : List Node) (c : Instance) (rs : Runs) (says : Says beside child c) (text : HasText env c)
    (is : has_address c ≡ true → (measure.size ≡ size c) × (measure.access ≡ access c)) (g : IsGathered size access run lots rs) where
  address : has_address c ≡ addressed (out-Node child).kind
  address = placed-by-kind c ∙ ap addressed (sym says.kind)

  first : is_first c ≡ all_zero (out-Node child).index.now
  first = ap all_zero (sym says.index)

  pub left-out : addressed (out-Node child).kind ≡ false → IsGathered size access run lots (with_one (has_address c) (is_first c) c rs)
  left-out e = subst (λ b. IsGathered size access run lots (with_one b (is_first c) c rs)) (sym (address ∙ e)) g

  abbrev Counts : Run → Type 0
  Counts r = r ≡ record { count = run.count + 1; size = max measure.size run.size; access = max measure.access run.access }

  counted : (r : Run) → Counts r → r.count ≡ length (c ∷ rs.head)
  counted r q = let k = g.count_ in let e = ap (λ x. x.count) q in omega (arith, k, e)

  sized : (r : Run) → Counts r → has_address c ≡ true → r.size ≡ greatest (map size (c ∷ rs.head))
  sized r q a = ap (λ x. x.size) q ∙ (λ i. max ((is a).0 i) (g.size_ i))

  wide : (r : Run) → Counts r → has_address c ≡ true → r.access ≡ greatest (map access (c ∷ rs.head))
  wide r q a = ap (λ x. x.access) q ∙ (λ i. max ((is a).1 i) (g.access_ i))

  pub one-more : (r : Run) → Counts r → addressed (out-Node child).kind ≡ true → all_zero (out-Node child).index.now ≡ false → IsGathered size access r lots (with_one (has_address c) (is_first c) c rs)
  one-more r q e f =
      let h : IsGathered size access r lots (record { head = c ∷ rs.head; whole = rs.whole }) = record { count_ = counted r q; size_ = sized r q (address ∙ e); access_ = wide r q (address ∙ e); lots_ = g.lots_ } in
      subst (λ b. IsGathered size access r lots (with_one b (is_first c) c rs)) (sym (address ∙ e)) (subst (λ b. IsGathered size access r lots (with_one true b c rs)) (sym (first ∙ f)) h)

  pub begun : (r : Run) → Counts r → addressed (out-Node child).kind ≡ true → all_zero (out-Node child).index.now ≡ true → (lot : Lot) (new : List Lot) (after : Run) → after ≡ record { count = 0; size = 0; access = 0 }
      → new ≡ lots ++ lot ∷ [] → lot.place ≡ (out-Node child).place → lot.part.others + 1 ≡ r.count → lot.part.size ≡ r.size → lot.part.access ≡ r.access
      → ((i : Inst) → option_copied (out-Node child).inst ≡ Some i → IsGiven lot.part env i) → IsGathered size access after new (with_one (has_address c) (is_first c) c rs)
  begun r q e f lot new after none pushed place others bytes width given =
      let a : has_address c ≡ true = address ∙ e in
      let here : Group = record { first = c; others = rs.head; size = greatest (map size (c ∷ rs.head)); access = greatest (map access (c ∷ rs.head)) } in
      let many : lot.part.others ≡ length rs.head = (let k = counted r q in omega (arith, k, others)) in
      let part : IsLotOf lot here = record { part_ = one-part lot.part env text.0 here (given text.0 (says.inst ∙ text.1)) text.2 many (bytes ∙ sized r q a) (width ∙ wide r q a); place_ = place ∙ says.place } in
      let turned : reverse new ≡ lot ∷ reverse lots = ap reverse pushed ∙ reverse-append lots (lot ∷ []) in
      let h : IsGathered size access after new (record { head = []; whole = (c ∷ rs.head) ∷ rs.whole }) =
      record { count_ = ap (λ x. x.count) none; size_ = ap (λ x. x.size) none; access_ = ap (λ x. x.access) none; lots_ = subst (λ l. AreLotsOf l (grouped size access ((c ∷ rs.head) ∷ rs.whole))) (sym turned) (part, g.lots_) } in
      subst (λ b. IsGathered size access after new (with_one b (is_first c) c rs)) (sym a) (subst (λ b. IsGathered size access after new (with_one true b c rs)) (sym (first ∙ f)) h)
