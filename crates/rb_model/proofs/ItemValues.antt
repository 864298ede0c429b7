-- The items of a sound block have one value each.
use Rattle.std.proofs.Common.{◌≡◌, ℕ, zero, suc, ◌+◌, ◌-◌, ◌<◌, ◌≤◌, Option, Some, None, List, [], ◌∷◌, length, slice_get, refl, ap, sym, ◌∙◌, subst, arith}
use Rattle.std.specs.Prelude.{Contains, IsPermutation}
use Rattle.std.proofs.lemmas.List.Sorted.{length_permutation, Contains-permutation, IsPermutation-sym}
use Rattle.std.proofs.lemmas.Option.{slice_get_within, slice_get_read, get_or_from_slice_get}
use Rattle.rb_model.specs.declared.kinds.RefItem.{RefItem}
use Rattle.rb_model.specs.declared.block.Block.{Block}
use Rattle.rb_model.specs.Items.{Now, ItemValues, made, items, AreItemValues}
use Rattle.rb_model.specs.References.{Each, refs, IsOrdered, StandsBefore}
use Rattle.rb_model.specs.Sound.{IsSound}
use Rattle.rb_model.proofs.Eachs.{Each-weaker}
use Rattle.rb_model.proofs.Made.{Agree, made_same}

-- The value of an item, where references are followed to this depth. In a sound block no chain of references is longer
-- than the list of items.
abbrev pub value_within : Block → Now → ℕ → ItemValues
value_within b n zero i = 0
value_within b n (suc depth) i = made b n (value_within b n depth) i

abbrev pub item_value : Block → Now → ItemValues
item_value b n = value_within b n (length (items b))

module _ (b : Block) (n : Now) (is : List RefItem) (ordered : IsOrdered b is) where
  -- deeper than its place, an item's value stays
  pub stays : (most k d : ℕ) (i : RefItem) → k < most → slice_get is k ≡ Some i → value_within b n (k + 1 + d) i ≡ value_within b n (k + 1 + d + 1) i
  stays zero k d i below here = absurd (omega arith)
  stays (suc most) k d i below here =
      let agree : Agree (value_within b n (k + d)) (value_within b n (k + d + 1)) (refs b i) =
      Each-weaker (StandsBefore is k) (λ j. value_within b n (k + d) j ≡ value_within b n (k + d + 1) j)
      (λ j at. let q : value_within b n (at.0 + 1 + (k - at.0 - 1 + d)) j ≡ value_within b n (at.0 + 1 + (k - at.0 - 1 + d) + 1) j = stays most at.0 (k - at.0 - 1 + d) j (let lt : at.0 < k = at.1 in omega arith) at.2 in
      let e : at.0 + 1 + (k - at.0 - 1 + d) ≡ k + d = (let lt : at.0 < k = at.1 in omega arith) in
      let P : ℕ → Type 0 = λ x. value_within b n x j ≡ value_within b n (x + 1) j in subst P e q)
      (refs b i) (ordered k i here) in
      let m : made b n (value_within b n (k + d)) i ≡ made b n (value_within b n (k + d + 1)) i = made_same n _ _ b i agree in
      let e1 : k + 1 + d ≡ suc (k + d) = omega arith in
      let e2 : k + 1 + d + 1 ≡ suc (k + d + 1) = omega arith in
      rw (e2, e1) m

  -- two valuations that are right are one
  pub one : (u v : ItemValues) → ((i : RefItem) → Contains is i → u i ≡ made b n u i) → ((i : RefItem) → Contains is i → v i ≡ made b n v i)
      → (most k : ℕ) (i : RefItem) → k < most → slice_get is k ≡ Some i → Contains is i → u i ≡ v i
  one u v hu hv zero k i below here c = absurd (omega arith)
  one u v hu hv (suc most) k i below here c = hu i c ∙ (made_same n u v b i (Each-weaker (StandsBefore is k) (λ j. u j ≡ v j)
      (λ j at. one u v hu hv most at.0 j (let lt : at.0 < k = at.1 in omega arith) at.2 (at.0, slice_get_within is at.0 j at.2, get_or_from_slice_get is at.0 j j at.2)) (refs b i) (ordered k i here)) ∙ sym (hv i c))

pub are_values : (b : Block) (n : Now) → IsSound b → AreItemValues b n (item_value b n)
are_values b n s i c =
    let held : Contains b.order i = Contains-permutation (items b) b.order i s.all_items c in
    let long : length b.order ≡ length (items b) = length_permutation (items b) b.order s.all_items in
    let here : slice_get b.order held.0 ≡ Some i = slice_get_read b.order (length b.order) held.0 i refl held.1 (sym held.2) in
    let lt : held.0 < length b.order = held.1 in
    let q : value_within b n (held.0 + 1 + (length (items b) - held.0 - 1)) i ≡ value_within b n (held.0 + 1 + (length (items b) - held.0 - 1) + 1) i = stays b n b.order s.ordered (held.0 + 1) held.0 (length (items b) - held.0 - 1) i (omega arith) here in
    let e : held.0 + 1 + (length (items b) - held.0 - 1) ≡ length (items b) = omega arith in
    let P : ℕ → Type 0 = λ x. value_within b n x i ≡ value_within b n (x + 1) i in
    let r : value_within b n (length (items b)) i ≡ value_within b n (length (items b) + 1) i = subst P e q in
    let f : length (items b) + 1 ≡ suc (length (items b)) = omega arith in
    let R : ℕ → Type 0 = λ x. value_within b n (length (items b)) i ≡ value_within b n x i in
    subst R f r

pub are_one : (b : Block) (n : Now) → IsSound b → (u v : ItemValues) → AreItemValues b n u → AreItemValues b n v → (i : RefItem) → Contains (items b) i → u i ≡ v i
are_one b n s u v hu hv i c =
    let back : (j : RefItem) → Contains b.order j → Contains (items b) j = λ j d. Contains-permutation b.order (items b) j (IsPermutation-sym (items b) b.order s.all_items) d in
    let held : Contains b.order i = Contains-permutation (items b) b.order i s.all_items c in
    one b n b.order s.ordered u v (λ j d. hu j (back j d)) (λ j d. hv j (back j d)) (held.0 + 1) held.0 i (let lt : held.0 < length b.order = held.1 in omega arith)
    (slice_get_read b.order (length b.order) held.0 i refl held.1 (sym held.2)) held
