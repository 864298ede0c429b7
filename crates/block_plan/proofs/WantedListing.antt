-- The wanted items of a block, listed in its order.
use Rattle.std.proofs.Common.{◌≡◌, ◌⊎◌, inl, inr, ℕ, zero, suc, ◌+◌, ◌<◌, ◌≤◌, Bool, true, false, Some, List, [], ◌∷◌, ◌++◌, length, slice_get, refl, sym, ap, ◌∙◌, subst, arith}
use Rattle.std.specs.Prelude.{Contains}
use Rattle.std.proofs.lemmas.List.Elements.{Contains-append_left, Contains-append_right}
use Rattle.std.proofs.lemmas.List.Sorted.{Contains-permutation, IsPermutation-sym}
use Rattle.std.proofs.lemmas.Option.{get_or_from_slice_get, same_Some, slice_get_read, slice_get_within}
use Rattle.rb_model.specs.declared.kinds.RefItem.{RefItem}
use Rattle.rb_model.specs.declared.block.Block.{Block}
use Rattle.rb_model.specs.Items.{items}
use Rattle.rb_model.specs.References.{Each, StandsBefore, refs}
use Rattle.rb_model.specs.Sound.{IsSound}
use Rattle.rb_model.proofs.Eachs.{Each-both, Each-weaker}
use Rattle.block_plan.specs.Wanted.{AreInOrder, IsClosed, is_wanted}
use Rattle.plain_lemmas.proofs.Numbers.{below_next-same_or as last_or_before}

-- an item that stands in the order is the block's
pub ordered_among : (b : Block) → IsSound b → (k : ℕ) (i : RefItem) → slice_get b.order k ≡ Some i → Contains (items b) i
ordered_among b sound k i here =
    Contains-permutation b.order (items b) i (IsPermutation-sym (items b) b.order sound.all_items) (k, slice_get_within b.order k i here, get_or_from_slice_get b.order k i i here)

-- an element of a list with one more
one_more : {X : Type 0} (xs : List X) (k : ℕ) (x y : X) → slice_get (xs ++ x ∷ []) k ≡ Some y → (slice_get xs k ≡ Some y) ⊎ ((k ≡ length xs) × (x ≡ y))
one_more [] zero x y h = inr (refl, same_Some x y h)
one_more [] (suc k) x y h = cc
one_more (z ∷ xs) zero x y h = inl h
one_more (z ∷ xs) (suc k) x y h = elim (one_more xs k x y h) [
  | inl e ↦ inl e
  | inr e ↦ inr (ap suc e.0, e.1)
]

still_there : {X : Type 0} (xs : List X) (k : ℕ) (x y : X) → slice_get xs k ≡ Some y → slice_get (xs ++ x ∷ []) k ≡ Some y
still_there [] k x y h = cc
still_there (z ∷ xs) zero x y h = h
still_there (z ∷ xs) (suc k) x y h = still_there xs k x y h

-- those of the first items that are wanted are listed, each behind those that it refers to
pub record ListedTo (b : Block) (w : List Bool) (is : List RefItem) (end : ℕ) : Type 0 where
  pub own : (k : ℕ) (i : RefItem) → slice_get is k ≡ Some i → Contains (items b) i × Each (StandsBefore is k) (refs b i)
  pub all : (h : ℕ) (j : RefItem) → h < end → slice_get b.order h ≡ Some j → is_wanted w j ≡ true → Contains is j

pub none_listed : (b : Block) (w : List Bool) → ListedTo b w [] 0
none_listed b w = record { own = λ k i here. cc; all = λ h j low there q. absurd (omega (arith, low)) }

pub one_spared : (b : Block) (w : List Bool) (is : List RefItem) (end : ℕ) (i : RefItem) → slice_get b.order end ≡ Some i → is_wanted w i ≡ false → ListedTo b w is end → ListedTo b w is (end + 1)
one_spared b w is end i here spared h = record {
  own = h.own;
  all = λ k j low there q. elim (last_or_before k end low) [
    | inl e ↦
        let same : i ≡ j = same_Some i j (sym here ∙ (ap (slice_get b.order) (sym e) ∙ there)) in
        absurd (let r : false ≡ true = sym spared ∙ (ap (is_wanted w) same ∙ q) in cc)
    | inr l ↦ h.all k j l there q
  ];
}

pub one_listed : (b : Block) (w : List Bool) (is : List RefItem) (end : ℕ) (i : RefItem) → IsSound b → IsClosed b w → slice_get b.order end ≡ Some i → is_wanted w i ≡ true → ListedTo b w is end → ListedTo b w (is ++ i ∷ []) (end + 1)
one_listed b w is end i sound closed here q h = record { own = own; all = all }
  where
    js : List RefItem
    js = is ++ i ∷ []

    among : Contains (items b) i
    among = ordered_among b sound end i here

    before : (j : RefItem) → Contains is j → StandsBefore js (length is) j
    before j c = let (k, low, at) = c in (k, low, still_there is k i j (slice_get_read is (length is) k j refl low (sym at)))

    mine : Each (StandsBefore js (length is)) (refs b i)
    mine = Each-both (StandsBefore b.order end) (λ j. is_wanted w j ≡ true) (StandsBefore js (length is)) (λ j s t. before j (h.all s.0 j s.1 s.2 t)) (refs b i) (sound.ordered end i here) (closed.each i among q)

    its : (k : ℕ) (j : RefItem) → (k ≡ length is) × (i ≡ j) → Contains (items b) j × Each (StandsBefore js k) (refs b j)
    its k j e = subst (λ m. Contains (items b) j × Each (StandsBefore js m) (refs b j)) (sym e.0) (subst (λ y. Contains (items b) y × Each (StandsBefore js (length is)) (refs b y)) e.1 (among, mine))

    own : (k : ℕ) (j : RefItem) → slice_get js k ≡ Some j → Contains (items b) j × Each (StandsBefore js k) (refs b j)
    own k j there = elim (one_more is k i j there) [
      | inl e ↦ ((h.own k j e).0, Each-weaker (StandsBefore is k) (StandsBefore js k) (λ m s. (s.0, s.1, still_there is s.0 i m s.2)) (refs b j) (h.own k j e).1)
      | inr e ↦ its k j e
    ]

    all : (k : ℕ) (j : RefItem) → k < end + 1 → slice_get b.order k ≡ Some j → is_wanted w j ≡ true → Contains js j
    all k j low there t = elim (last_or_before k end low) [
      | inl e ↦
          let same : i ≡ j = same_Some i j (sym here ∙ (ap (slice_get b.order) (sym e) ∙ there)) in
          subst (Contains js) same (Contains-append_right is (i ∷ []) i (0, omega arith, refl))
      | inr l ↦ Contains-append_left is (i ∷ []) j (h.all k j l there t)
    ]

pub all_listed : (b : Block) (w : List Bool) (is : List RefItem) (end : ℕ) → IsSound b → length b.order ≤ end → ListedTo b w is end → AreInOrder b w is
all_listed b w is end sound past h = record {
  own = λ k i here. (h.own k i here).0;
  ordered = λ k i here. (h.own k i here).1;
  all = λ i c q.
      let (k, low, at) = Contains-permutation (items b) b.order i sound.all_items c in
      h.all k i (omega (arith, low, past)) (slice_get_read b.order (length b.order) k i refl low (sym at)) q;
}
