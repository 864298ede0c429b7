-- Nodes in the order of their keys, and those under a key.
use Rattle.std.proofs.Common.{◌≡◌, ◌∙◌, ℕ, zero, suc, ◌+◌, ◌<◌, ◌≤◌, Bool, true, false, ◌&&◌, not, cond, List, [], ◌∷◌, length, get_or, take, drop, filter, refl, sym, ap, arith}
use Rattle.std.specs.Cmp.{IsTotalOrder, alike_right, Equal-is, both_tied, nat_cmp_total, on_total, then_total, unsigned_ties}
use Rattle.std.specs.Cmp.Lexicographic.{lists_ties, lists_total, slice_cmp}
use Rattle.std.specs.List.Sorted.{IsNonDecreasingBy, IsPartitionedBy, IsPartitionPoint, IsSortedByKey, IsStableByKey}
use Rattle.std.specs.Ordering.{is_eq, is_lt, is_ne, nat_cmp, ordering_index, ordering_reverse, ordering_then}
use Rattle.std.specs.declared.cmp.Ordering.{Ordering}
use Rattle.std.specs.declared.cmp.Ordering.TheVariants.{Less, Equal, Greater}
use Rattle.std.proofs.lemmas.List.{get_or-drop, length-drop}
use Rattle.std.proofs.lemmas.List.Elements.{filter_agree}
use Rattle.std.proofs.lemmas.List.Sorted.{searchable_from_sorted}
use Rattle.rdl_nodes.specs.Keyed.{Key, same_key}
use Rattle.rdl_node_lists.specs.Keys.{held_under, key_cmp, key_of, numbers}
use Rattle.rdl_node_lists.specs.declared.held.By.{By}
use Rattle.rdl_node_lists.specs.declared.held.Held.{Held}

pub total : IsTotalOrder key_cmp
total = then_total (then_total (on_total (λ (k : Key). k.body) nat_cmp_total) (on_total (λ (k : Key). k.name) (lists_total nat_cmp_total))) (on_total (λ (k : Key). k.index) (lists_total nat_cmp_total))

-- keys are the same where neither comes first
pub same-ties : (j k : Key) → same_key j k ≡ is_eq (key_cmp j k)
same-ties j k =
    both_tied _ _ (ordering_then (nat_cmp j.body k.body) (slice_cmp nat_cmp j.name k.name)) (slice_cmp nat_cmp j.index k.index)
    (both_tied _ _ (nat_cmp j.body k.body) (slice_cmp nat_cmp j.name k.name) (unsigned_ties j.body k.body) (lists_ties nat_cmp unsigned_ties j.name k.name)) (lists_ties nat_cmp unsigned_ties j.index k.index)

-- the last part tells where the others tie
pub last-tells : (o p q : Ordering) → is_ne o ≡ false → is_ne p ≡ false → q ≡ ordering_then (ordering_then o p) q
last-tells Less p q e f = cc e
last-tells Equal Less q e f = cc f
last-tells Equal Equal q e f = refl
last-tells Equal Greater q e f = cc f
last-tells Greater p q e f = cc e

-- Where answers rise, those that are equal stand together.

still-less : (o p : Ordering) → ordering_index o ≤ ordering_index p → is_lt p ≡ true → is_lt o ≡ true
still-less Less p l e = refl
still-less Equal Less l e = absurd (omega (arith, l))
still-less Equal Equal l e = e
still-less Equal Greater l e = cc e
still-less Greater Less l e = absurd (omega (arith, l))
still-less Greater Equal l e = cc e
still-less Greater Greater l e = e

still-equal : (o p : Ordering) → ordering_index o ≤ ordering_index p → is_lt o ≡ false → is_eq p ≡ true → is_eq o ≡ true
still-equal Less p l n e = cc n
still-equal Equal p l n e = refl
still-equal Greater Less l n e = cc e
still-equal Greater Equal l n e = absurd (omega (arith, l))
still-equal Greater Greater l n e = e

less-differs : (o : Ordering) → is_lt o ≡ true → is_eq o ≡ false
less-differs Less e = refl
less-differs Equal e = cc e
less-differs Greater e = refl

module _ {X : Type 0} where
  skipped : (p : X → Bool) (xs : List X) (n : ℕ) → ((i : ℕ) (d : X) → i < n → i < length xs → p (get_or xs i d) ≡ false) → filter p xs ≡ filter p (drop n xs)
  skipped p xs zero h = refl
  skipped p [] (suc n) h = refl
  skipped p (x ∷ xs) (suc n) h = (λ t. cond (h 0 x (omega arith) (omega arith) t) (x ∷ filter p xs) (filter p xs)) ∙ skipped p xs n (λ i d l m. h (suc i) d (omega (arith, l)) (omega (arith, m)))

  fronts : (p : X → Bool) (xs : List X) (n : ℕ) → ((i : ℕ) (d : X) → i < n → i < length xs → p (get_or xs i d) ≡ true) → ((i : ℕ) (d : X) → n ≤ i → i < length xs → p (get_or xs i d) ≡ false) → filter p xs ≡ take n xs
  fronts p [] zero h k = refl
  fronts p [] (suc n) h k = refl
  fronts p (x ∷ xs) zero h k =
      (λ t. cond (k 0 x (omega arith) (omega arith) t) (x ∷ filter p xs) (filter p xs)) ∙ fronts p xs zero (λ i d l m. absurd (omega (arith, l))) (λ i d l m. k (suc i) d (omega arith) (omega (arith, m)))
  fronts p (x ∷ xs) (suc n) h k =
      (λ t. cond (h 0 x (omega arith) (omega arith) t) (x ∷ filter p xs) (filter p xs)) ∙ ap (λ ys. x ∷ ys) (fronts p xs n (λ i d l m. h (suc i) d (omega (arith, l)) (omega (arith, m))) (λ i d l m. k (suc i) d (omega (arith, l)) (omega (arith, m))))

abbrev pub before : By → Key → Held → Bool
before by k h = is_lt (key_cmp (key_of by h) k)

abbrev pub here : By → Key → Held → Bool
here by k h = is_eq (key_cmp (key_of by h) k)

module _ (by : By) (hs : List Held) (up : IsSortedByKey (key_of by) key_cmp hs) (k : Key) where
  rising : IsNonDecreasingBy (λ h. ordering_index (key_cmp (key_of by h) k)) hs
  rising = searchable_from_sorted total (key_of by) hs k up

  pub first-part : IsPartitionedBy (before by k) hs
  first-part i j d le l e = still-less (key_cmp (key_of by (get_or hs i d)) k) (key_cmp (key_of by (get_or hs j d)) k) (rising i j d le l) e

  module _ (lo : ℕ) (at : IsPartitionPoint (λ h. before by k h ≡ true) (λ h. before by k h ≡ false) hs lo) where
    moved : (i : ℕ) → i < length (drop lo hs) → lo + i < length hs
    moved i l = let e = length-drop lo hs in omega (arith, l, e)

    pub second-part : IsPartitionedBy (here by k) (drop lo hs)
    second-part i j d le l e =
        let in_j = moved j l in
        let in_i : lo + i < length hs = omega (arith, in_j, le) in
        let eq_j : here by k (get_or hs (lo + j) d) ≡ true = ap (here by k) (sym (get_or-drop lo hs j d)) ∙ e in
        ap (here by k) (get_or-drop lo hs i d)
        ∙ still-equal (key_cmp (key_of by (get_or hs (lo + i) d)) k) (key_cmp (key_of by (get_or hs (lo + j) d)) k) (rising (lo + i) (lo + j) d (omega (arith, le)) in_j) (at.1 (lo + i) d (omega arith) in_i) eq_j

    pub found-part : (n : ℕ) → IsPartitionPoint (λ h. here by k h ≡ true) (λ h. here by k h ≡ false) (drop lo hs) n → numbers (take n (drop lo hs)) ≡ held_under by hs k
    found-part n parts = ap numbers (sym found)
      where
        found : filter (λ h. same_key (key_of by h) k) hs ≡ take n (drop lo hs)
        found =
            filter_agree (λ h. same_key (key_of by h) k) (here by k) (λ h. same-ties (key_of by h) k) hs ∙ skipped (here by k) hs lo (λ i d l m. less-differs (key_cmp (key_of by (get_or hs i d)) k) (at.0 i d (omega arith) l))
            ∙ fronts (here by k) (drop lo hs) n (λ i d l m. parts.0 i d (omega arith) l) (λ i d l m. parts.1 i d l m)

-- A stable sort leaves those under a key as they were.

module _ {X : Type 0} where
  first-passes : (p : X → Bool) (zs : List X) (x : X) (rest : List X) → filter p zs ≡ x ∷ rest → p x ≡ true
  first-passes p [] x rest e = cc e
  first-passes p (z ∷ zs) x rest e = go (p z) refl e (first-passes p zs x rest)
    where
      go : (b : Bool) → p z ≡ b → cond b (z ∷ filter p zs) (filter p zs) ≡ x ∷ rest → (filter p zs ≡ x ∷ rest → p x ≡ true) → p x ≡ true
      go true q r h = let same : z ≡ x = cc r in ap p (sym same) ∙ q
      go false q r h = h r

  kept-by : (ties : X → X → Bool) (p : X → Bool) → ((x y : X) → p x ≡ true → ties x y ≡ p y) → (xs ys : List X) → ((x : X) → filter (ties x) ys ≡ filter (ties x) xs) → filter p ys ≡ filter p xs
  kept-by ties p same xs ys stable = by (filter p xs) (filter p ys) refl refl
    where
      through : (x : X) → p x ≡ true → filter p ys ≡ filter p xs
      through x e = sym (filter_agree (ties x) p (λ y. same x y e) ys) ∙ stable x ∙ filter_agree (ties x) p (λ y. same x y e) xs

      by : (us vs : List X) → filter p xs ≡ us → filter p ys ≡ vs → filter p ys ≡ filter p xs
      by (u ∷ us) vs e f = through u (first-passes p xs u us e)
      by [] (v ∷ vs) e f = through v (first-passes p ys v vs f)
      by [] [] e f = f ∙ sym e

-- keys that tie pass alike
tied-alike : (j k x : Key) → same_key j k ≡ true → (not (is_lt (key_cmp j x)) && not (is_lt (key_cmp x j))) ≡ same_key x k
tied-alike j k x e =
    let tie : key_cmp j k ≡ Equal = (Equal-is (key_cmp j k)).0 (sym (same-ties j k) ∙ e) in
    (λ t. not (is_lt ((total.congr j k x tie ∙ total.antisymm k x) t)) && not (is_lt (alike_right total j k x tie t))) ∙ neither (key_cmp x k) ∙ sym (same-ties x k)
  where
    neither : (o : Ordering) → (not (is_lt (ordering_reverse o)) && not (is_lt o)) ≡ is_eq o
    neither Less = refl
    neither Equal = refl
    neither Greater = refl

pub kept-under : (by : By) (xs ys : List Held) → IsStableByKey (key_of by) key_cmp xs ys → (k : Key) → held_under by ys k ≡ held_under by xs k
kept-under by xs ys stable k = ap numbers (kept-by (λ x y. not (is_lt (key_cmp (key_of by x) (key_of by y))) && not (is_lt (key_cmp (key_of by y) (key_of by x)))) (λ h. same_key (key_of by h) k) (λ x y e. tied-alike (key_of by x) k (key_of by y) e) xs ys stable)
