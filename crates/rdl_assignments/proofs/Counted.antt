-- Positions of what is given.
use Rattle.std.proofs.Common.{◌≡◌, ◌∙◌, ℕ, zero, suc, ◌+◌, ◌-◌, ◌<◌, ◌≤◌, Bool, true, false, cond, nat_lt, List, [], ◌∷◌, ◌++◌, filter, flat_map, get_or, length, replicate, take, append_assoc, append-nil, arith, length-append, refl, sym, ap, subst}
use Rattle.std.proofs.lemmas.Bool.Decides.{nat_tests}
use Rattle.std.proofs.lemmas.Grind.{flat_map-append}
use Rattle.std.proofs.lemmas.List.{length-take-le, take_all, take_more, take-append-le}
use Rattle.std.proofs.lemmas.List.Elements.{filter-append}
use Rattle.rdl_base.specs.declared.fault.Fault.{Fault}
use Rattle.rdl_tree.specs.declared.item.Item.{Item}
use Rattle.rdl_values.specs.Bodies.{standing}
use Rattle.rdl_failures.proofs.Noting.{standing-push}
use Rattle.rdl_layers.specs.Judged.{sound}
use Rattle.rdl_layers.specs.Meanings.{Assignment}
use Rattle.rdl_assignments.specs.Defaults.{count_before}
use Rattle.rdl_assignments.specs.Layers.{AreGiven}
use Rattle.rdl_assignments.specs.declared.set.ValidAssignment.{ValidAssignment}
use Rattle.rdl_assignments.proofs.Behind.{given_behind, sound-append}

below-true : (k p : ℕ) → k < p → nat_lt k p ≡ true
below-true k p l = grind (arith, l, nat_tests)

below-false : (k p : ℕ) → p ≤ k → nat_lt k p ≡ false
below-false k p l = grind (arith, l, nat_tests)

is-below : (k p : ℕ) → nat_lt k p ≡ true → k < p
is-below k p e = grind (arith, e, nat_tests)

not-below : (k p : ℕ) → nat_lt k p ≡ false → p ≤ k
not-below k p e = grind (arith, e, nat_tests)

count-append : (xs ys : List ℕ) (p : ℕ) → count_before (xs ++ ys) p ≡ count_before xs p + count_before ys p
count-append xs ys p = ap length (filter-append (λ k. nat_lt k p) xs ys) ∙ length-append (filter (λ k. nat_lt k p) xs) (filter (λ k. nat_lt k p) ys)

copies-below : (m k p : ℕ) → k < p → count_before (replicate m k) p ≡ m
copies-below zero k p l = refl
copies-below (suc m) k p l = ap (λ b. length (cond b (k ∷ filter (λ j. nat_lt j p) (replicate m k)) (filter (λ j. nat_lt j p) (replicate m k)))) (below-true k p l) ∙ ap suc (copies-below m k p l)

copies-above : (m k p : ℕ) → p ≤ k → count_before (replicate m k) p ≡ 0
copies-above zero k p l = refl
copies-above (suc m) k p l = ap (λ b. length (cond b (k ∷ filter (λ j. nat_lt j p) (replicate m k)) (filter (λ j. nat_lt j p) (replicate m k)))) (below-false k p l) ∙ copies-above m k p l

copies-length : (m k : ℕ) → length (replicate m k) ≡ m
copies-length zero k = refl
copies-length (suc m) k = ap suc (copies-length m k)

-- Positions one by one.

pub below_none : (xs : List ℕ) (p : ℕ) → 0 ≡ count_before (take 0 xs) p
below_none xs p = refl

below-more : (xs : List ℕ) (i p d : ℕ) → i < length xs → count_before (take (i + 1) xs) p ≡ count_before (take i xs) p + count_before (get_or xs i d ∷ []) p
below-more xs i p d l = ap (λ ys. count_before ys p) (take_more xs i d l) ∙ count-append (take i xs) (get_or xs i d ∷ []) p

pub below_counted : (xs : List ℕ) (i p d c : ℕ) → i < length xs → get_or xs i d < p → c ≡ count_before (take i xs) p → c + 1 ≡ count_before (take (i + 1) xs) p
below_counted xs i p d c l b h =
    let one : count_before (get_or xs i d ∷ []) p ≡ 1 = ap (λ t. length (cond t (get_or xs i d ∷ []) [])) (below-true (get_or xs i d) p b) in
    let more = below-more xs i p d l in
    omega (arith, one, more, h)

pub below_passed : (xs : List ℕ) (i p d c : ℕ) → i < length xs → p ≤ get_or xs i d → c ≡ count_before (take i xs) p → c ≡ count_before (take (i + 1) xs) p
below_passed xs i p d c l b h =
    let one : count_before (get_or xs i d ∷ []) p ≡ 0 = ap (λ t. length (cond t (get_or xs i d ∷ []) [])) (below-false (get_or xs i d) p b) in
    let more = below-more xs i p d l in
    omega (arith, one, more, h)

pub below_all : (xs : List ℕ) (i p c : ℕ) → length xs ≤ i → c ≡ count_before (take i xs) p → c ≡ count_before xs p
below_all xs i p c l h = h ∙ ap (λ ys. count_before ys p) (take_all i xs l)

-- Copies that were put behind a list.

replicate-push : (m k : ℕ) → replicate m k ++ (k ∷ []) ≡ replicate (suc m) k
replicate-push zero k = refl
replicate-push (suc m) k = ap (λ xs. k ∷ xs) (replicate-push m k)

pub copies_none : (xs : List ℕ) (k : ℕ) → xs ≡ xs ++ replicate 0 k
copies_none xs k = sym (append-nil xs)

next : (m : ℕ) → suc m ≡ m + 1
next m = omega (arith)

pub copies_more : (xs ys zs : List ℕ) (k m : ℕ) → zs ≡ ys ++ (k ∷ []) → ys ≡ xs ++ replicate m k → zs ≡ xs ++ replicate (m + 1) k
copies_more xs ys zs k m e h = e ∙ ap (λ vs. vs ++ (k ∷ [])) h ∙ append_assoc xs (replicate m k) (k ∷ []) ∙ ap (λ vs. xs ++ vs) (replicate-push m k) ∙ ap (λ n. xs ++ replicate n k) (next m)

module _ (f : List Assignment × Assignment → List Fault) (g : List Item × Item → List Assignment) where
  -- what is given of the assignments of some items
  abbrev pub given_of : List Item → List Assignment
  given_of items = sound f (flat_map g (standing items))

  -- These are the positions of the items of which something is given.
  pub record AreCounted (positions : List ℕ) (items : List Item) : Type 0 where
    pub all : length positions ≡ length (given_of items)
    pub each : (p : ℕ) → count_before positions p ≡ length (given_of (take p items))

  grows : (items : List Item) (i : Item) → length (given_of items) ≤ length (given_of (items ++ (i ∷ [])))
  grows items i =
      let more = flat_map g ((items, i) ∷ []) in
      let rest = sound-append f (flat_map g (standing items)) more in
      let e = ap (λ xs. length (sound f xs)) (ap (flat_map g) (standing-push items i) ∙ flat_map-append g (standing items) ((items, i) ∷ [])) ∙ ap length rest ∙ length-append (given_of items) _ in
      let l : length (given_of items) ≤ length (given_of (items ++ (i ∷ []))) = omega (arith, e) in
      l

  pub counted_none : (positions : List ℕ) → positions ≡ [] → AreCounted positions []
  counted_none positions e = record { all = ap length e; each = λ p. ap (λ xs. count_before xs p) e ∙ none p }
    where
      none : (p : ℕ) → 0 ≡ length (given_of (take p []))
      none zero = refl
      none (suc p) = refl

  pub counted_more : (ps qs : List ℕ) (items : List Item) (i : Item) (n : ℕ) → AreCounted ps items → n ≡ length (given_of (items ++ (i ∷ []))) → qs ≡ ps ++ replicate (n - length ps) (length items) → AreCounted qs (items ++ (i ∷ []))
  counted_more ps qs items i n h e q = record { all = all; each = λ p. each p (nat_lt (length items) p) refl }
    where
      room : length ps ≤ n
      room = let a = h.all in let b = grows items i in omega (arith, a, b, e)

      all : length qs ≡ length (given_of (items ++ (i ∷ [])))
      all =
          let a = ap length q ∙ length-append ps (replicate (n - length ps) (length items)) in
          let b = copies-length (n - length ps) (length items) in
          let r = room in
          omega (arith, a, b, r, e)

      each : (p : ℕ) (b : Bool) → nat_lt (length items) p ≡ b → count_before qs p ≡ length (given_of (take p (items ++ (i ∷ []))))
      each p true t =
          let l = is-below (length items) p t in
          let s = length-append items (i ∷ []) in
          let a = ap (λ xs. count_before xs p) q ∙ count-append ps (replicate (n - length ps) (length items)) p in
          let b = copies-below (n - length ps) (length items) p l in
          let c = h.each p ∙ ap (λ js. length (given_of js)) (take_all p items (omega (arith, l))) ∙ sym h.all in
          let r = room in
          let d : count_before qs p ≡ n = omega (arith, a, b, c, r) in
          d ∙ e ∙ ap (λ js. length (given_of js)) (sym (take_all p (items ++ (i ∷ [])) (omega (arith, l, s))))
      each p false t =
          let l = not-below (length items) p t in
          let a = ap (λ xs. count_before xs p) q ∙ count-append ps (replicate (n - length ps) (length items)) p in
          let b = copies-above (n - length ps) (length items) p l in
          let d : count_before qs p ≡ count_before ps p = omega (arith, a, b) in
          d ∙ h.each p ∙ ap (λ js. length (given_of js)) (sym (take-append-le p items (i ∷ []) l))

  pub counted_same : (ps : List ℕ) (items : List Item) (i : Item) → given_of (items ++ (i ∷ [])) ≡ given_of items → AreCounted ps items → AreCounted ps (items ++ (i ∷ []))
  counted_same ps items i e h = counted_more ps ps items i (length ps) h (h.all ∙ ap length (sym e)) (sym (ap (λ m. ps ++ replicate m (length items)) (none (length ps)) ∙ append-nil ps))
    where
      none : (m : ℕ) → m - m ≡ 0
      none m = omega (arith)

  -- one more item of a list
  pub counted_next : (ps qs : List ℕ) (items : List Item) (k : ℕ) (d : Item) (n : ℕ) → k < length items → AreCounted ps (take k items) → n ≡ length (given_of (take (k + 1) items)) → qs ≡ ps ++ replicate (n - length ps) k → AreCounted qs (take (k + 1) items)
  counted_next ps qs items k d n l h e q =
      let more : take (k + 1) items ≡ take k items ++ (get_or items k d ∷ []) = take_more items k d l in
      let at : length (take k items) ≡ k = length-take-le k items (omega (arith, l)) in
      subst (AreCounted qs) (sym more) (counted_more ps qs (take k items) (get_or items k d) n h (e ∙ ap (λ js. length (given_of js)) more) (q ∙ ap (λ m. ps ++ replicate (n - length ps) m) (sym at)))

  -- those before a place
  pub given_before : (body : ℕ) (ps : List ℕ) (gs : List ValidAssignment) (items : List Item) (p : ℕ) → AreCounted ps items → AreGiven body gs (given_of items) → AreGiven body (take (count_before ps p) gs) (given_of (take p items))
  given_before body ps gs items p h k = given_behind f body gs g items p (count_before ps p) k (h.each p)
