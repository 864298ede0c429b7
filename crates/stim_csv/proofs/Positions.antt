-- Where names stand among others.
use Rattle.std.proofs.Common.{◌≡◌, ◌≢◌, ℕ, zero, suc, ◌+◌, ◌<◌, Bool, true, false, add-zero, if◌then◌else◌, Option, Some, None, List, [], ◌∷◌, ◌++◌, length, get_or, take, map, refl, ap, sym, ◌∙◌, arith}
use Rattle.std.specs.Option.{option_or}
use Rattle.std.specs.List.{position_from, AllPairs}
use Rattle.std.specs.Str.{bytes_eq}
use Rattle.std.proofs.lemmas.List.{length-take, take_more, get_or-take}
use Rattle.std.proofs.Math.ListN.{set}
use Rattle.plain_lemmas.proofs.Lists.{bytes_eq-same as same_bytes}
use Rattle.rb_base.specs.declared.ports.Pin.{Pin}
use Rattle.stim_csv.specs.PinTable.{place_of}

module _ {A : Type 0} (test : A → Bool) where
  -- a place that is found is there, and passes
  pub found_at : (k : ℕ) (xs : List A) (i : ℕ) (d : A) → position_from test k xs ≡ Some i → (n : ℕ) × (i ≡ k + n) × (n < length xs) × (test (get_or xs n d) ≡ true)
  found_at k [] i d h = cc h
  found_at k (x ∷ xs) i d h = go (test x) refl (found_at (k + 1) xs i d) h
    where
      go : (b : Bool) → test x ≡ b → (position_from test (k + 1) xs ≡ Some i → (n : ℕ) × (i ≡ k + 1 + n) × (n < length xs) × (test (get_or xs n d) ≡ true))
          → (if b then Some k else position_from test (k + 1) xs) ≡ Some i → (n : ℕ) × (i ≡ k + n) × (n < length (x ∷ xs)) × (test (get_or (x ∷ xs) n d) ≡ true)
      go true e ih h = let same : k ≡ i = cc in (0, omega (arith, same), omega arith, e)
      go false e ih h = let (n, at, low, passes) = ih h in (suc n, omega (arith, at), omega (arith, low), passes)

  -- one more at the end
  pub position-push : (k : ℕ) (xs : List A) (x : A) → position_from test k (xs ++ x ∷ []) ≡ option_or (position_from test k xs) (if test x then Some (k + length xs) else None)
  position-push k [] x = ap (λ n. if test x then Some n else None) (sym (add-zero k))
  position-push k (y ∷ ys) x = go (test y) (position-push (k + 1) ys x ∙ ap (λ n. option_or (position_from test (k + 1) ys) (if test x then Some n else None)) (omega arith))
    where
      go : (b : Bool) → position_from test (k + 1) (ys ++ x ∷ []) ≡ option_or (position_from test (k + 1) ys) (if test x then Some (k + suc (length ys)) else None)
          → (if b then Some k else position_from test (k + 1) (ys ++ x ∷ [])) ≡ option_or (if b then Some k else position_from test (k + 1) ys) (if test x then Some (k + suc (length ys)) else None)
      go true h = refl
      go false h = h

  pub position-more : (xs : List A) (i : ℕ) (d : A) → i < length xs → position_from test 0 (take (i + 1) xs) ≡ option_or (position_from test 0 (take i xs)) (if test (get_or xs i d) then Some i else None)
  position-more xs i d l =
      let at : 0 + length (take i xs) ≡ i = omega (arith, length-take i xs) in
      rw (take_more xs i d l) (position-push 0 (take i xs) (get_or xs i d) ∙ ap (λ n. option_or (position_from test 0 (take i xs)) (if test (get_or xs i d) then Some n else None)) at)

pub place_below : (pins : List Pin) (name : List ℕ) (i : ℕ) (d : Pin) → place_of pins name ≡ Some i → (i < length pins) × (name ≡ (get_or pins i d).name)
place_below pins name i d h =
    let (n, at, low, passes) = found_at (λ p. bytes_eq name p.name) 0 pins i d h in
    let is : n ≡ i = omega (arith, at) in
    rw (← is) (low, same_bytes name (get_or pins n d).name passes)

-- a pin's name is none of an earlier pin
pub place_before : (pins : List Pin) (i : ℕ) (d : Pin) → AllPairs (λ p q. p.name ≢ q.name) pins → i < length pins → place_of (take i pins) (get_or pins i d).name ≡ None
place_before pins i d apart l = go (place_of (take i pins) (get_or pins i d).name) refl
  where
    go : (o : Option ℕ) → place_of (take i pins) (get_or pins i d).name ≡ o → o ≡ None
    go None e = refl
    go (Some j) e =
        let f = place_below (take i pins) (get_or pins i d).name j d e in
        let low : j < i = omega (arith, f.0, length-take i pins) in
        absurd (apart j i d low l (sym (f.1 ∙ ap (λ p. p.name) (get_or-take i pins j d low))))

-- what f and g say of each
all_same : {A B : Type 0} (f g : A → B) (xs : List A) (d : A) → ((k : ℕ) → k < length xs → f (get_or xs k d) ≡ g (get_or xs k d)) → map f xs ≡ map g xs
all_same f g [] d h = refl
all_same f g (x ∷ xs) d h = ap (λ z. z ∷ map f xs) (h 0 (omega arith)) ∙ ap (λ zs. g x ∷ zs) (all_same f g xs d (λ k low. h (suc k) (omega (arith, low))))

-- a list of what f says, with one place changed to what g says there
pub set-map : {A B : Type 0} (f g : A → B) (xs : List A) (j : ℕ) (d : A) (y : B) → j < length xs → g (get_or xs j d) ≡ y
    → ((k : ℕ) → k < length xs → k ≢ j → f (get_or xs k d) ≡ g (get_or xs k d)) → set (map f xs) j y ≡ map g xs
set-map f g [] j d y l at same = absurd (omega arith)
set-map f g (x ∷ xs) zero d y l at same =
    ap (λ z. z ∷ map f xs) (sym at) ∙ ap (λ zs. g x ∷ zs) (all_same f g xs d (λ k low. same (suc k) (omega (arith, low)) (λ e. absurd (omega (arith, e)))))
set-map f g (x ∷ xs) (suc j) d y l at same =
    ap (λ z. z ∷ set (map f xs) j y) (same 0 (omega arith) (λ e. absurd (omega (arith, e))))
    ∙ ap (λ zs. g x ∷ zs) (set-map f g xs j d y (omega (arith, l)) at (λ k low other. same (suc k) (omega (arith, low)) (λ e. other (omega (arith, e)))))
