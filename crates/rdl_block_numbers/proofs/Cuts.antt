-- Lists that are cut out of one, by where each ends.
use Rattle.std.proofs.Common.{◌≡◌, ◌∙◌, ℕ, zero, suc, ◌+◌, ◌-◌, ◌<◌, ◌≤◌, List, [], ◌∷◌, ◌++◌, length, take, drop, get_or, refl, ap, sym, arith, length-append, slice_get, Some, None, subst}
use Rattle.std.proofs.lemmas.List.{take-append-le, take-append-drop}
use Rattle.plain_lemmas.proofs.Lists.{take-all}
use Rattle.rdl_block_numbers.specs.Ends.{Rises, cut, start_at}

pub length-cut : (from : ℕ) (ends numbers : List ℕ) → length (cut from ends numbers) ≡ length ends
length-cut from [] numbers = refl
length-cut from (e ∷ es) numbers = ap suc (length-cut e es numbers)

pub cut-at : (from : ℕ) (ends numbers : List ℕ) (i : ℕ) → i < length ends
    → slice_get (cut from ends numbers) i ≡ Some (take (get_or ends i 0 - start_at from ends i) (drop (start_at from ends i) numbers))
cut-at from [] numbers i l = absurd (omega (arith, l))
cut-at from (e ∷ es) numbers zero l = refl
cut-at from (e ∷ es) numbers (suc i) l = cut-at e es numbers i (omega (arith, l))

-- past the last end there is none
pub cut-past : (from : ℕ) (ends numbers : List ℕ) (i : ℕ) → length ends ≤ i → slice_get (cut from ends numbers) i ≡ None
cut-past from [] numbers i l = refl
cut-past from (e ∷ es) numbers zero l = absurd (omega (arith, l))
cut-past from (e ∷ es) numbers (suc i) l = cut-past e es numbers i (omega (arith, l))

start-suc : (from : ℕ) (ends : List ℕ) (k : ℕ) → k < length ends → start_at from ends (suc k) ≡ get_or ends k 0
start-suc from [] k l = absurd (omega (arith, l))
start-suc from (e ∷ es) zero l = refl
start-suc from (e ∷ es) (suc k) l = start-suc e es k (omega (arith, l))

pub start-before : (ends : List ℕ) (at : ℕ) → (at ≡ 0 → ⊥) → at ≤ length ends → get_or ends (at - 1) 0 ≡ start_at 0 ends at
start-before ends zero ne l = absurd (ne refl)
start-before ends (suc k) ne l = let e : suc k - 1 ≡ k = omega arith in ap (λ n. get_or ends n 0) e ∙ sym (start-suc 0 ends k (omega (arith, l)))

rise-low : (from : ℕ) (ends : List ℕ) (last : ℕ) → Rises from ends last → from ≤ last
rise-low from [] last r = r
rise-low from (e ∷ es) last r = let a = r.0 in let b = rise-low e es last r.1 in omega (arith, a, b)

pub rise-within : (from : ℕ) (ends : List ℕ) (last i : ℕ) → Rises from ends last → i < length ends → (start_at from ends i ≤ get_or ends i 0) × (get_or ends i 0 ≤ last)
rise-within from [] last i r l = absurd (omega (arith, l))
rise-within from (e ∷ es) last zero r l = (r.0, rise-low e es last r.1)
rise-within from (e ∷ es) last (suc i) r l = rise-within e es last i r.1 (omega (arith, l))

rise-to : (from : ℕ) (ends : List ℕ) (last more : ℕ) → Rises from ends last → last ≤ more → Rises from ends more
rise-to from [] last more r l = omega (arith, r, l)
rise-to from (e ∷ es) last more r l = (r.0, rise-to e es last more r.1 l)

-- the places rise up to the last one
rise-last : (from : ℕ) (ends : List ℕ) (last : ℕ) → Rises from ends last → Rises from ends (start_at from ends (length ends)) × (start_at from ends (length ends) ≤ last)
rise-last from [] last r = (omega arith, r)
rise-last from (e ∷ es) last r = let h = rise-last e es last r.1 in ((r.0, h.0), h.1)

rise-pushed : (from : ℕ) (ends : List ℕ) (end last : ℕ) → Rises from ends end → end ≤ last → Rises from (ends ++ end ∷ []) last
rise-pushed from [] end last r l = (r, l)
rise-pushed from (e ∷ es) end last r l = (r.0, rise-pushed e es end last r.1 l)

-- numbers behind the last end are in no list

take_drop-front : (from n : ℕ) (xs ys : List ℕ) → from + n ≤ length xs → take n (drop from (xs ++ ys)) ≡ take n (drop from xs)
take_drop-front zero n xs ys l = take-append-le n xs ys (omega (arith, l))
take_drop-front (suc from) n [] ys l = absurd (omega (arith, l))
take_drop-front (suc from) n (x ∷ xs) ys l = take_drop-front from n xs ys (omega (arith, l))

cut-more : (from : ℕ) (ends numbers more : List ℕ) → Rises from ends (length numbers) → cut from ends (numbers ++ more) ≡ cut from ends numbers
cut-more from [] numbers more r = refl
cut-more from (e ∷ es) numbers more r =
    let a = r.0 in let b = rise-low e es (length numbers) r.1 in
    ap (λ l. l ∷ cut e es (numbers ++ more)) (take_drop-front from (e - from) numbers more (omega (arith, a, b)))
    ∙ ap (λ ls. take (e - from) (drop from numbers) ∷ ls) (cut-more e es numbers more r.1)

cut-pushed : (from : ℕ) (ends : List ℕ) (end : ℕ) (numbers : List ℕ)
    → cut from (ends ++ end ∷ []) numbers ≡ cut from ends numbers ++ take (end - start_at from ends (length ends)) (drop (start_at from ends (length ends)) numbers) ∷ []
cut-pushed from [] end numbers = refl
cut-pushed from (e ∷ es) end numbers = ap (λ ls. take (e - from) (drop from numbers) ∷ ls) (cut-pushed e es end numbers)

length-taken : (n : ℕ) (xs : List ℕ) → n ≤ length xs → length (take n xs) ≡ n
length-taken zero xs l = refl
length-taken (suc n) [] l = absurd (omega (arith, l))
length-taken (suc n) (x ∷ xs) l = ap suc (length-taken n xs (omega (arith, l)))

drop-front : (xs ys : List ℕ) → drop (length xs) (xs ++ ys) ≡ ys
drop-front [] ys = refl
drop-front (x ∷ xs) ys = drop-front xs ys

-- numbers that stand behind the last end in place of others
module _ (ends numbers front more new : List ℕ) (rises : Rises 0 ends (length numbers)) (front_is : front ≡ take (start_at 0 ends (length ends)) numbers) (new_is : new ≡ front ++ more) where
  abbrev last : ℕ
  last = start_at 0 ends (length ends)

  front_long : length front ≡ last
  front_long = ap length front_is ∙ length-taken last numbers (rise-last 0 ends (length numbers) rises).1

  rise_front : Rises 0 ends (length front)
  rise_front = subst (Rises 0 ends) (sym front_long) (rise-last 0 ends (length numbers) rises).0

  new_long : length new ≡ last + length more
  new_long = ap length new_is ∙ (length-append front more ∙ ap (λ n. n + length more) front_long)

  pub rise-kept : Rises 0 ends (length new)
  rise-kept = rise-to 0 ends (length front) (length new) rise_front (omega (arith, new_long, front_long))

  pub cut-kept : cut 0 ends new ≡ cut 0 ends numbers
  cut-kept = ap (cut 0 ends) new_is
      ∙ (cut-more 0 ends front more rise_front
      ∙ (ap (cut 0 ends) front_is
      ∙ (sym (cut-more 0 ends (take last numbers) (drop last numbers) (subst (λ l. Rises 0 ends (length l)) front_is rise_front))
      ∙ ap (cut 0 ends) (take-append-drop last numbers))))

  pub rise-added : (end : ℕ) → end ≡ length new → Rises 0 (ends ++ end ∷ []) (length new)
  rise-added end same = rise-pushed 0 ends end (length new) (subst (Rises 0 ends) (sym same) rise-kept) (omega (arith, same))

  pub cut-added : (end : ℕ) → end ≡ length new → cut 0 (ends ++ end ∷ []) new ≡ cut 0 ends numbers ++ more ∷ []
  cut-added end same =
      cut-pushed 0 ends end new
      ∙ (ap (λ ls. ls ++ take (end - last) (drop last new) ∷ []) cut-kept
      ∙ ap (λ l. cut 0 ends numbers ++ l ∷ [])
      (ap (λ n. take n (drop last new)) (let e : end - last ≡ length more = omega (arith, same, new_long) in e)
      ∙ (ap (take (length more)) (ap (drop last) new_is ∙ (ap (λ n. drop n (front ++ more)) (sym front_long) ∙ drop-front front more))
      ∙ take-all more (length more) (omega arith))))
