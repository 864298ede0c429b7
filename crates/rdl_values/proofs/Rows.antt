-- The elements of an array in order are those of the numbers from 0 on.
use Rattle.std.proofs.Common.{◌≡◌, ◌∙◌, ℕ, zero, suc, ◌+◌, ◌*◌, ◌/◌, ◌%◌, ◌<◌, List, [], ◌∷◌, ◌++◌, map, flat_map, refl, sym, ap, arith, append_assoc, append-nil, mod-eq_of_lt}
use Rattle.std.proofs.Math.Nat.{mul-add-mod_self_right}
use Rattle.std.proofs.lemmas.Grind.{flat_map-append}
use Rattle.std.proofs.lemmas.List.{map-append}
use Rattle.std.proofs.lemmas.Nat.{div-mul-add}
use Rattle.rdl_values.specs.Instances.{upto, rows}
use Rattle.rdl_values.specs.Rows.{product, row}
use Rattle.plain_lemmas.proofs.Lists.{map-map as map_twice}

upto-add : (m n : ℕ) → upto (m + n) ≡ upto m ++ map (λ k. m + k) (upto n)
upto-add m zero = let e : m + 0 ≡ m = omega arith in ap upto e ∙ sym (append-nil (upto m))
upto-add m (suc n) =
    let e : m + suc n ≡ suc (m + n) = omega arith in
    ap upto e ∙ ap (λ ks. ks ++ ((m + n) ∷ [])) (upto-add m n) ∙ append_assoc (upto m) (map (λ k. m + k) (upto n)) ((m + n) ∷ []) ∙ ap (λ ks. upto m ++ ks) (sym (map-append (λ k. m + k) (upto n) (n ∷ [])))

map_upto : {X : Type 0} (f g : ℕ → X) (n : ℕ) → ((k : ℕ) → k < n → f k ≡ g k) → map f (upto n) ≡ map g (upto n)
map_upto f g zero h = refl
map_upto f g (suc n) h =
    let rest = map_upto f g n (λ k l. h k (omega (arith, l))) in
    let last : f n ≡ g n = h n (omega arith) in
    map-append f (upto n) (n ∷ []) ∙ ap (λ xs. xs ++ (f n ∷ [])) rest ∙ ap (λ x. map g (upto n) ++ (x ∷ [])) last ∙ sym (map-append g (upto n) (n ∷ []))

-- a row in block d
in_block : (ds : List ℕ) (d j : ℕ) → j < product ds → (d * product ds + j) / product ds ∷ row ds ((d * product ds + j) % product ds) ≡ d ∷ row ds j
in_block ds d j l =
    let quotient : (d * product ds + j) / product ds ≡ d = div-mul-add d (product ds) j l in
    let rest : (d * product ds + j) % product ds ≡ j = mul-add-mod_self_right d (product ds) j ∙ mod-eq_of_lt l in
    ap (λ q. q ∷ row ds ((d * product ds + j) % product ds)) quotient ∙ ap (λ r. d ∷ row ds r) rest

blocks : (ds : List ℕ) → rows ds ≡ map (row ds) (upto (product ds)) → (c d : ℕ) → flat_map (λ i. map (λ is. i ∷ is) (rows ds)) (upto d) ≡ map (row (c ∷ ds)) (upto (d * product ds))
blocks ds h c zero = let e : 0 * product ds ≡ 0 = omega arith in sym (ap (λ k. map (row (c ∷ ds)) (upto k)) e)
blocks ds h c (suc d) =
    let size : suc d * product ds ≡ d * product ds + product ds = omega arith in
    let f : ℕ → List (List ℕ) = λ i. map (λ is. i ∷ is) (rows ds) in
    let last : f d ≡ map (λ j. row (c ∷ ds) (d * product ds + j)) (upto (product ds)) =
    ap (map (λ is. d ∷ is)) h ∙ map_twice (λ is. d ∷ is) (row ds) (upto (product ds)) ∙ map_upto (λ j. d ∷ row ds j) (λ j. row (c ∷ ds) (d * product ds + j)) (product ds) (λ j l. sym (in_block ds d j l)) in
    let right : map (row (c ∷ ds)) (upto (suc d * product ds)) ≡ map (row (c ∷ ds)) (upto (d * product ds)) ++ map (λ j. row (c ∷ ds) (d * product ds + j)) (upto (product ds)) =
    ap (λ k. map (row (c ∷ ds)) (upto k)) size ∙ ap (map (row (c ∷ ds))) (upto-add (d * product ds) (product ds)) ∙ map-append (row (c ∷ ds)) (upto (d * product ds)) (map (λ k. d * product ds + k) (upto (product ds)))
    ∙ ap (λ xs. map (row (c ∷ ds)) (upto (d * product ds)) ++ xs) (map_twice (row (c ∷ ds)) (λ k. d * product ds + k) (upto (product ds))) in
    flat_map-append f (upto d) (d ∷ []) ∙ ap (λ xs. flat_map f (upto d) ++ xs) (append-nil (f d)) ∙ ap (λ xs. xs ++ f d) (blocks ds h c d) ∙ ap (λ xs. map (row (c ∷ ds)) (upto (d * product ds)) ++ xs) last ∙ sym right

pub rows_by_number : (ds : List ℕ) → rows ds ≡ map (row ds) (upto (product ds))
rows_by_number [] = refl
rows_by_number (d ∷ ds) = blocks ds (rows_by_number ds) d d
