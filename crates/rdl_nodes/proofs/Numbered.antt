-- The indices of an element and its number give one another.
use Rattle.std.proofs.Common.{◌≡◌, ◌∙◌, ℕ, zero, suc, ◌+◌, ◌*◌, ◌/◌, ◌%◌, ◌<◌, List, [], ◌∷◌, refl, ap, arith, mod-eq_of_lt}
use Rattle.std.proofs.Math.Nat.{mul-add-mod_self_right}
use Rattle.std.proofs.lemmas.Nat.{div-mul-add, div-add-mod', div_below, mod_below}
use Rattle.plain_lemmas.proofs.Numbers.{below_times-positive as positive}
use Rattle.rdl_values.specs.Rows.{product, row}
use Rattle.rdl_nodes.specs.Numbers.{AreWithin, number_in}

pub within : (dims index : List ℕ) → AreWithin dims index → number_in dims index < product dims
within [] [] h = omega arith
within [] (i ∷ is) h = absurd h
within (d ∷ ds) [] h = absurd h
within (d ∷ ds) (i ∷ is) h = step d i (product ds) (number_in ds is) h.0 (within ds is h.1)
  where
    step : (d i p n : ℕ) → i < d → n < p → i * p + n < d * p
    step d i p n l m = grind arith

pub found : (dims index : List ℕ) → AreWithin dims index → row dims (number_in dims index) ≡ index
found [] [] h = refl
found [] (i ∷ is) h = absurd h
found (d ∷ ds) [] h = absurd h
found (d ∷ ds) (i ∷ is) h =
    let l = within ds is h.1 in
    let quotient : (i * product ds + number_in ds is) / product ds ≡ i = div-mul-add i (product ds) (number_in ds is) l in
    let rest : (i * product ds + number_in ds is) % product ds ≡ number_in ds is = mul-add-mod_self_right i (product ds) (number_in ds is) ∙ mod-eq_of_lt l in
    ap (λ q. q ∷ row ds ((i * product ds + number_in ds is) % product ds)) quotient ∙ ap (λ r. i ∷ row ds r) rest ∙ ap (λ is. i ∷ is) (found ds is h.1)

-- The number of a row.

pub once : (dims : List ℕ) (k : ℕ) → k < product dims → number_in dims (row dims k) ≡ k
once [] zero l = refl
once [] (suc k) l = absurd (omega (arith, l))
once (d ∷ ds) k l =
    let p = positive d (product ds) k l in
    let rest = once ds (k % product ds) (mod_below k (product ds) p) in
    ap (λ r. k / product ds * product ds + r) rest ∙ div-add-mod' k (product ds)

pub rows : (dims : List ℕ) (k : ℕ) → k < product dims → AreWithin dims (row dims k)
rows [] k l = tt
rows (d ∷ ds) k l =
    let p = positive d (product ds) k l in
    (div_below k (product ds) d p l, rows ds (k % product ds) (mod_below k (product ds) p))
