-- Numbers written over values.
use Rattle.std.proofs.Common.{◌≡◌, ℕ, suc, ◌+◌, ◌<◌, ◌≤◌, List, [], ◌∷◌, ◌++◌, length, take, drop, get_or, ap, sym, ◌∙◌, append_assoc, arith}
use Rattle.std.proofs.Math.ListN.{set}
use Rattle.std.proofs.Math.Seq.{drop-cons}
use Rattle.std.proofs.lemmas.List.{take_more, length-take}

set-behind : (xs ys : List ℕ) (j x : ℕ) → set (xs ++ ys) (length xs + j) x ≡ xs ++ set ys j x
set-behind [] ys j x = ap (λ i. set ys i x) (omega arith)
set-behind (y ∷ xs) ys j x = let more : length (y ∷ xs) + j ≡ suc (length xs + j) = omega arith in rw more (ap (λ l. y ∷ l) (set-behind xs ys j x))

-- one more number over the values from a place on
pub put_more : (old ns : List ℕ) (at k : ℕ) → k < length ns → at + length ns ≤ length old
    → set (take at old ++ (take k ns ++ drop (at + k) old)) (at + k) (get_or ns k 0) ≡ take at old ++ (take (k + 1) ns ++ drop (at + (k + 1)) old)
put_more old ns at k l fits =
    let x = get_or ns k 0 in
    let front : length (take at old) ≡ at = omega (arith, length-take at old, fits) in
    let done : length (take k ns) ≡ k = omega (arith, length-take k ns, l) in
    let rest : drop (at + k) old ≡ get_or old (at + k) 0 ∷ drop (suc (at + k)) old = drop-cons old (at + k) 0 (omega (arith, l, fits)) in
    let here : k + 0 ≡ k = omega arith in
    let next : suc (at + k) ≡ at + (k + 1) = omega arith in
    let inner : set (take k ns ++ drop (at + k) old) k x ≡ take (k + 1) ns ++ drop (at + (k + 1)) old
    = ap (λ d. set (take k ns ++ d) k x) rest
    ∙ (ap (λ i. set (take k ns ++ get_or old (at + k) 0 ∷ drop (suc (at + k)) old) i x) (sym here ∙ ap (λ n. n + 0) (sym done))
    ∙ (set-behind (take k ns) (get_or old (at + k) 0 ∷ drop (suc (at + k)) old) 0 x
    ∙ (sym (append_assoc (take k ns) (x ∷ []) (drop (suc (at + k)) old))
    ∙ (ap (λ t. t ++ drop (suc (at + k)) old) (sym (take_more ns k 0 l)) ∙ ap (λ i. take (k + 1) ns ++ drop i old) next)))) in
    ap (λ i. set (take at old ++ (take k ns ++ drop (at + k) old)) (i + k) x) (sym front)
    ∙ (set-behind (take at old) (take k ns ++ drop (at + k) old) k x ∙ ap (λ t. take at old ++ t) inner)
