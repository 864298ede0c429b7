-- Values at places, and numbers written over them.
use Rattle.std.proofs.Common.{◌≡◌, ℕ, zero, suc, ◌+◌, ◌<◌, ◌≤◌, Bool, true, false, ◌&&◌, nat_lt, List, [], ◌∷◌, ◌++◌, length, take, drop, get_or, refl, ap, sym, ◌∙◌, append_assoc, arith}
use Rattle.std.specs.List.{list_all}
use Rattle.std.proofs.Math.ListN.{set}
use Rattle.std.proofs.Math.Seq.{drop-cons, take-append-add}
use Rattle.std.proofs.lemmas.List.{take_more, length-take, take-append-le, take_all}
use Rattle.cyc_sim.specs.Operations.{are_places}
use Rattle.plain_lemmas.proofs.Numbers.{less as below_test}

-- each of some places is below their limit
pub place_below : (limit : ℕ) (ps : List ℕ) (k : ℕ) → are_places limit ps ≡ true → k < length ps → get_or ps k 0 < limit
unfolding are_places
place_below limit [] k h l = absurd (omega (arith, l))
place_below limit (p ∷ ps) k h l = go (nat_lt p limit) (list_all (λ q. nat_lt q limit) ps) (below_test p limit) (λ j e m. place_below limit ps j e m) h k l
  where
    go : (a b : Bool) → (a ≡ true → p < limit) → ((j : ℕ) → b ≡ true → j < length ps → get_or ps j 0 < limit) → (a && b) ≡ true → (k : ℕ) → k < suc (length ps) → get_or (p ∷ ps) k 0 < limit
    go true b here there h zero l = here refl
    go true b here there h (suc j) l = there j h (omega (arith, l))
    go false b here there h j l = cc h

drop-behind : (xs ys : List ℕ) → drop (length xs) (xs ++ ys) ≡ ys
drop-behind [] ys = refl
drop-behind (x ∷ xs) ys = drop-behind xs ys

-- the first places once the pins are written
pub first_places : (values pins put : List ℕ) (inputs count : ℕ) → length pins ≡ inputs → put ≡ take 0 values ++ (pins ++ drop (0 + length pins) values)
    → take (inputs + count) put ≡ pins ++ take count (drop inputs values)
first_places values pins put inputs count long is =
    let same : 0 + length pins ≡ inputs = omega (arith, long) in
    ap (take (inputs + count)) is
    ∙ (ap (λ n. take (n + count) (pins ++ drop (0 + length pins) values)) (sym long)
    ∙ (take-append-add pins (drop (0 + length pins) values) count ∙ ap (λ n. pins ++ take count (drop n values)) same))

-- the contents once they have moved
pub moved_places : (values moved put rest : List ℕ) (inputs count : ℕ) → length moved ≡ count → inputs ≤ length values → put ≡ take inputs values ++ (moved ++ rest) → take count (drop inputs put) ≡ moved
moved_places values moved put rest inputs count long low is =
    let front : length (take inputs values) ≡ inputs = omega (arith, length-take inputs values, low) in
    let part : drop inputs put ≡ moved ++ rest = ap (drop inputs) is ∙ (ap (λ n. drop n (take inputs values ++ (moved ++ rest))) (sym front) ∙ drop-behind (take inputs values) (moved ++ rest)) in
    ap (take count) part ∙ (take-append-le count moved rest (omega (arith, long)) ∙ take_all count moved (omega (arith, long)))
