-- Counting in one direction, where the other isn't at work.
use Rattle.std.proofs.Common.{◌≡◌, ◌∙◌, ℕ, ◌+◌, ◌-◌, ◌%◌, ◌^◌, ◌<◌, true, if◌then◌else◌, nat_lt, Option, None, Some, unwrap_or, add-zero, ap, arith}
use Rattle.std.proofs.Math.Nat.{add-mod_right, mod-eq_of_lt}
use Rattle.rb_model.specs.Effects.{counted, is_under}
use Rattle.plain_lemmas.proofs.Bools.{and-both_true}
use Rattle.plain_lemmas.proofs.Numbers.{below-nat_lt}

pub stops_up : (w x u d high : ℕ) (low : Option ℕ) → 0 < u → high + d < x + u → counted w x u d (Some high) low ≡ high
stops_up w x u d high low some past =
    ap (λ c. if c then high else (if is_under x u d low then unwrap_or low 0 else (x + u + 2 ^ w - d) % 2 ^ w)) (and-both_true (nat_lt 0 u) (nat_lt (high + d) (x + u)) (below-nat_lt 0 u some) (below-nat_lt (high + d) (x + u) past))

whole : (w n : ℕ) → (n + 2 ^ w - 0) % 2 ^ w ≡ n % 2 ^ w
whole w n = let less : n + 2 ^ w - 0 ≡ n + 2 ^ w = omega arith in ap (λ m. m % 2 ^ w) less ∙ add-mod_right n (2 ^ w)

pub wraps_up : (w x u : ℕ) (low : Option ℕ) → counted w x u 0 None low ≡ (x + u) % 2 ^ w
wraps_up w x u None = whole w (x + u)
wraps_up w x u (Some l) = whole w (x + u)

under : (x d low : ℕ) → 0 < d → x < low + d → is_under x 0 d (Some low) ≡ true
under x d low some past = let at : x + 0 < low + d = omega arith in and-both_true (nat_lt 0 d) (nat_lt (x + 0) (low + d)) (below-nat_lt 0 d some) (below-nat_lt (x + 0) (low + d) at)

pub stops_down : (w x d low : ℕ) (high : Option ℕ) → 0 < d → x < low + d → counted w x 0 d high (Some low) ≡ low
stops_down w x d low None some past = ap (λ c. if c then low else (x + 0 + 2 ^ w - d) % 2 ^ w) (under x d low some past)
stops_down w x d low (Some h) some past = ap (λ c. if c then low else (x + 0 + 2 ^ w - d) % 2 ^ w) (under x d low some past)

pub wraps_down : (w x d : ℕ) (high : Option ℕ) → counted w x 0 d high None ≡ (x + 2 ^ w - d) % 2 ^ w
wraps_down w x d None = ap (λ n. (n + 2 ^ w - d) % 2 ^ w) (add-zero x)
wraps_down w x d (Some h) = ap (λ n. (n + 2 ^ w - d) % 2 ^ w) (add-zero x)

same : (w x : ℕ) → x < 2 ^ w → (x + 0 + 2 ^ w - 0) % 2 ^ w ≡ x
same w x h = whole w (x + 0) ∙ ap (λ n. n % 2 ^ w) (add-zero x) ∙ mod-eq_of_lt h

-- a count of nothing
pub counts_none : (w x : ℕ) (high low : Option ℕ) → x < 2 ^ w → counted w x 0 0 high low ≡ x
counts_none w x None None h = same w x h
counts_none w x None (Some l) h = same w x h
counts_none w x (Some m) None h = same w x h
counts_none w x (Some m) (Some l) h = same w x h
