-- Fields of a number: n bits from the bit lo on.
use Rattle.std.proofs.Common.{◌≡◌, ◌⊎◌, ℕ, ◌+◌, ◌-◌, ◌*◌, ◌/◌, ◌%◌, ◌^◌, ◌<◌, ◌≤◌, bit_and, bit_or, lit<, add-zero, sym, ap, subst, ◌∙◌, inl, inr, arith}
use Rattle.std.specs.Int.{bit_at}
use Rattle.std.specs.Int.Bits.{or_zero_r}
use Rattle.std.proofs.Math.Nat.{mod-eq_of_lt, mod-lt, div-lt_iff_lt-mul, mul-le-mul_right, pow-le-pow_right}
use Rattle.std.proofs.lemmas.Nat.{div-mul-add, mod-mul-add, pow_pos, pow-add, shr-shr, shr_split, mod-pow-add, and_comm, or_block, or_shifted, and-not}
use Rattle.std.proofs.lemmas.Nat.Bits.{bit_at_cat_low, bit_at_cat_high, and_high}
use Rattle.rb_base.specs.Bits.{part, put}

-- the bits above the field, the field's, and those below it
abbrev joined : (v lo n x : ℕ) → ℕ
joined v lo n x = (v / 2 ^ (n + lo) * 2 ^ n + x) * 2 ^ lo + v % 2 ^ lo

-- the same in one sum
joined-sum : (v lo n x : ℕ) → joined v lo n x ≡ v / 2 ^ (n + lo) * 2 ^ (n + lo) + x * 2 ^ lo + v % 2 ^ lo
joined-sum v lo n x = rw (pow-add 2 n lo) (regroup (v / (2 ^ n * 2 ^ lo)) (2 ^ n) (2 ^ lo) x (v % 2 ^ lo))
  where
    regroup : (h a b y r : ℕ) → (h * a + y) * b + r ≡ h * (a * b) + y * b + r
    regroup h a b y r = omega arith

put-joined : (v hi lo x : ℕ) → lo ≤ hi → put v hi lo x ≡ joined v lo (hi - lo + 1) x
put-joined v hi lo x h =
    let top : hi + 1 ≡ hi - lo + 1 + lo = omega arith in
    ap (λ m. v / 2 ^ m * 2 ^ m + x * 2 ^ lo + v % 2 ^ lo) top ∙ sym (joined-sum v lo (hi - lo + 1) x)

-- what is in the field
joined-field : (v lo n x : ℕ) → x < 2 ^ n → joined v lo n x / 2 ^ lo % 2 ^ n ≡ x
joined-field v lo n x fits =
    ap (λ q. q % 2 ^ n) (div-mul-add (v / 2 ^ (n + lo) * 2 ^ n + x) (2 ^ lo) (v % 2 ^ lo) (mod-lt v (pow_pos lo))) ∙ mod-mul-add (v / 2 ^ (n + lo)) (2 ^ n) x fits

-- the bits of a number below and above a place
bit_at-low : (v m k : ℕ) → k < m → bit_at v k ≡ bit_at (v % 2 ^ m) k
bit_at-low v m k below = ap (λ u. bit_at u k) (sym (shr_split v m)) ∙ bit_at_cat_low (v / 2 ^ m) m (v % 2 ^ m) k below

bit_at-high : (v m k : ℕ) → m ≤ k → bit_at v k ≡ bit_at (v / 2 ^ m) (k - m)
bit_at-high v m k above = ap (λ u. bit_at u k) (sym (shr_split v m)) ∙ bit_at_cat_high (v / 2 ^ m) m (v % 2 ^ m) k (mod-lt v (pow_pos m)) above

joined-others : (v lo n x k : ℕ) → x < 2 ^ n → (k < lo) ⊎ (n + lo ≤ k) → bit_at (joined v lo n x) k ≡ bit_at v k
joined-others v lo n x k fits (inl below) =
    bit_at_cat_low (v / 2 ^ (n + lo) * 2 ^ n + x) lo (v % 2 ^ lo) k below ∙ sym (bit_at-low v lo k below)
joined-others v lo n x k fits (inr above) =
    let place : k - lo - n ≡ k - (n + lo) = omega arith in
    bit_at_cat_high (v / 2 ^ (n + lo) * 2 ^ n + x) lo (v % 2 ^ lo) k (mod-lt v (pow_pos lo)) (omega arith)
    ∙ bit_at_cat_high (v / 2 ^ (n + lo)) n x (k - lo) fits (omega arith)
    ∙ ap (bit_at (v / 2 ^ (n + lo))) place
    ∙ sym (bit_at-high v (n + lo) k above)

split_power : (w m : ℕ) → m ≤ w → 2 ^ w ≡ 2 ^ (w - m) * 2 ^ m
split_power w m inside =
    let whole : w ≡ w - m + m = omega arith in
    ap (λ k. 2 ^ k) whole ∙ pow-add 2 (w - m) m

-- the field and what is below it
low_below : (lo n x r : ℕ) → x < 2 ^ n → r < 2 ^ lo → x * 2 ^ lo + r < 2 ^ (n + lo)
low_below lo n x r fits small = rw (pow-add 2 n lo) (omega (arith, mul-le-mul_right (2 ^ lo) fits))

joined-below : (w v lo n x : ℕ) → n + lo ≤ w → v < 2 ^ w → x < 2 ^ n → joined v lo n x < 2 ^ w
joined-below w v lo n x inside small fits =
    let m : ℕ = n + lo in
    let split : 2 ^ w ≡ 2 ^ (w - m) * 2 ^ m = split_power w m inside in
    let high : v / 2 ^ m < 2 ^ (w - m) = (div-lt_iff_lt-mul (pow_pos m)).1 (rw (← split) small) in
    let low = low_below lo n x (v % 2 ^ lo) fits (mod-lt v (pow_pos lo)) in
    let whole : v / 2 ^ m * 2 ^ m + 2 ^ m ≤ 2 ^ w = rw split (omega (arith, mul-le-mul_right (2 ^ m) high)) in
    rw (joined-sum v lo n x) (omega arith)

one_more : (t b : ℕ) → (t + 1) * b ≡ t * b + b
one_more t b = omega arith

less_one : (a b : ℕ) → 0 < a → (a - 1) * b ≡ a * b - b
less_one a b some =
    let whole : a ≡ a - 1 + 1 = omega arith in
    let grown : a * b ≡ (a - 1) * b + b = ap (λ k. k * b) whole ∙ one_more (a - 1) b in
    omega arith

mask_value : (w lo n : ℕ) → n + lo ≤ w → (2 ^ n - 1) * 2 ^ lo % 2 ^ w ≡ 2 ^ (n + lo) - 2 ^ lo
mask_value w lo n inside =
    let product : (2 ^ n - 1) * 2 ^ lo ≡ 2 ^ (n + lo) - 2 ^ lo = rw (pow-add 2 n lo) (less_one (2 ^ n) (2 ^ lo) (pow_pos n)) in
    let in_range : (2 ^ n - 1) * 2 ^ lo < 2 ^ w = omega (arith, product, pow_pos lo, pow_pos (n + lo), pow-le-pow_right {n = 2} (lit< tt) inside) in
    mod-eq_of_lt in_range ∙ product

-- what the mask of the field leaves
masked : (w v lo n : ℕ) → n + lo ≤ w → v < 2 ^ w → bit_and v (2 ^ w - 1 - (2 ^ n - 1) * 2 ^ lo % 2 ^ w) ≡ v / 2 ^ (n + lo) * 2 ^ n * 2 ^ lo + v % 2 ^ lo
masked w v lo n inside small =
    let field : ℕ = v / 2 ^ lo % 2 ^ n * 2 ^ lo in
    let mask : (2 ^ n - 1) * 2 ^ lo % 2 ^ w ≡ 2 ^ (n + lo) - 2 ^ lo = mask_value w lo n inside in
    let in_range : 2 ^ (n + lo) - 2 ^ lo < 2 ^ w = omega (arith, pow_pos lo, pow-le-pow_right {n = 2} (lit< tt) inside) in
    let both : bit_and v (2 ^ w - 1 - (2 ^ (n + lo) - 2 ^ lo)) + field ≡ v =
    (λ i. and_comm v (2 ^ w - 1 - (2 ^ (n + lo) - 2 ^ lo)) i + sym (and_comm (2 ^ (n + lo) - 2 ^ lo) v ∙ and_high v n lo) i) ∙ and-not w (2 ^ (n + lo) - 2 ^ lo) v in_range small in
    let power : v / 2 ^ (n + lo) * 2 ^ (n + lo) ≡ v / 2 ^ (n + lo) * 2 ^ n * 2 ^ lo = rw (pow-add 2 n lo) (omega arith) in
    let parts : v / 2 ^ (n + lo) * 2 ^ (n + lo) + (field + v % 2 ^ lo) ≡ v = ap (λ low. v / 2 ^ (n + lo) * 2 ^ (n + lo) + low) (sym (mod-pow-add v n lo)) ∙ shr_split v (n + lo) in
    rw mask (omega arith)

-- what the code makes
masked-joined : (w v lo n x : ℕ) → n + lo ≤ w → v < 2 ^ w → x < 2 ^ n
    → bit_or (bit_and v (2 ^ w - 1 - (2 ^ n - 1) * 2 ^ lo % 2 ^ w)) (x * 2 ^ lo % 2 ^ w) ≡ joined v lo n x
masked-joined w v lo n x inside small fits =
    let in_range : x * 2 ^ lo < 2 ^ w = omega (arith, low_below lo n x 0 fits (pow_pos lo), pow-le-pow_right {n = 2} (lit< tt) inside) in
    let shifted : x * 2 ^ lo % 2 ^ w ≡ x * 2 ^ lo + 0 = mod-eq_of_lt in_range ∙ sym (add-zero (x * 2 ^ lo)) in
    (λ i. bit_or (masked w v lo n inside small i) (shifted i))
    ∙ or_block lo (v / 2 ^ (n + lo) * 2 ^ n) x (v % 2 ^ lo) 0 (mod-lt v (pow_pos lo)) (pow_pos lo)
    ∙ (λ i. or_shifted (v / 2 ^ (n + lo)) n x fits i * 2 ^ lo + or_zero_r (v % 2 ^ lo) i)

-- what the code makes, at its 128 bits
pub masked-put : (v hi lo x : ℕ) → lo ≤ hi → hi < 128 → v < 2 ^ 128 → x < 2 ^ (hi - lo + 1)
    → bit_or (bit_and v (2 ^ 128 - 1 - (2 ^ (hi - lo + 1) - 1) * 2 ^ lo % 2 ^ 128)) (x * 2 ^ lo % 2 ^ 128) ≡ put v hi lo x
masked-put v hi lo x ordered inside small fits =
    masked-joined 128 v lo (hi - lo + 1) x (omega arith) small fits ∙ sym (put-joined v hi lo x ordered)

pub part-put : (v hi lo x : ℕ) → lo ≤ hi → x < 2 ^ (hi - lo + 1) → part (put v hi lo x) hi lo ≡ x
part-put v hi lo x ordered fits = ap (λ u. part u hi lo) (put-joined v hi lo x ordered) ∙ joined-field v lo (hi - lo + 1) x fits

outside : (hi lo k : ℕ) → lo ≤ hi → (k < lo) ⊎ (hi < k) → (k < lo) ⊎ (hi - lo + 1 + lo ≤ k)
outside hi lo k ordered (inl below) = inl below
outside hi lo k ordered (inr above) = inr (omega arith)

pub bit_at-put_other : (v hi lo x k : ℕ) → lo ≤ hi → x < 2 ^ (hi - lo + 1) → (k < lo) ⊎ (hi < k) → bit_at (put v hi lo x) k ≡ bit_at v k
bit_at-put_other v hi lo x k ordered fits other =
    ap (λ u. bit_at u k) (put-joined v hi lo x ordered) ∙ joined-others v lo (hi - lo + 1) x k fits (outside hi lo k ordered other)

pub put-below : (w v hi lo x : ℕ) → lo ≤ hi → hi < w → v < 2 ^ w → x < 2 ^ (hi - lo + 1) → put v hi lo x < 2 ^ w
put-below w v hi lo x ordered inside small fits =
    let P : ℕ → Type 0 = λ u. u < 2 ^ w in
    subst P (sym (put-joined v hi lo x ordered)) (joined-below w v lo (hi - lo + 1) x (omega arith) small fits)

pub bit_at-part : (v hi lo k : ℕ) → lo ≤ hi → k ≤ hi - lo → bit_at (part v hi lo) k ≡ bit_at v (lo + k)
bit_at-part v hi lo k ordered inside = sym (bit_at-low (v / 2 ^ lo) (hi - lo + 1) k (omega arith)) ∙ ap (λ u. u % 2) (shr-shr v lo k)
