-- The value of a run of digits, digit by digit.
use Rattle.std.specs.Char.{digit_value}
use Rattle.std.specs.List.{list_all}
use Rattle.std.specs.Option.{unwrap_or}
use Rattle.std.specs.Str.Parse.{digits_value_after}
use Rattle.std.proofs.Common.{◌≡◌, ℕ, ◌+◌, ◌*◌, ◌^◌, ◌<◌, ◌≤◌, Bool, true, false, ◌&&◌, ◌||◌, ◌==◌, nat_lt, cond, is_some, Option, Some, None, List, [], ◌∷◌, length, drop, get_or, suc, refl, sym, ap, ◌∙◌, arith, drop-cons, mul-le-mul_left, le-ltb, ltb-false, lt-ltb, ne_eqb, pow_pos}
use Rattle.std.proofs.Math.Bool.{and-false}
use Rattle.std.proofs.lemmas.Bool.Decides.{nat_tests}
use Rattle.std.proofs.lemmas.List.{drop_all}
use Rattle.rdl_lexer.specs.Numbers.{underscore, digits_of, value_of}

-- what the digits so far and the rest of the run mean
abbrev pub value_behind : (bits base : ℕ) → Option ℕ → List ℕ → Option ℕ
value_behind bits base v [] = v
value_behind bits base v (b ∷ bs) =
    cond (b == underscore) (value_behind bits base v bs)
    (cond (nat_lt (digit_value b) base && nat_lt (unwrap_or v 0 * base + digit_value b) (2 ^ bits)) (value_behind bits base (Some (unwrap_or v 0 * base + digit_value b)) bs) None)

-- the same by the digits alone
abbrev ends : (bits base : ℕ) → Option ℕ → List ℕ → Option ℕ
ends bits base v ds =
    cond ((is_some v || nat_lt 0 (length ds)) && (list_all (λ b. nat_lt (digit_value b) base) ds && nat_lt (digits_value_after base (unwrap_or v 0) ds) (2 ^ bits)))
    (Some (digits_value_after base (unwrap_or v 0) ds)) None

grows : (base n : ℕ) (ds : List ℕ) → 1 ≤ base → n ≤ digits_value_after base n ds
grows base n [] h = omega arith
grows base n (d ∷ ds) h = let one : n * 1 ≤ n * base = mul-le-mul_left n h in omega (arith, one, grows base (n * base + digit_value d) ds h)

no_value : (a b : Bool) (v : Option ℕ) → cond (a && (b && false)) v None ≡ None
no_value true true v = refl
no_value true false v = refl
no_value false b v = refl

no_digit : (a : Bool) (v : Option ℕ) → cond (a && false) v None ≡ None
no_digit true v = refl
no_digit false v = refl

some_digits : (v : Option ℕ) (n : ℕ) → (is_some v || nat_lt 0 (suc n)) ≡ true
some_digits None n = grind (arith, nat_tests)
some_digits (Some m) n = refl

behind_digit : (bits base : ℕ) (v : Option ℕ) (b : ℕ) (bs : List ℕ) (small fits : Bool) → 1 ≤ base → nat_lt (digit_value b) base ≡ small → nat_lt (unwrap_or v 0 * base + digit_value b) (2 ^ bits) ≡ fits
    → (fits ≡ true → value_behind bits base (Some (unwrap_or v 0 * base + digit_value b)) bs ≡ ends bits base (Some (unwrap_or v 0 * base + digit_value b)) (digits_of bs))
    → cond (small && fits) (value_behind bits base (Some (unwrap_or v 0 * base + digit_value b)) bs) None ≡ ends bits base v (b ∷ digits_of bs)
behind_digit bits base v b bs false fits h e f ih = rw e (sym (no_digit _ _))
behind_digit bits base v b bs true false h e f ih =
    let next = unwrap_or v 0 * base + digit_value b in
    let over : nat_lt (digits_value_after base next (digits_of bs)) (2 ^ bits) ≡ false = le-ltb _ _ (omega (arith, ltb-false _ _ f, grows base next (digits_of bs) h)) in
    rw (e, over) (sym (no_value _ _ _))
behind_digit bits base v b bs true true h e f ih = rw (e, some_digits) (ih refl)

behind_byte : (bits base : ℕ) (v : Option ℕ) (b : ℕ) (bs : List ℕ) (skipped : Bool) → 1 ≤ base → (b == underscore) ≡ skipped
    → ((w : Option ℕ) → unwrap_or w 0 < 2 ^ bits → value_behind bits base w bs ≡ ends bits base w (digits_of bs)) → unwrap_or v 0 < 2 ^ bits
    → value_behind bits base v (b ∷ bs) ≡ ends bits base v (digits_of (b ∷ bs))
behind_byte bits base v b bs true h e ih s = rw e (ih v s)
behind_byte bits base v b bs false h e ih s = rw e (behind_digit bits base v b bs _ _ h refl refl (λ fits. ih _ (grind (arith, nat_tests, fits))))

pub value_ends : (bits base : ℕ) (v : Option ℕ) (run : List ℕ) → 1 ≤ base → unwrap_or v 0 < 2 ^ bits → value_behind bits base v run ≡ ends bits base v (digits_of run)
value_ends bits base None [] h s = refl
value_ends bits base (Some n) [] h s = rw (lt-ltb n (2 ^ bits) s) refl
value_ends bits base v (b ∷ bs) h s = behind_byte bits base v b bs _ h refl (λ w. value_ends bits base w bs h) s

pub value_is : (bits base : ℕ) (run : List ℕ) → 1 ≤ base → value_behind bits base None run ≡ value_of bits base run
unfolding value_of
value_is bits base run h = value_ends bits base None run h (pow_pos bits)

-- Where the run ends at a byte that is no digit of the base, or with which the value grows too large, it has no value.

stops_at : (bits base : ℕ) (v : Option ℕ) (run : List ℕ) (i b : ℕ) → 1 ≤ base → i < length run → (get_or run i 0 ≡ underscore → ⊥) → b ≡ get_or run i 0
    → (nat_lt (digit_value b) base && nat_lt (unwrap_or v 0 * base + digit_value b) (2 ^ bits)) ≡ false
    → value_behind bits base v (drop i run) ≡ value_behind bits base None run → None ≡ value_of bits base run
stops_at bits base v run i b h lt ne e bad so_far =
    let here : value_behind bits base v (drop i run) ≡ None = rw (drop-cons run i 0 lt, ne_eqb _ _ ne, ← e, bad) refl in
    sym here ∙ (so_far ∙ value_is bits base run h)

pub no_digit_at : (bits base : ℕ) (v : Option ℕ) (run : List ℕ) (i b : ℕ) → 1 ≤ base → i < length run → (get_or run i 0 ≡ underscore → ⊥) → b ≡ get_or run i 0
    → (digit_value b < base → ⊥) → value_behind bits base v (drop i run) ≡ value_behind bits base None run → None ≡ value_of bits base run
no_digit_at bits base v run i b h lt ne e bad so_far = stops_at bits base v run i b h lt ne e (rw (le-ltb (digit_value b) base (omega (arith, bad))) refl) so_far

pub too_large_at : (bits base : ℕ) (v : Option ℕ) (run : List ℕ) (i b n d : ℕ) → 1 ≤ base → i < length run → (get_or run i 0 ≡ underscore → ⊥) → b ≡ get_or run i 0
    → n ≡ unwrap_or v 0 → d ≡ digit_value b → (n * base + d < 2 ^ bits → ⊥) → value_behind bits base v (drop i run) ≡ value_behind bits base None run → None ≡ value_of bits base run
too_large_at bits base v run i b n d h lt ne e en ed bad so_far =
    let large : 2 ^ bits ≤ unwrap_or v 0 * base + digit_value b = rw (← en, ← ed) (omega (arith, bad)) in
    stops_at bits base v run i b h lt ne e (rw (le-ltb _ _ large) (and-false _)) so_far

pub ends_with : (bits base : ℕ) (v : Option ℕ) (run : List ℕ) (i : ℕ) → 1 ≤ base → length run ≤ i → value_behind bits base v (drop i run) ≡ value_behind bits base None run → v ≡ value_of bits base run
ends_with bits base v run i h le so_far = sym (ap (value_behind bits base v) (drop_all i run le)) ∙ (so_far ∙ value_is bits base run h)
