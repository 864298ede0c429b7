-- The number that a word gives.
use Rattle.std.proofs.Common.{◌≡◌, ◌∙◌, ℕ, ◌<◌, ◌≤◌, ◌^◌, Bool, true, false, ◌&&◌, cond, bytes_eq, nat_le, List, None, Some, Result, Ok, Err, decimal, refl, sym, ap, subst, arith}
use Rattle.std.specs.Str.Parse.{ParsesUnsigned, digits_value}
use Rattle.std.proofs.lemmas.Bool.{le-leb, leb-true}
use Rattle.std.proofs.lemmas.Fmt.{decimal_is_IsNumeral, parse-decimal}
use Rattle.std.proofs.lemmas.Slice.Eq.{bytes_eq-Decides}
use Rattle.plain_lemmas.proofs.Bools.{and-both as both}
use Rattle.command_line.specs.Found.{count_in, gives}

-- the word is the decimal of the number, which is 1 to 8,192
pub record IsCount (word : List ℕ) (n : ℕ) : Type 0 where
  pub spelled : word ≡ decimal n
  pub some : 1 ≤ n
  pub few : n ≤ 8192

pub count-gives : (word : List ℕ) (n : ℕ) → IsCount word n → gives word n ≡ true
count-gives word n h =
    ap (λ t. (t && nat_le n 8192) && bytes_eq (decimal n) word) (le-leb 1 n h.some) ∙ ap (λ t. t && bytes_eq (decimal n) word) (le-leb n 8192 h.few) ∙ (bytes_eq-Decides (decimal n) word).1 (sym h.spelled)

pub gives-count : (word : List ℕ) (n : ℕ) → gives word n ≡ true → IsCount word n
gives-count word n e =
    let p = both (nat_le 1 n && nat_le n 8192) (bytes_eq (decimal n) word) e in
    let q = both (nat_le 1 n) (nat_le n 8192) p.0 in
    record { spelled = sym ((bytes_eq-Decides (decimal n) word).0 p.1); some = leb-true 1 n q.0; few = leb-true n 8192 q.1 }

fits : (n : ℕ) → n ≤ 8192 → n < 2 ^ 64
fits n h = omega (arith, h)

-- the digits of its decimal write a number
value-of : (word : List ℕ) (n : ℕ) → IsCount word n → digits_value 10 word ≡ n
value-of word n h = ap (λ w. digits_value 10 w) h.spelled ∙ (decimal_is_IsNumeral n (fits n h.few)).1

-- the word of a number gives it
pub count-found : (word : List ℕ) (n : ℕ) → IsCount word n → count_in word ≡ Some n
count-found word n h = ap (λ v. cond (gives word v) (Some v) None) (value-of word n h) ∙ ap (λ t. cond t (Some n) None) (count-gives word n h)

-- a word that gives a number is that number's
pub found-count : (word : List ℕ) (n : ℕ) → count_in word ≡ Some n → IsCount word n
found-count word n e = go (gives word (digits_value 10 word)) refl e
  where
    go : (b : Bool) → gives word (digits_value 10 word) ≡ b → cond b (Some (digits_value 10 word)) None ≡ Some n → IsCount word n
    go true q f = let same : digits_value 10 word ≡ n = cc f in subst (IsCount word) same (gives-count word (digits_value 10 word) q)
    go false q f = cc f

-- a word that gives none, where every number that is read of it is another
none-found : (word : List ℕ) → ((n : ℕ) → IsCount word n → ⊥) → count_in word ≡ None
none-found word never = go (gives word (digits_value 10 word)) refl
  where
    go : (b : Bool) → gives word (digits_value 10 word) ≡ b → cond b (Some (digits_value 10 word)) None ≡ None
    go true q = absurd (never (digits_value 10 word) (gives-count word (digits_value 10 word) q))
    go false q = refl

read : {E : Type 0} (word : List ℕ) (n : ℕ) (r : Result ℕ E) → ParsesUnsigned 32 10 word r → IsCount word n → r ≡ Ok n
read word n r p h = parse-decimal 32 n word r (let few = h.few in omega (arith, few)) (fits n h.few) h.spelled p

pub count-unread : {E : Type 0} (word : List ℕ) (x : E) → ParsesUnsigned 32 10 word (Err x) → count_in word ≡ None
count-unread word x p = none-found word (λ n h. let bad : Err x ≡ Ok n = read word n (Err x) p h in cc bad)

pub count-other : (E : Type 0) (word : List ℕ) (m : ℕ) → ParsesUnsigned {E = E} 32 10 word (Ok m) → gives word m ≡ false → count_in word ≡ None
count-other E word m p g = none-found word (λ n h. let same : ◌≡◌ {A = Result ℕ E} (Ok m) (Ok n) = read word n (Ok m) p h in let is : m ≡ n = cc same in let bad : true ≡ false = sym (count-gives word n h) ∙ ap (λ k. gives word k) (sym is) ∙ g in cc bad)

pub count-is : (word : List ℕ) (m : ℕ) → gives word m ≡ true → count_in word ≡ Some m
count-is word m g = count-found word m (gives-count word m g)
