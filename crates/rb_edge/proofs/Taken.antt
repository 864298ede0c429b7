-- What a sink took in several calls.
use Rattle.std.proofs.Common.{◌≡◌, ℕ, ◌+◌, ◌-◌, ◌^◌, List, [], ◌++◌, length, take, drop, Option, None, Some, sym, subst, arith, append-nil, length-append}
use Rattle.std.proofs.Math.Seq.{take-add}
use Rattle.std.proofs.KnownBytes.{Appends-nil, Appends-trans}
use Rattle.rb_edge.specs.Sink.{Told, Counts, Takes}

-- the type's end
abbrev End : ℕ
End = 2 ^ 64 - 1

pub Counts-trans : (a b c : Option ℕ) (m n : ℕ) → Counts a b m → Counts b c n → Counts a c (m + n)
Counts-trans None b c m n p q = tt
Counts-trans (Some x) None c m n p q = absurd p
Counts-trans (Some x) (Some y) None m n p q = absurd q
Counts-trans (Some x) (Some y) (Some z) m n p q = omega arith

-- a call that takes two pieces in turn takes them joined
pub Takes-trans : (a b c : Told) (xs ys : List ℕ) → Takes a b xs → Takes b c ys → Takes a c (xs ++ ys)
Takes-trans a b c xs ys p q = record {
  appended = Appends-trans a.bytes b.bytes c.bytes xs ys p.appended q.appended;
  counted = let P : ℕ → Type 0 = λ n. Counts a.number c.number n in
      subst P (sym (length-append xs ys)) (Counts-trans a.number b.number c.number (length xs) (length ys) p.counted q.counted);
}

take_on : (i n : ℕ) (xs : List ℕ) → take i xs ++ take n (drop i xs) ≡ take (i + n) xs
take_on i n xs = sym (take-add i n xs)

-- a further piece of the bytes
pub Takes-more : (a b c : Told) (bytes : List ℕ) (i n : ℕ) → Takes a b (take i bytes) → Takes b c (take n (drop i bytes)) → Takes a c (take (i + n) bytes)
Takes-more a b c bytes i n p q =
    let P : List ℕ → Type 0 = λ xs. Takes a c xs in
    subst P (take_on i n bytes) (Takes-trans a b c (take i bytes) (take n (drop i bytes)) p q)

-- nothing further
pub Takes-stop : (a b c : Told) (xs : List ℕ) → Takes a b xs → Takes b c [] → Takes a c xs
Takes-stop a b c xs p q =
    let P : List ℕ → Type 0 = λ ys. Takes a c ys in
    subst P (append-nil xs) (Takes-trans a b c xs [] p q)

Counts-zero : (a : Option ℕ) → Counts a a 0
Counts-zero None = tt
Counts-zero (Some x) = omega arith

-- before the first call
pub Takes-nil : (a : Told) → Takes a a []
Takes-nil a = record { appended = Appends-nil a.bytes; counted = Counts-zero a.number }
