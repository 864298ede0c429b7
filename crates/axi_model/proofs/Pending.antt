-- What is pending on channels: steps of lists, by cases of bits.
use Rattle.std.proofs.Common.{◌≡◌, ℕ, zero, suc, ◌≤◌, Bool, true, false, not, ◌&&◌, if◌then◌else◌, Some, List, [], ◌∷◌, ◌++◌, length, slice_get, map, filter, refl, arith}

-- one element, or none
abbrev pub one : Bool → ℕ → List ℕ
one t x = if t then x ∷ [] else []

-- the answers to writes with these addresses and strobes, us far us there are both
abbrev pub answers : (ℕ → ℕ → ℕ) → List ℕ → List ℕ → List ℕ
answers f [] ss = []
answers f (a ∷ us) [] = []
answers f (a ∷ us) (s ∷ ss) = f a s ∷ answers f us ss

-- what is still to be answered: a response that waits, and then those to what was taken and what comes
abbrev pub pending : (ℕ → ℕ → ℕ) → (b aw w : Bool) → (r a s : ℕ) → (us ss : List ℕ) → List ℕ
pending f b aw w r a s us ss = one b r ++ answers f (one aw a ++ us) (one w s ++ ss)

abbrev pub pending_reads : (ℕ → ℕ) → (r : Bool) → (answer : ℕ) → (us : List ℕ) → List ℕ
pending_reads g r answer us = one r answer ++ map g us

cases : (P : Bool → Type 0) → P true → P false → (t : Bool) → P t
cases P x y true = x
cases P x y false = y

module _ (f : ℕ → ℕ → ℕ) (r a s x y : ℕ) (us ss : List ℕ) where
  abbrev pub Step : (b aw w vb va vd : Bool) → Type 0
  Step b aw w vb va vd =
      pending f b aw w r a s (one (va && not aw) x ++ us) (one (vd && not w) y ++ ss)
      ≡ one (b && vb) r ++ pending f
      (if aw && w && not b then true else (if b && vb then false else b))
      (if aw && w && not b then false else (if va && not aw then true else aw))
      (if aw && w && not b then false else (if vd && not w then true else w))
      (if aw && w && not b then f a s else r) (if va && not aw then x else a) (if vd && not w then y else s) us ss

pub write_step : (f : ℕ → ℕ → ℕ) (b aw w vb va vd : Bool) (r a s x y : ℕ) (us ss : List ℕ) → Step f r a s x y us ss b aw w vb va vd
write_step f b aw w vb va vd r a s x y us ss = grind arith

pub read_step : (g : ℕ → ℕ) (r vr va busy : Bool) (answer x : ℕ) (us : List ℕ)
    → pending_reads g r answer (one (va && (not r && not busy)) x ++ us)
    ≡ one (r && vr) answer ++ pending_reads g (if va && (not r && not busy) then true else (if r && vr then false else r)) (if va && (not r && not busy) then g x else answer) us
read_step g true vr true busy answer x us = cases (λ v. pending_reads g true answer (one (true && (false && not busy)) x ++ us) ≡ one (true && v) answer ++ pending_reads g (if true && (false && not busy) then true else (if true && v then false else true)) answer us) refl refl vr
read_step g true vr false busy answer x us = cases (λ v. pending_reads g true answer us ≡ one (true && v) answer ++ pending_reads g (if true && v then false else true) answer us) refl refl vr
read_step g false vr true true answer x us = refl
read_step g false vr true false answer x us = refl
read_step g false vr false busy answer x us = refl

-- lists that begin another
pub record Begins (xs ys : List ℕ) : Type 0 where
  pub rest : List ℕ
  pub is : xs ++ rest ≡ ys

pub begins_short : (xs ys : List ℕ) → Begins xs ys → length xs ≤ length ys
begins_short [] ys h = omega arith
begins_short (x ∷ xs) [] h = let z = h.is in cc z
begins_short (x ∷ xs) (y ∷ ys) h =
    let q : xs ++ h.rest ≡ ys = let z = h.is in cc in
    let r : length xs ≤ length ys = begins_short xs ys (record { rest = h.rest; is = q }) in omega arith

pub begins_at : (xs ys : List ℕ) (i x y : ℕ) → Begins xs ys → slice_get xs i ≡ Some x → slice_get ys i ≡ Some y → x ≡ y
begins_at [] ys i x y h e g = cc
begins_at (u ∷ xs) [] i x y h e g = let z = h.is in cc z
begins_at (u ∷ xs) (v ∷ ys) zero x y h e g = let z = h.is in cc
begins_at (u ∷ xs) (v ∷ ys) (suc i) x y h e g = let q : xs ++ h.rest ≡ ys = let z = h.is in cc in begins_at xs ys i x y (record { rest = h.rest; is = q }) e g

-- answers are us many us both, and each is that of its number
pub answers_short : (f : ℕ → ℕ → ℕ) (us ss : List ℕ) → (length (answers f us ss) ≤ length us) × (length (answers f us ss) ≤ length ss)
answers_short f [] ss = (omega arith, omega arith)
answers_short f (a ∷ us) [] = (omega arith, omega arith)
answers_short f (a ∷ us) (s ∷ ss) = let h = answers_short f us ss in let p = h.0 in let q = h.1 in (omega arith, omega arith)

pub answers_at : (f : ℕ → ℕ → ℕ) (us ss : List ℕ) (i a s : ℕ) → slice_get us i ≡ Some a → slice_get ss i ≡ Some s → slice_get (answers f us ss) i ≡ Some (f a s)
answers_at f [] ss i a s e g = cc
answers_at f (b ∷ us) [] i a s e g = cc
answers_at f (b ∷ us) (t ∷ ss) zero a s e g = cc
answers_at f (b ∷ us) (t ∷ ss) (suc i) a s e g = answers_at f us ss i a s e g

pub map_short : (g : ℕ → ℕ) (us : List ℕ) → length (map g us) ≤ length us
map_short g [] = omega arith
map_short g (a ∷ us) = let h = map_short g us in omega arith

pub map_at : (g : ℕ → ℕ) (us : List ℕ) (i a : ℕ) → slice_get us i ≡ Some a → slice_get (map g us) i ≡ Some (g a)
map_at g [] i a e = cc
map_at g (b ∷ us) zero a e = cc
map_at g (b ∷ us) (suc i) a e = map_at g us i a e

-- what is transferred, one moment after the other
pub taken_first : {X : Type 0} (test : X → Bool) (value : X → ℕ) (x : X) (xs : List X) → map value (filter test (x ∷ xs)) ≡ one (test x) (value x) ++ map value (filter test xs)
taken_first {X} test value x xs = by (test x)
  where
    by : (t : Bool) → map value (if t then x ∷ filter test xs else filter test xs) ≡ one t (value x) ++ map value (filter test xs)
    by true = refl
    by false = refl
