-- The least place of what is wrong, as it is found one thing after the other.
use Rattle.std.proofs.Common.{◌≡◌, ℕ, zero, suc, ◌+◌, ◌<◌, ◌≤◌, nat_le, Bool, true, false, not, if◌then◌else◌, Option, Some, None, List, [], ◌∷◌, ◌++◌, length, map, take, slice_get, get_or, refl, ap, sym, ◌∙◌, subst, ◌⊎◌, inl, inr, arith}
use Rattle.std.proofs.lemmas.List.{take_more}
use Rattle.plain_lemmas.proofs.Lists.{map-append}
use Rattle.rb_base.specs.declared.place.Place.{Place}
use Rattle.rb_grammar.specs.Spelling.{At}
use Rattle.v_design.specs.Lexemes.{Token}
use Rattle.v_syntax.specs.Tokens.{placed, spotted}
use Rattle.v_syntax.specs.declared.spot.VSpot.{VSpot}
use Rattle.v_design.specs.declared.design.Stmt.{Stmt}
use Rattle.v_check.specs.Sizes.{stmt_places}
use Rattle.v_check.specs.Nets.{IsUndeclared, is_unknown, numbers, token_places}
use Rattle.v_check.specs.Found.{noted, Finds, Stands, StandsBefore}
use Rattle.plain_lemmas.proofs.Numbers.{at-most as le-true, fits as le-false}

-- one more place is judged
pub note_finds : (P Q : ℕ → Type 0) (r : Option Place) (b : Bool) (p : Place) → Finds P r → (b ≡ true → Q p.0) → ((k : ℕ) → P k → Q k) → ((k : ℕ) → Q k → P k ⊎ ((b ≡ true) × (k ≡ p.0)))
    → Finds Q (noted r b p)
note_finds P Q None false p h here old all = λ k q. elim (all k q) [ inl x ↦ h k x | inr x ↦ cc x.0 ]
note_finds P Q (Some e) false p h here old all = record {
  at = old e.0 h.at;
  least = λ k q. elim (all k q) [ inl x ↦ h.least k x | inr x ↦ cc x.0 ];
}
note_finds P Q None true p h here old all = record {
  at = here refl;
  least = λ k q. elim (all k q) [ inl x ↦ absurd (h k x) | inr x ↦ omega (arith, x.1) ];
}
note_finds P Q (Some e) true p h here old all = go (nat_le e.0 p.0) refl
  where
    go : (c : Bool) → nat_le e.0 p.0 ≡ c → Finds Q (if c then Some e else Some p)
    go true t = let le = le-true e.0 p.0 t in record {
      at = old e.0 h.at;
      least = λ k q. elim (all k q) [ inl x ↦ h.least k x | inr x ↦ omega (arith, le, x.1) ];
    }
    go false t = let lt = le-false e.0 p.0 t in record {
      at = here refl;
      least = λ k q. elim (all k q) [ inl x ↦ let l = h.least k x in omega (arith, lt, l) | inr x ↦ omega (arith, x.1) ];
    }

-- the same facts at the same places
pub finds_as : (P Q : ℕ → Type 0) (r : Option Place) → ((k : ℕ) → P k → Q k) → ((k : ℕ) → Q k → P k) → Finds P r → Finds Q r
finds_as P Q None f g h = λ k q. h k (g k q)
finds_as P Q (Some p) f g h = record { at = f p.0 h.at; least = λ k q. h.least k (g k q) }

module _ (F : ℕ → Type 0) (places : List ℕ) where
  -- nothing is judged yet
  pub finds_none : Finds (StandsBefore F places 0) None
  finds_none = λ k h. omega (arith, h.1)

  -- one more thing is judged, after what else was found
  pub finds_more : (P : ℕ → Type 0) (r : Option Place) (b : Bool) (p : Place) (i : ℕ) → p.0 ≡ get_or places i 0 → (F i → b ≡ true) × (b ≡ true → F i)
      → Finds (λ k. P k ⊎ StandsBefore F places i k) r → Finds (λ k. P k ⊎ StandsBefore F places (i + 1) k) (noted r b p)
  finds_more P r b p i at test h =
      note_finds (λ k. P k ⊎ StandsBefore F places i k) (λ k. P k ⊎ StandsBefore F places (i + 1) k) r b p h
      (λ e. inr (i, omega arith, test.1 e, at))
      (λ k q. elim q [ inl x ↦ inl x | inr x ↦ inr (x.0, (let l = x.1 in omega (arith, l)), x.2, x.3) ])
      (λ k q. elim q [ inl x ↦ inl (inl x) | inr x ↦ step k x ])
    where
      step : (k : ℕ) → StandsBefore F places (i + 1) k → (P k ⊎ StandsBefore F places i k) ⊎ ((b ≡ true) × (k ≡ p.0))
      step k x = go (nat_le i x.0) refl
        where
          go : (c : Bool) → nat_le i x.0 ≡ c → (P k ⊎ StandsBefore F places i k) ⊎ ((b ≡ true) × (k ≡ p.0))
          go true t = let le = le-true i x.0 t in let l = x.1 in let same : x.0 ≡ i = omega (arith, le, l) in inr (test.0 (subst F same x.2), x.3 ∙ (ap (λ j. get_or places j 0) same ∙ sym at))
          go false t = let lt = le-false i x.0 t in inl (inr (x.0, lt, x.2, x.3))

  pub finds_step : (r : Option Place) (b : Bool) (p : Place) (i : ℕ) → p.0 ≡ get_or places i 0 → (F i → b ≡ true) × (b ≡ true → F i)
      → Finds (StandsBefore F places i) r → Finds (StandsBefore F places (i + 1)) (noted r b p)
  finds_step r b p i at test h =
      finds_as (λ k. ⊥ ⊎ StandsBefore F places (i + 1) k) (StandsBefore F places (i + 1)) (noted r b p) (λ k q. elim q [ inl x ↦ absurd x | inr x ↦ x ]) (λ k q. inr q)
      (finds_more (λ k. ⊥) r b p i at test (finds_as (StandsBefore F places i) (λ k. ⊥ ⊎ StandsBefore F places i k) r (λ k q. inr q) (λ k q. elim q [ inl x ↦ absurd x | inr x ↦ x ]) h))

  -- the same, where the result is known by an equation
  pub finds_next : (r r' : Option Place) (b : Bool) (p : Place) (i : ℕ) → r' ≡ noted r b p → p.0 ≡ get_or places i 0 → (F i → b ≡ true) × (b ≡ true → F i)
      → Finds (StandsBefore F places i) r → Finds (StandsBefore F places (i + 1)) r'
  finds_next r r' b p i is at test h = subst (Finds (StandsBefore F places (i + 1))) (sym is) (finds_step r b p i at test h)

  pub finds_next_after : (P : ℕ → Type 0) (r r' : Option Place) (b : Bool) (p : Place) (i : ℕ) → r' ≡ noted r b p → p.0 ≡ get_or places i 0 → (F i → b ≡ true) × (b ≡ true → F i)
      → Finds (λ k. P k ⊎ StandsBefore F places i k) r → Finds (λ k. P k ⊎ StandsBefore F places (i + 1) k) r'
  finds_next_after P r r' b p i is at test h = subst (Finds (λ k. P k ⊎ StandsBefore F places (i + 1) k)) (sym is) (finds_more P r b p i at test h)

  -- each thing is judged
  pub finds_all : (r : Option Place) (n : ℕ) → ((i : ℕ) → F i → i < n) → Finds (StandsBefore F places n) r → Finds (Stands F places) r
  finds_all r n within h = finds_as (StandsBefore F places n) (Stands F places) r (λ k q. (q.0, q.2, q.3)) (λ k q. (q.0, within q.0 q.1, q.1, q.2)) h

-- places and tokens as numbers
pub number-at : (ps : List Place) (i : ℕ) (e : Place) → i < length ps → (get_or ps i e).0 ≡ get_or (numbers ps) i 0
number-at [] i e l = absurd (omega (arith, l))
number-at (x ∷ xs) zero e l = refl
number-at (x ∷ xs) (suc i) e l = number-at xs i e (omega (arith, l))

pub token-place : (bytes : List ℕ) (ts : List VSpot) (i : ℕ) (e : VSpot) → i < length ts → (get_or ts i e).place.0 ≡ get_or (token_places (placed bytes ts)) i 0
token-place bytes [] i e l = absurd (omega (arith, l))
token-place bytes (x ∷ xs) zero e l = refl
token-place bytes (x ∷ xs) (suc i) e l = token-place bytes xs i e (omega (arith, l))

token-at : (bytes : List ℕ) (ts : List VSpot) (i : ℕ) (e : VSpot) → i < length ts → slice_get (placed bytes ts) i ≡ Some (spotted bytes (get_or ts i e))
token-at bytes [] i e l = absurd (omega (arith, l))
token-at bytes (x ∷ xs) zero e l = refl
token-at bytes (x ∷ xs) (suc i) e l = token-at bytes xs i e (omega (arith, l))

pub token-within : (bytes : List ℕ) (ts : List VSpot) (i : ℕ) (a : At Token) → slice_get (placed bytes ts) i ≡ Some a → i < length ts
token-within bytes [] i a h = cc h
token-within bytes (x ∷ xs) zero a h = omega arith
token-within bytes (x ∷ xs) (suc i) a h = let l = token-within bytes xs i a h in omega (arith, l)

module _ (bytes : List ℕ) (declared : List (List ℕ)) (before : ℕ) (ts : List VSpot) (i : ℕ) (e : VSpot) (b : Bool) (l : i < length ts) where
  -- whether the token at a place is a name that is not declared
  pub undeclared-late : before ≤ i → b ≡ is_unknown declared (spotted bytes (get_or ts i e)).token
      → (IsUndeclared declared before (placed bytes ts) i → b ≡ true) × (b ≡ true → IsUndeclared declared before (placed bytes ts) i)
  undeclared-late low test = (
    λ h. let f : Some h.0 ≡ Some (spotted bytes (get_or ts i e)) = sym h.2 ∙ token-at bytes ts i e l in
        let f' : h.0 ≡ spotted bytes (get_or ts i e) = cc in
        test ∙ (ap (λ a. is_unknown declared a.token) (sym f') ∙ h.3),
    λ h. (spotted bytes (get_or ts i e), low, token-at bytes ts i e l, sym test ∙ h),
  )

-- a token before is not judged
pub undeclared-early : (bytes : List ℕ) (declared : List (List ℕ)) (before : ℕ) (ts : List VSpot) (i : ℕ) (b : Bool) → i < before → b ≡ nat_le before i
    → (IsUndeclared declared before (placed bytes ts) i → b ≡ true) × (b ≡ true → IsUndeclared declared before (placed bytes ts) i)
undeclared-early bytes declared before ts i b low test = (λ h. absurd (let m = h.1 in omega (arith, low, m)), λ h. absurd (above low (sym test ∙ h)))
  where
    above : i < before → nat_le before i ≡ true → ⊥
    above l h = let m = le-true before i h in omega (arith, l, m)

-- the place of a statement
pub stmt-place : (ss : List Stmt) (i : ℕ) (s : Stmt) → i < length ss → s ≡ get_or ss i s → s.place.0 ≡ get_or (stmt_places ss) i 0
stmt-place [] i s l is = absurd (omega (arith, l))
stmt-place (x ∷ xs) zero s l is = ap (λ y. y.place.0) is
stmt-place (x ∷ xs) (suc i) s l is = stmt-place xs i s (omega (arith, l)) is

pub element-at : {X : Type 0} (xs : List X) (i : ℕ) (x : X) → i < length xs → x ≡ get_or xs i x → slice_get xs i ≡ Some x
element-at [] i x l is = absurd (omega (arith, l))
element-at (y ∷ ys) zero x l is = ap Some (sym is)
element-at (y ∷ ys) (suc i) x l is = element-at ys i x (omega (arith, l)) is

-- a test of an element decides what holds of the element at its place
pub some-test : {X : Type 0} (xs : List X) (i : ℕ) (x : X) (well : X → Bool) (b : Bool) → slice_get xs i ≡ Some x → b ≡ not (well x)
    → ((y : X) × (slice_get xs i ≡ Some y) × (well y ≡ false) → b ≡ true) × (b ≡ true → (y : X) × (slice_get xs i ≡ Some y) × (well y ≡ false))
some-test xs i x well b at test = (
  λ h. let f : Some h.0 ≡ Some x = sym h.1 ∙ at in
      let f' : h.0 ≡ x = cc in
      test ∙ ap not (ap well (sym f') ∙ h.2),
  λ h. (x, at, not-true (well x) (sym test ∙ h)),
)
  where
    not-true : (c : Bool) → not c ≡ true → c ≡ false
    not-true true h = cc h
    not-true false h = refl

pub element-test : {X : Type 0} (xs : List X) (i : ℕ) (x : X) (well : X → Bool) (b : Bool) → i < length xs → x ≡ get_or xs i x → b ≡ not (well x)
    → ((y : X) × (slice_get xs i ≡ Some y) × (well y ≡ false) → b ≡ true) × (b ≡ true → (y : X) × (slice_get xs i ≡ Some y) × (well y ≡ false))
element-test xs i x well b l is test = some-test xs i x well b (element-at xs i x l is) test

-- other facts of the same things
pub finds_stands : (F G : ℕ → Type 0) (places : List ℕ) (r : Option Place) → ((i : ℕ) → F i → G i) → ((i : ℕ) → G i → F i) → Finds (Stands F places) r → Finds (Stands G places) r
finds_stands F G places r f g h = finds_as (Stands F places) (Stands G places) r (λ k q. (q.0, f q.0 q.1, q.2)) (λ k q. (q.0, g q.0 q.1, q.2)) h

-- one element more of a front, mapped
pub map-more : {X Y : Type 0} (f : X → Y) (xs : List X) (i : ℕ) (x : X) → i < length xs → x ≡ get_or xs i x → map f (take (i + 1) xs) ≡ map f (take i xs) ++ f x ∷ []
map-more f xs i x l is =
    ap (map f) (take_more xs i x l) ∙ (map-append f (take i xs) (get_or xs i x ∷ []) ∙ ap (λ y. map f (take i xs) ++ f y ∷ []) (sym is))
