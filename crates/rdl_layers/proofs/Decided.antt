-- One assignment decides a property wherever one of the property or of its group applies, and the position that the code
-- answers is where it stands.
use Rattle.std.proofs.Common.{◌≡◌, ℕ, zero, suc, ◌+◌, ◌<◌, Bool, true, false, cond, nat_lt, List, [], ◌∷◌, length, map, find, position, Option, None, Some, option_map, option_and_then, slice_get, refl, sym, ap, ◌∙◌, subst, arith}
use Rattle.std.specs.List.{position_or_len}
use Rattle.rdl_props.specs.declared.prop.Prop.{Prop}
use Rattle.rdl_layers.specs.declared.rank.Rank.{Rank}
use Rattle.rdl_layers.specs.declared.candidate.Candidate.{Candidate}
use Rattle.rdl_layers.specs.Ranks.{is_related, is_before, decides}
use Rattle.rdl_layers.specs.Settings.{Applied, deciding_of}
use Rattle.rdl_layers.proofs.Least.{Among, Least, nth, passed, kept, begun, replaced, found}

-- among the first n there is one of least rank, or none is related
pub least_among : (p : Prop) (cs : List Candidate) (n : ℕ) → (best : Option (ℕ × Rank)) × Among p cs n best
least_among p cs zero = (None, λ k l. absurd (omega arith))
least_among p cs (suc n) = next (least_among p cs n)
  where
    more : n + 1 ≡ suc n
    more = omega arith

    ranked : (best : ℕ × Rank) → Least p cs n best → is_related p (nth cs n).prop ≡ true → (b : Bool) → is_before (nth cs n).rank best.1 ≡ b → (best : Option (ℕ × Rank)) × Among p cs (n + 1) best
    ranked best among r true e = (Some (n, (nth cs n).rank), replaced p cs n best among r e)
    ranked best among r false e = (Some best, kept p cs n best among e)

    step : (best : Option (ℕ × Rank)) → Among p cs n best → (b : Bool) → is_related p (nth cs n).prop ≡ b → (best : Option (ℕ × Rank)) × Among p cs (n + 1) best
    step best among false e = (best, passed p cs n best among e)
    step None among true e = (Some (n, (nth cs n).rank), begun p cs n among e)
    step (Some best) among true e = ranked best among e (is_before (nth cs n).rank best.1) refl

    next : ((best : Option (ℕ × Rank)) × Among p cs n best) → (best : Option (ℕ × Rank)) × Among p cs (suc n) best
    next (best, among) = subst (λ k. (best : Option (ℕ × Rank)) × Among p cs k best) more (step best among (is_related p (nth cs n).prop) refl)

-- one decides where one is related
pub some_decides : (p : Prop) (cs : List Candidate) (k : ℕ) → k < length cs → is_related p (nth cs k).prop ≡ true → (i : ℕ) × (position (decides p cs) cs ≡ Some i)
some_decides p cs k l r = by (least_among p cs (length cs))
  where
    by : ((best : Option (ℕ × Rank)) × Among p cs (length cs) best) → (i : ℕ) × (position (decides p cs) cs ≡ Some i)
    by (None, among) = let h : false ≡ true = sym (among k l) ∙ r in grind arith
    by (Some best, among) = (best.0, sym (found p cs best among))

-- the test fails at the first, and elsewhere where it does later
position-cons : {X : Type 0} (f : X → Bool) (x : X) (xs : List X) → f x ≡ false → position f (x ∷ xs) ≡ option_map (λ i. 1 + i) (position f xs)
position-cons f x xs e = by (nat_lt (position_or_len f xs) (length xs)) refl
  where
    by : (b : Bool) → nat_lt (position_or_len f xs) (length xs) ≡ b → position f (x ∷ xs) ≡ option_map (λ i. 1 + i) (position f xs)
    by true t = let u : nat_lt (1 + position_or_len f xs) (length (x ∷ xs)) ≡ true = grind arith in rw (e, t, u) refl
    by false t = let u : nat_lt (1 + position_or_len f xs) (length (x ∷ xs)) ≡ false = grind arith in rw (e, t, u) refl

-- what is found is what stands at the position
pub find-position : {X Y : Type 0} (f : X → Bool) (h : Y → X) (ys : List Y) → option_and_then (λ i. slice_get ys i) (position f (map h ys)) ≡ find (λ y. f (h y)) ys
find-position f h [] = refl
find-position f h (y ∷ ys) = by (find-position f h ys) (f (h y)) refl
  where
    shifted : (o : Option ℕ) → option_and_then (λ i. slice_get (y ∷ ys) i) (option_map (λ i. 1 + i) o) ≡ option_and_then (λ i. slice_get ys i) o
    shifted None = refl
    shifted (Some i) = let e : 1 + i ≡ suc i = omega arith in ap (λ k. slice_get (y ∷ ys) k) e

    by : option_and_then (λ i. slice_get ys i) (position f (map h ys)) ≡ find (λ y. f (h y)) ys → (b : Bool) → f (h y) ≡ b → option_and_then (λ i. slice_get (y ∷ ys) i) (position f (map h (y ∷ ys))) ≡ find (λ y. f (h y)) (y ∷ ys)
    by rest true e = let u : nat_lt 0 (length (map h (y ∷ ys))) ≡ true = grind arith in rw (e, u) refl
    by rest false e = ap (λ o. option_and_then (λ i. slice_get (y ∷ ys) i) o) (position-cons f (h y) (map h ys) e) ∙ shifted (position f (map h ys)) ∙ rest ∙ sym (ap (λ b. cond b (Some y) (find (λ y. f (h y)) ys)) e)

-- the definition's choice is the one that stands at the code's position
pub deciding_of-position : (p : Prop) (all : List Applied) → option_and_then (λ i. slice_get all i) (position (decides p (map (λ b. b.candidate) all)) (map (λ b. b.candidate) all)) ≡ deciding_of p all
deciding_of-position p all = find-position (decides p (map (λ b. b.candidate) all)) (λ b. b.candidate) all
