-- What a step of a narrow simulation does.
use Rattle.std.proofs.Common.{◌≡◌, ℕ, zero, suc, ◌+◌, ◌≤◌, List, [], ◌∷◌, ◌++◌, length, take, drop, refl, ap, sym, subst, ◌∙◌, append_assoc, length-append, arith}
use Rattle.std.proofs.Math.Seq.{drop-append_seam, take-append_seam}
use Rattle.std.proofs.lemmas.List.{drop-drop, length-take}
use Rattle.sim_lanes.specs.declared.narrow.NarrowOperation.{NarrowOperation}
use Rattle.sim_lanes.specs.declared.schedule.Schedule.{Schedule}
use Rattle.sim_lanes.specs.Schedules.{IsSchedule}
use Rattle.sim_lanes.specs.Narrow.{narrow_after, value_at}
use Rattle.cyc_sim.proofs.Places.{first_places}

-- the values begin with those given
narrow_extends : (os : List NarrowOperation) (vs : List ℕ) → (rest : List ℕ) × (narrow_after os vs ≡ vs ++ rest)
unfolding narrow_after
narrow_extends [] vs = ([], sym (append-nil vs))
  where
    append-nil : (xs : List ℕ) → xs ++ [] ≡ xs
    append-nil [] = refl
    append-nil (x ∷ xs) = ap (λ ys. x ∷ ys) (append-nil xs)
narrow_extends (o ∷ os) vs =
    let (rest, is) = narrow_extends os (vs ++ (value_at vs o ∷ [])) in
    (value_at vs o ∷ rest, is ∙ append_assoc vs (value_at vs o ∷ []) rest)

take_none : (k : ℕ) (xs : List ℕ) → xs ≡ [] → take k xs ≡ []
take_none zero xs is = refl
take_none (suc k) xs is = ap (take (suc k)) is

-- a front in two parts
take_both : (m n : ℕ) (xs : List ℕ) → take (m + n) xs ≡ take m xs ++ take n (drop m xs)
take_both zero n xs = let e : 0 + n ≡ n = omega arith in ap (λ k. take k xs) e
take_both (suc m) n [] = take_none (suc m + n) [] refl ∙ sym (take_none n [] refl)
take_both (suc m) n (x ∷ xs) = let e : suc m + n ≡ suc (m + n) = omega arith in ap (λ k. take k (x ∷ xs)) e ∙ ap (λ ys. x ∷ ys) (take_both m n xs)

-- what stands behind the contents stays once they have moved
pub behind_moved : (values moved put : List ℕ) (inputs count : ℕ) → length moved ≡ count → inputs ≤ length values → put ≡ take inputs values ++ (moved ++ drop (inputs + length moved) values) → drop (inputs + count) put ≡ drop (inputs + count) values
behind_moved values moved put inputs count long low is =
    let front : length (take inputs values ++ moved) ≡ inputs + count = omega (arith, length-append (take inputs values) moved, length-take inputs values, low, long) in
    let rest = drop (inputs + length moved) values in
    ap (drop (inputs + count)) (is ∙ sym (append_assoc (take inputs values) moved rest))
    ∙ (ap (λ n. drop n ((take inputs values ++ moved) ++ rest)) (sym front) ∙ (drop-append_seam (take inputs values ++ moved) rest ∙ ap (λ n. drop (inputs + n) values) long))

-- the constants stay
pub constants_stay : (os : List NarrowOperation) (values pins held constants : List ℕ) (inputs count more : ℕ) → length pins ≡ inputs → length held ≡ count → length constants ≡ more
    → values ≡ narrow_after os (pins ++ (held ++ constants)) → take more (drop (inputs + count) values) ≡ constants
constants_stay os values pins held constants inputs count more long kept many is =
    let (rest, ends) = narrow_extends os (pins ++ (held ++ constants)) in
    let front : inputs + count ≡ length (pins ++ held) = omega (arith, length-append pins held, long, kept) in
    let all : values ≡ (pins ++ held) ++ (constants ++ rest)
    = is ∙ (ends ∙ (ap (λ xs. xs ++ rest) (sym (append_assoc pins held constants)) ∙ append_assoc (pins ++ held) constants rest)) in
    ap (λ xs. take more (drop (inputs + count) xs)) all
    ∙ (ap (λ n. take more (drop n ((pins ++ held) ++ (constants ++ rest)))) front
    ∙ (ap (take more) (drop-append_seam (pins ++ held) (constants ++ rest)) ∙ (ap (λ n. take n (constants ++ rest)) (sym many) ∙ take-append_seam constants rest)))

-- the values of all places, once the pins are written and the operations have computed theirs
pub narrow_settled : (operations ops : List NarrowOperation) (values v0 v1 v2 v3 pins constants : List ℕ) (inputs count more first : ℕ) → v0 ≡ values → length pins ≡ inputs → v1 ≡ take 0 v0 ++ (pins ++ drop (0 + length pins) v0) → v2 ≡ v1
    → ops ≡ operations → first ≡ inputs + count + more → take more (drop (inputs + count) values) ≡ constants → v3 ≡ narrow_after ops (take first v2) → v3 ≡ narrow_after operations (pins ++ (take count (drop inputs values) ++ constants))
narrow_settled operations ops values v0 v1 v2 v3 pins constants inputs count more first is long put put' same front kept settled =
    let group : first ≡ inputs + (count + more) = omega (arith, front) in
    let rest : take (count + more) (drop inputs values) ≡ take count (drop inputs values) ++ constants
    = take_both count more (drop inputs values) ∙ ap (λ xs. take count (drop inputs values) ++ xs) (ap (take more) (drop-drop count inputs values) ∙ kept) in
    let written : take first v2 ≡ pins ++ (take count (drop inputs values) ++ constants)
    = ap (λ n. take n v2) group ∙ (ap (take (inputs + (count + more))) put' ∙ (first_places v0 pins v1 inputs (count + more) long put ∙ (ap (λ vs. pins ++ take (count + more) (drop inputs vs)) is ∙ ap (λ xs. pins ++ xs) rest))) in
    settled ∙ (ap (λ os. narrow_after os (take first v2)) same ∙ ap (narrow_after operations) written)

pub schedule_as : (s : Schedule) (first : ℕ) (os os' : List NarrowOperation) (vs vs' : List ℕ) → os' ≡ os → vs' ≡ vs → IsSchedule s first os vs → IsSchedule s first os' vs'
schedule_as s first os os' vs vs' p q h = subst (λ xs. IsSchedule s first xs vs') (sym p) (subst (IsSchedule s first os) (sym q) h)
