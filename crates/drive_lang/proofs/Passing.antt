-- Going on from line to line.
use Rattle.std.proofs.Common.{◌≡◌, ℕ, zero, suc, ◌+◌, ◌<◌, ◌&&◌, Some, None, List, [], ◌∷◌, ◌++◌, drop, length, slice_get, replicate, refl, ap, sym, ◌∙◌, arith}
use Rattle.std.proofs.Math.Seq.{drop-append_seam}
use Rattle.std.proofs.lemmas.List.{drop-append-le, length-replicate}
use Rattle.rb_model.specs.Protocol.{idle}
use Rattle.drive_lang.specs.declared.order.Order.{Order}
use Rattle.drive_lang.specs.declared.order.Order.TheVariants.{Poke, Peek, Expect, Set, See, Wait, Reset}
use Rattle.drive_lang.specs.declared.order.Line.{Line}
use Rattle.drive_lang.specs.Steps.{Step, Nothing, held_after, in_reset, played, step, steps_of, vectors_of}
use Rattle.drive_lang.specs.Left.{ask_at, bus_at, left_of}
use Rattle.drive_lang.specs.declared.position.Position.{Position}

pub length-steps_of : (line : ℕ) (o : Order) (held : List ℕ) → length (steps_of line o held) ≡ vectors_of o
length-steps_of line (Poke a v) held = refl
length-steps_of line (Peek a name) held = refl
length-steps_of line (Expect a v name) held = refl
length-steps_of line (Set k v) held = refl
length-steps_of line (See o v name) held = refl
length-steps_of line (Wait n) held = length-replicate n (step idle held Nothing)
length-steps_of line (Reset n) held = length-replicate n (step in_reset held Nothing)

-- the list from a place on where an element stands
pub from_there : {X : Type 0} (xs : List X) (k : ℕ) (x : X) → slice_get xs k ≡ Some x → drop k xs ≡ x ∷ drop (k + 1) xs
from_there [] k x e = cc e
from_there (y ∷ ys) zero x e = let same : y ≡ x = cc e in ap (λ z. z ∷ ys) same
from_there (y ∷ ys) (suc k) x e = let more : suc (k + 1) ≡ suc k + 1 = omega arith in from_there ys k x e ∙ ap (λ n. x ∷ drop n (y ∷ ys)) more

pub played_there : (lines : List Line) (k : ℕ) (l : Line) (held : List ℕ) → slice_get lines k ≡ Some l
    → played (drop k lines) held ≡ steps_of l.number l.order held ++ played (drop (k + 1) lines) (held_after l.order held)
played_there lines k l held e = ap (λ ls. played ls held) (from_there lines k l e)

-- a line whose vectors are all over is left
pub passed : (lines : List Line) (at : Position) (l : Line) (held : List ℕ) → slice_get lines at.line ≡ Some l → vectors_of l.order ≡ at.over
    → left_of lines (record { line = at.line + 1; over = 0 }) (held_after l.order held) ≡ left_of lines at held
passed lines at l held e n =
    let many : at.over ≡ length (steps_of l.number l.order held) = sym n ∙ sym (length-steps_of l.number l.order held) in
    sym (ap (drop at.over) (played_there lines at.line l held e) ∙ ap (λ k. drop k (steps_of l.number l.order held ++ played (drop (at.line + 1) lines) (held_after l.order held))) many
    ∙ drop-append_seam (steps_of l.number l.order held) (played (drop (at.line + 1) lines) (held_after l.order held)))

-- behind the last line nothing is left
pub none_left : (lines : List Line) (at : Position) (held : List ℕ) → slice_get lines at.line ≡ None → left_of lines at held ≡ []
none_left lines at held e = ap (drop at.over) (ap (λ ls. played ls held) (nothing lines at.line e)) ∙ drop_nothing at.over
  where
    nothing : (ls : List Line) (k : ℕ) → slice_get ls k ≡ None → drop k ls ≡ []
    nothing [] zero e = refl
    nothing [] (suc k) e = refl
    nothing (l ∷ ls) zero e = cc e
    nothing (l ∷ ls) (suc k) e = nothing ls k e

    drop_nothing : (n : ℕ) → drop {A = Step} n [] ≡ []
    drop_nothing zero = refl
    drop_nothing (suc n) = refl

-- an element of a list of one
alike : {X : Type 0} (n k : ℕ) (x : X) → k < n → slice_get (replicate n x) k ≡ Some x
alike zero k x l = absurd (omega (arith, l))
alike (suc n) zero x l = refl
alike (suc n) (suc k) x l = alike n k x (omega (arith, l))

-- the step of a line, by the number of those before it
pub step_there : (line : ℕ) (o : Order) (held : List ℕ) (k : ℕ) → k < vectors_of o → slice_get (steps_of line o held) k ≡ Some (step (bus_at o k) held (ask_at line o k))
step_there line (Poke a v) held zero l = refl
step_there line (Poke a v) held (suc zero) l = refl
step_there line (Poke a v) held (suc (suc k)) l = absurd (omega (arith, l))
step_there line (Peek a name) held zero l = refl
step_there line (Peek a name) held (suc zero) l = refl
step_there line (Peek a name) held (suc (suc k)) l = absurd (omega (arith, l))
step_there line (Expect a v name) held zero l = refl
step_there line (Expect a v name) held (suc zero) l = refl
step_there line (Expect a v name) held (suc (suc k)) l = absurd (omega (arith, l))
step_there line (Set p v) held k l = absurd (omega (arith, l))
step_there line (See o v name) held zero l = refl
step_there line (See o v name) held (suc k) l = absurd (omega (arith, l))
step_there line (Wait n) held k l = alike n k (step idle held Nothing) l
step_there line (Reset n) held k l = alike n k (step in_reset held Nothing) l

-- a line that has a vector left
pub one_taken : (lines : List Line) (at : Position) (l : Line) (held : List ℕ) → slice_get lines at.line ≡ Some l → at.over < vectors_of l.order
    → left_of lines at held ≡ step (bus_at l.order at.over) held (ask_at l.number l.order at.over) ∷ left_of lines (record { line = at.line; over = at.over + 1 }) held
one_taken lines at l held e low =
    let own = steps_of l.number l.order held in
    let more = played (drop (at.line + 1) lines) (held_after l.order held) in
    let long = length-steps_of l.number l.order held in
    ap (drop at.over) (played_there lines at.line l held e)
    ∙ drop-append-le at.over own more (omega (arith, long, low))
    ∙ ap (λ xs. xs ++ more) (from_there own at.over _ (step_there l.number l.order held at.over low))
    ∙ ap (λ xs. step (bus_at l.order at.over) held (ask_at l.number l.order at.over) ∷ xs) (sym (ap (drop (at.over + 1)) (played_there lines at.line l held e) ∙ drop-append-le (at.over + 1) own more (omega (arith, long, low))))
