-- Which line spells the name of a step.
use Rattle.std.specs.List.{AllByRecursion}
use Rattle.std.proofs.Common.{◌≡◌, ⊎_elim, ℕ, zero, suc, Some, List, [], ◌∷◌, Contains, replicate, slice_get, refl, ap, sym, ◌∙◌, arith}
use Rattle.std.proofs.lemmas.List.Elements.{All-contains, All-from_recursion, Contains-append_cases}
use Rattle.rb_model.specs.Protocol.{Bus, idle}
use Rattle.drive_lang.specs.declared.order.Order.{Order}
use Rattle.drive_lang.specs.declared.order.Order.TheVariants.{Poke, Peek, Expect, Set, See, Wait, Reset}
use Rattle.drive_lang.specs.declared.order.Line.{Line}
use Rattle.drive_lang.specs.Steps.{Nothing, Step, access, held_after, in_reset, played, setup, step, steps_of}
use Rattle.drive_lang.specs.Playing.{AsksAs, IsSpelled, name_in}

-- what a step asks for, this line asks for
abbrev AsksBy : (line : ℕ) → Order → Step → Type 0
AsksBy line o s = (m : ℕ) (name : List ℕ) → AsksAs s.ask m name → (m ≡ line) × (name_in o ≡ Some name)

quiet : (line : ℕ) (o : Order) (p : Bus) (held : List ℕ) → AsksBy line o (step p held Nothing)
quiet line o p held m name h = absurd h

asks : (line : ℕ) (o : Order) (name : List ℕ) → name_in o ≡ Some name → (m : ℕ) (other : List ℕ) → (line ≡ m) × (name ≡ other) → (m ≡ line) × (name_in o ≡ Some other)
asks line o name there m other h = (sym h.0, there ∙ ap Some h.1)

all_quiet : (line : ℕ) (o : Order) (p : Bus) (held : List ℕ) (n : ℕ) → AllByRecursion (AsksBy line o) (replicate n (step p held Nothing))
all_quiet line o p held zero = tt
all_quiet line o p held (suc n) = (quiet line o p held, all_quiet line o p held n)

each : (line : ℕ) (o : Order) (held : List ℕ) → AllByRecursion (AsksBy line o) (steps_of line o held)
each line (Poke a v) held = (quiet line (Poke a v) (setup a 1 v) held, (quiet line (Poke a v) (access a 1 v) held, tt))
each line (Peek a name) held = (quiet line (Peek a name) (setup a 0 0) held, (asks line (Peek a name) name refl, tt))
each line (Expect a v name) held = (quiet line (Expect a v name) (setup a 0 0) held, (asks line (Expect a v name) name refl, tt))
each line (Set k v) held = tt
each line (See o v name) held = (asks line (See o v name) name refl, tt)
each line (Wait n) held = all_quiet line (Wait n) idle held n
each line (Reset n) held = all_quiet line (Reset n) in_reset held n

-- the line of a number spells a name
pub record Spells (lines : List Line) (number : ℕ) (name : List ℕ) : Type 0 where
  pub place : ℕ
  pub line : Line
  pub there : slice_get lines place ≡ Some line
  pub numbered : line.number ≡ number
  pub named : name_in line.order ≡ Some name

spells_on : (lines : List Line) (held : List ℕ) (s : Step) (number : ℕ) (name : List ℕ) → Contains (played lines held) s → AsksAs s.ask number name → Spells lines number name
spells_on [] held s number name h e = absurd (omega (arith, h.1))
spells_on (l ∷ ls) held s number name h e = ⊎_elim
    (λ own. let a = All-contains (AsksBy l.number l.order) (steps_of l.number l.order held) s (All-from_recursion (AsksBy l.number l.order) (steps_of l.number l.order held) (each l.number l.order held)) own number name e in
    record { place = 0; line = l; there = refl; numbered = sym a.0; named = a.1 })
    (λ later. let r = spells_on ls (held_after l.order held) s number name later e in
    record { place = suc r.place; line = r.line; there = r.there; numbered = r.numbered; named = r.named })
    (Contains-append_cases (steps_of l.number l.order held) (played ls (held_after l.order held)) s h)

pub spells : (lines : List Line) (held : List ℕ) (number : ℕ) (name : List ℕ) → IsSpelled (played lines held) number name → Spells lines number name
spells lines held number name h = spells_on lines held h.step number name h.among h.asks
