-- The vectors of lines keep the bus protocol without wait states (IHI 0024B).
use Rattle.std.proofs.Common.{◌≡◌, ⊎_elim, ℕ, zero, suc, List, [], ◌∷◌, ◌++◌, map, replicate, refl, arith}
use Rattle.rb_model.specs.declared.block.Block.{Block}
use Rattle.rb_model.specs.Protocol.{Bus, Phase, IDLE, ACCESS, IsKeptIdle, IsUnderWay, KeepsFrom, KeepsProtocol, bus_of, idle}
use Rattle.rb_model.specs.Run.{buses, pins_of}
use Rattle.drive_lang.specs.declared.order.Order.{Order}
use Rattle.drive_lang.specs.declared.order.Order.TheVariants.{Poke, Peek, Expect, Set, See, Wait, Reset}
use Rattle.drive_lang.specs.declared.order.Line.{Line}
use Rattle.drive_lang.specs.Steps.{Ask, Nothing, Step, held_after, in_reset, numbers_of, played, step, steps_of}

-- the bus at a vector is the one that the vector was made of
bus_is : (b : Block) (p : Bus) (held : List ℕ) → bus_of (pins_of b (numbers_of p ++ held)) ≡ p
bus_is b p held = refl

-- no transfer is under way
abbrev IsOver : Phase → Type 0
IsOver p = IsUnderWay p → ⊥

abbrev buses_of : Block → List Step → List Bus
buses_of b steps = buses b (map (λ s. s.vector) steps)

idle_over : IsOver IDLE
idle_over h = ⊎_elim (λ e. cc e) (λ e. cc e) h

access_over : IsOver ACCESS
access_over h = ⊎_elim (λ e. cc e) (λ e. cc e) h

rests : (last : Phase) → IsOver last → IsKeptIdle last idle
rests last over = record { quiet = λ e. absurd (omega arith); over = λ _. over }

resets : (last : Phase) → IsKeptIdle last in_reset
resets last = record { quiet = λ _. refl; over = λ e. absurd (e refl) }

module _ (b : Block) (held : List ℕ) (ask : Ask) (after : List Step) (kept : (last : Phase) (before : Bus) → IsOver last → KeepsFrom 0 last before (buses_of b after)) where
  waits : (n : ℕ) (last : Phase) (before : Bus) → IsOver last → KeepsFrom 0 last before (buses_of b (replicate n (step idle held ask) ++ after))
  waits zero last before over = kept last before over
  waits (suc n) last before over = (rests last over, waits n IDLE idle idle_over)

  waits_in_reset : (n : ℕ) (last : Phase) (before : Bus) → IsOver last → KeepsFrom 0 last before (buses_of b (replicate n (step in_reset held ask) ++ after))
  waits_in_reset zero last before over = kept last before over
  waits_in_reset (suc n) last before over = (resets last, waits_in_reset n IDLE in_reset idle_over)

keeps_on : (b : Block) (lines : List Line) (held : List ℕ) (last : Phase) (before : Bus) → IsOver last → KeepsFrom 0 last before (buses_of b (played lines held))
keeps_on b [] held last before over = tt
keeps_on b (l ∷ ls) held last before over = go l.order (keeps_on b ls (held_after l.order held))
  where
    go : (o : Order) → ((p : Phase) (q : Bus) → IsOver p → KeepsFrom 0 p q (buses_of b (played ls (held_after o held)))) → KeepsFrom 0 last before (buses_of b (steps_of l.number o held ++ played ls (held_after o held)))
    go (Poke a v) rest = (over, ((refl, record { address = refl; write = refl; data_in = λ _. refl }), rest ACCESS _ access_over))
    go (Peek a name) rest = (over, ((refl, record { address = refl; write = refl; data_in = λ _. refl }), rest ACCESS _ access_over))
    go (Expect a v name) rest = (over, ((refl, record { address = refl; write = refl; data_in = λ _. refl }), rest ACCESS _ access_over))
    go (Set k v) rest = rest last before over
    go (See o v name) rest = (rests last over, rest IDLE idle idle_over)
    go (Wait n) rest = waits b held Nothing (played ls held) rest n last before over
    go (Reset n) rest = waits_in_reset b held Nothing (played ls held) rest n last before over

pub keeps : (b : Block) (lines : List Line) (held : List ℕ) → KeepsProtocol 0 (buses b (map (λ s. s.vector) (played lines held)))
keeps b lines held = keeps_on b lines held IDLE idle idle_over
