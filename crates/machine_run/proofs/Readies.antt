-- The machine completes each access of the bus protocol.
use Rattle.std.proofs.Common.{◌≡◌, ℕ, zero, suc, ◌<◌, ◌==◌, Bool, true, false, not, ◌&&◌, ◌||◌, if◌then◌else◌, List, [], ◌∷◌, codes, get_or, map, refl, ap, ◌∙◌, subst, arith}
use Rattle.v_design.specs.Expr.{Values, bit_of}
use Rattle.v_design.specs.Fits.{FitsPins}
use Rattle.rb_model.specs.declared.block.Block.{Block}
use Rattle.rb_model.specs.Kept.{Map, Waited, has_wait}
use Rattle.rb_model.specs.Ports.{input_pins}
use Rattle.rb_model.specs.Protocol.{Bus, Phase, IDLE, SETUP, WAIT, ACCESS, IsKeptIn, KeepsFrom, bus_of, is_wait, phase_after}
use Rattle.rb_model.specs.References.{Each}
use Rattle.rb_model.specs.Run.{ClockEdge, MachineRun, pins_of}
use Rattle.rb_model.specs.Sound.{IsSound}
use Rattle.rb_model.proofs.InputPins.{input_pins_are}
use Rattle.rb_model.proofs.ValueWidths.{PinFits, pins_fit}
use Rattle.machine_run.specs.Ready.{IsReadyIn, AreReadyFrom}
use Rattle.machine_run.proofs.Resets.{is_after}

-- what is kept of the access after a vector of this phase, where there is a wait state
abbrev Awaits : Phase → ℕ → Type 0
Awaits IDLE waited = Unit {0}
Awaits SETUP waited = waited ≡ 0
Awaits WAIT waited = waited ≡ 1
Awaits ACCESS waited = Unit {0}

-- the phase before that of an access
abbrev Follows : Bool → Phase → Phase → Type 0
Follows wait last IDLE = Unit {0}
Follows wait last SETUP = Unit {0}
Follows wait last WAIT = last ≡ SETUP
Follows wait last ACCESS = last ≡ (if wait then WAIT else SETUP)

follows : (waits : ℕ) (last : Phase) (before now : Bus) (p : Phase) → IsKeptIn p waits last before now → Follows (waits == 1) last p
follows waits last before now IDLE h = tt
follows waits last before now SETUP h = tt
follows waits last before now WAIT h = h.0
follows waits last before now ACCESS h = h.0

abbrev phase_of : Bool → Phase → (r s e : ℕ) → Phase
phase_of wait last r s e = if r == 0 || s == 0 then IDLE else (if e == 0 then SETUP else (if wait && not (is_wait last) then WAIT else ACCESS))

-- PREADY, and what is kept of the access
abbrev ready_of : Bool → (r s e waited : ℕ) → ℕ
ready_of wait r s e waited = if wait then bit_of (wait && (r == 1 && s == 1 && e == 1) && (if r == 0 then 0 else waited) == 1) else 1

abbrev waited_of : Bool → (r s e waited : ℕ) → ℕ
waited_of wait r s e waited = if wait then bit_of ((r == 1 && s == 1 && e == 1) && not (wait && (if r == 0 then 0 else waited) == 1)) else 0

record Ready (wait : Bool) (p : Phase) (outs : List ℕ) (waited : ℕ) : Type 0 where
  ready : IsReadyIn p outs
  awaits : wait ≡ true → Awaits p waited

no_wait : (P : Type 0) → false ≡ true → P
no_wait P e = absurd (let q : false ≡ true = e in cc)

module _ (outs : List ℕ) (waited after : ℕ) where
  enabled : (wait : Bool) (last : Phase) → get_or outs 0 0 ≡ ready_of wait 1 1 1 waited → after ≡ waited_of wait 1 1 1 waited → Follows wait last (phase_of wait last 1 1 1) → (wait ≡ true → Awaits last waited) → Ready wait (phase_of wait last 1 1 1) outs after
  enabled false last r a f w = record { ready = r; awaits = no_wait (Awaits ACCESS after) }
  enabled true IDLE r a f w = absurd (let q : IDLE ≡ SETUP = f in cc)
  enabled true SETUP r a f w =
      let none : waited ≡ 0 = w refl in
      record { ready = r ∙ ap (λ y. bit_of (y == 1)) none; awaits = λ t. a ∙ ap (λ y. bit_of (not (y == 1))) none }
  enabled true WAIT r a f w = let one : waited ≡ 1 = w refl in record { ready = r ∙ ap (λ y. bit_of (y == 1)) one; awaits = λ t. tt }
  enabled true ACCESS r a f w = absurd (let q : ACCESS ≡ SETUP = f in cc)

  not_enabled : (wait : Bool) → after ≡ waited_of wait 1 1 0 waited → Ready wait SETUP outs after
  not_enabled false a = record { ready = tt; awaits = no_wait (after ≡ 0) }
  not_enabled true a = record { ready = tt; awaits = λ t. a }

  one : (wait : Bool) (last : Phase) (r s e : ℕ) → r < 2 → s < 2 → e < 2 → get_or outs 0 0 ≡ ready_of wait r s e waited → after ≡ waited_of wait r s e waited
      → Follows wait last (phase_of wait last r s e) → (wait ≡ true → Awaits last waited) → Ready wait (phase_of wait last r s e) outs after
  one wait last zero s e lr ls le q a f w = record { ready = tt; awaits = λ t. tt }
  one wait last (suc zero) zero e lr ls le q a f w = record { ready = tt; awaits = λ t. tt }
  one wait last (suc zero) (suc zero) zero lr ls le q a f w = not_enabled wait a
  one wait last (suc zero) (suc zero) (suc zero) lr ls le q a f w = enabled wait last q a f w
  one wait last (suc zero) (suc zero) (suc (suc e)) lr ls le q a f w = absurd (omega (arith, le))
  one wait last (suc zero) (suc (suc s)) e lr ls le q a f w = absurd (omega (arith, ls))
  one wait last (suc (suc r)) s e lr ls le q a f w = absurd (omega (arith, lr))

module _ (b : Block) (sound : IsSound b) where
  abbrev bus : List ℕ → Bus
  bus x = bus_of (pins_of b x)

  edge_ready : (last : Phase) (before : Bus) (m : Map) (x outs : List ℕ) (after : Map) → FitsPins (input_pins b) x → ClockEdge b m x outs after
      → IsKeptIn (phase_after b.waits last (bus x)) b.waits last before (bus x) → (has_wait b ≡ true → Awaits last (m Waited)) → Ready (has_wait b) (phase_after b.waits last (bus x)) outs (after Waited)
  edge_ready last before m x outs after fits edge keeps waits =
      let p : Values = pins_of b x in
      let each = subst (λ ps. Each (PinFits p) ps) (input_pins_are b sound) (pins_fit b sound x fits) in
      one outs (m Waited) (after Waited) (has_wait b) last (p (codes "PRESETn")) (p (codes "PSEL")) (p (codes "PENABLE")) each.0 each.1.1.0 each.1.1.1.0
      (ap (λ os. get_or os 0 0) edge.seen) (is_after b m x outs after edge Waited)
      (follows b.waits last before (bus x) (phase_after b.waits last (bus x)) keeps) waits

  pub ready_from : (last : Phase) (before : Bus) (m : Map) (vectors outputs : List (List ℕ)) → Each (FitsPins (input_pins b)) vectors → KeepsFrom b.waits last before (map bus vectors) → (has_wait b ≡ true → Awaits last (m Waited))
      → MachineRun b m vectors outputs → AreReadyFrom b.waits last (map bus vectors) outputs
  ready_from last before m [] [] fits keeps waits run = tt
  ready_from last before m [] (o ∷ os) fits keeps waits run = absurd run
  ready_from last before m (x ∷ xs) [] fits keeps waits run = absurd run
  ready_from last before m (x ∷ xs) (o ∷ os) fits keeps waits run =
      let first : Ready (has_wait b) (phase_after b.waits last (bus x)) o (run.0 Waited) = edge_ready last before m x o run.0 fits.0 run.1 keeps.0 waits in
      (first.ready, ready_from (phase_after b.waits last (bus x)) (bus x) run.0 xs os fits.1 keeps.1 first.awaits run.2)
