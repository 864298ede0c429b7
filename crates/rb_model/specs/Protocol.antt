-- The bus protocol (IHI 0024B, AMBA 3 APB), with no or one wait state.
use Rattle.std.specs.Prelude.{◌≡◌, ◌≢◌, ◌⊎◌, ℕ, ◌==◌, Bool, true, false, not, ◌&&◌, ◌||◌, if◌then◌else◌, List, [], ◌∷◌, codes}
use Rattle.v_design.specs.Expr.{Values}

-- the bus's input pins at one vector
pub record Bus : Type 0 where
  pub resetn : ℕ
  pub address : ℕ
  pub select : ℕ
  pub enable : ℕ
  pub write : ℕ
  pub data_in : ℕ

abbrev pub bus_of : Values → Bus
bus_of p = record { resetn = p (codes "PRESETn"); address = p (codes "PADDR"); select = p (codes "PSEL"); enable = p (codes "PENABLE"); write = p (codes "PWRITE"); data_in = p (codes "PWDATA") }

-- the operating states of the standard; WAIT is the first vector of an access that has a wait state
pub data Phase : Type 0 where
  IDLE SETUP WAIT ACCESS : Phase

abbrev pub is_wait : Phase → Bool
is_wait IDLE = false
is_wait SETUP = false
is_wait WAIT = true
is_wait ACCESS = false

-- PENABLE is ignored while the slave isn't selected
abbrev pub phase_after : (waits : ℕ) → Phase → Bus → Phase
phase_after waits before now = if now.resetn == 0 || now.select == 0 then IDLE else (if now.enable == 0 then SETUP else (if waits == 1 && not (is_wait before) then WAIT else ACCESS))

-- a transfer has begun and isn't over
abbrev pub IsUnderWay : Phase → Type 0
IsUnderWay p = (p ≡ SETUP) ⊎ (p ≡ WAIT)

-- the pins are those of the vector before, data only where it is written
pub record AreHeld (before now : Bus) : Type 0 where
  pub address : now.address ≡ before.address
  pub write : now.write ≡ before.write
  pub data_in : now.write ≡ 1 → now.data_in ≡ before.data_in

-- under reset nothing is selected, and else no transfer is given up
pub record IsKeptIdle (last : Phase) (now : Bus) : Type 0 where
  pub quiet : now.resetn ≡ 0 → now.select ≡ 0
  pub over : now.resetn ≢ 0 → ¬ IsUnderWay last

-- the phase from which an access may be completed
abbrev pub last_before_access : (waits : ℕ) → Phase
last_before_access waits = if waits == 1 then WAIT else SETUP

-- a vector of this phase is kept, where the phase before it was last and the pins before
abbrev pub IsKeptIn : Phase → (waits : ℕ) (last : Phase) (before now : Bus) → Type 0
IsKeptIn IDLE waits last before now = IsKeptIdle last now
IsKeptIn SETUP waits last before now = ¬ IsUnderWay last
IsKeptIn WAIT waits last before now = (last ≡ SETUP) × AreHeld before now
IsKeptIn ACCESS waits last before now = (last ≡ last_before_access waits) × AreHeld before now

abbrev pub KeepsFrom : (waits : ℕ) (last : Phase) (before : Bus) → List Bus → Type 0
KeepsFrom waits last before [] = Unit {0}
KeepsFrom waits last before (now ∷ rest) = IsKeptIn (phase_after waits last now) waits last before now × KeepsFrom waits (phase_after waits last now) now rest

-- before the first vector the bus is idle
abbrev pub idle : Bus
idle = record { resetn = 1; address = 0; select = 0; enable = 0; write = 0; data_in = 0 }

-- each vector of the list is kept
abbrev pub KeepsProtocol : (waits : ℕ) → List Bus → Type 0
KeepsProtocol waits buses = KeepsFrom waits IDLE idle buses
