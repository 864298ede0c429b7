-- What a result of the reader tells beyond it.
use Rattle.std.proofs.Common.{◌≡◌, ◌⊎◌, ℕ, ◌≤◌, List, length, Result, Ok, Err, IfOk, IfErr, ap, inl, inr}
use Rattle.v_design.specs.declared.design.Design.{Design}
use Rattle.v_design.specs.Tree.{Tree, IsTree}
use Rattle.v_design.specs.WellFormed.{IsWellFormed}
use Rattle.v_syntax.specs.Failing.{Fails}
use Rattle.v_syntax.specs.declared.error.VError.{VError}
use Rattle.v_syntax.specs.declared.error.VError.TheVariants as error
use Rattle.v_reader.specs.Reading.{IsDesign, place_number}
use Rattle.v_reader.proofs.Within.{error_within}
use Rattle.v_reader.proofs.Few.{ports_fewer}
use Rattle.v_reader.proofs.Verdicts.{one_failure, no_module}

abbrev Told : List ℕ → VError → Type 0
Told bytes e = (e ≡ error.NoMemory) ⊎ Fails bytes e

pub within : (bytes : List ℕ) (r : Result Design VError) → IfErr r (Told bytes) → IfErr r (λ e. place_number e ≤ length bytes)
within bytes (Ok d) h = tt
within bytes (Err e) h = error_within bytes e h

pub few : (bytes : List ℕ) (r : Result Design VError) → IfOk r (IsDesign bytes) → IfOk r (λ d. length d.ports.items ≤ length bytes)
few bytes (Ok d) h = ports_fewer bytes d h
few bytes (Err e) h = tt

-- a well-formed module is read, unless memory runs out
pub accepts : (bytes : List ℕ) (r : Result Design VError) → IfErr r (Told bytes) → (t : Tree) → IsTree bytes t → IsWellFormed t → IfErr r (λ e. e ≡ error.NoMemory)
accepts bytes (Ok d) h t i w = tt
accepts bytes (Err e) h t i w = elim h [
  | inl want ↦ want
  | inr f ↦ absurd (no_module bytes e t f i w)
]

-- bytes that fail are refused for that, unless memory runs out
pub refuses : (bytes : List ℕ) (r : Result Design VError) → IfOk r (IsDesign bytes) → IfErr r (Told bytes) → (e : VError) → Fails bytes e → (r ≡ Err e) ⊎ (r ≡ Err error.NoMemory)
refuses bytes (Ok d) k h e f = absurd (no_module bytes e k.tree f k.is_tree k.well_formed)
refuses bytes (Err g) k h e f = elim h [
  | inl want ↦ inr (ap Err want)
  | inr other ↦ inl (ap Err (one_failure bytes g e other f))
]
