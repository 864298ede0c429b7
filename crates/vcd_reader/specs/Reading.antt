-- What is said of errors.
use Rattle.std.specs.Prelude.{◌≡◌, ℕ}
use Rattle.vcd_syntax.specs.declared.error.VcdError.{VcdError}
use Rattle.vcd_syntax.specs.declared.error.VcdError.TheVariants as error
use Rattle.vcd_syntax.specs.Faulty.{Problem, Misformed, Repeated, Unknown, Unfit, Untimely, Excessive}
use Rattle.vcd_syntax.specs.Known.{Verdict, Fine, Here, Before}

-- the place of an error, where it has one
abbrev pub place_number : VcdError → ℕ
place_number (error.Form p) = p.0
place_number (error.Twice p) = p.0
place_number (error.Code p) = p.0
place_number (error.Value p) = p.0
place_number (error.Time p) = p.0
place_number (error.Many p) = p.0
place_number (error.NoValue i) = 0
place_number error.NoMemory = 0

-- an error is a problem at a place
abbrev pub Tells : VcdError → Problem → ℕ → Type 0
Tells (error.Form p) q k = (q ≡ Misformed) × (p.0 ≡ k)
Tells (error.Twice p) q k = (q ≡ Repeated) × (p.0 ≡ k)
Tells (error.Code p) q k = (q ≡ Unknown) × (p.0 ≡ k)
Tells (error.Value p) q k = (q ≡ Unfit) × (p.0 ≡ k)
Tells (error.Time p) q k = (q ≡ Untimely) × (p.0 ≡ k)
Tells (error.Many p) q k = (q ≡ Excessive) × (p.0 ≡ k)
Tells (error.NoValue i) q k = ⊥
Tells error.NoMemory q k = ⊥

-- an error is what a verdict says of a word at a place, behind a word at another one
abbrev pub TellsVerdict : VcdError → Verdict → (here back : ℕ) → Type 0
TellsVerdict e Fine here back = ⊥
TellsVerdict e (Here q) here back = Tells e q here
TellsVerdict e (Before q) here back = Tells e q back
