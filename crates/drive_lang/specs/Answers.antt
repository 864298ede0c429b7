-- How a judgement is answered.
use Rattle.std.specs.Prelude.{◌≡◌, ◌≢◌, ℕ, nat_lt, if◌then◌else◌, Option, None, Some, Result, Ok, Err, IfOk, IfErr}
use Rattle.stim_csv.specs.Numeral.{fits}
use Rattle.drive_names.specs.declared.table.Meaning.{Meaning}
use Rattle.drive_lang.specs.declared.error.DriveError.{DriveError}
use Rattle.drive_lang.specs.declared.error.DriveError.TheVariants.{Form, Unknown, TooWide, Many, NoMemory}
use Rattle.drive_lang.specs.declared.judge.Fitted.{Fitted}
use Rattle.drive_lang.specs.Orders.{Judged}

-- by what is judged, or by want of memory
pub record Answers (judged result : Judged) : Type 0 where
  pub ok : IfOk result (λ order. judged ≡ Ok order)
  pub err : IfErr result (λ e. e ≢ NoMemory → judged ≡ Err e)

-- a value with what a name means, where it fits
abbrev pub fitted : (line value : ℕ) → Option Meaning → Result Fitted DriveError
fitted line v None = Err (Unknown line)
fitted line v (Some m) = if fits m.width v then Ok (record { at = m.at; value = v }) else Err (TooWide line)

-- a number of vectors for which there is room
abbrev pub counted_within : (line room : ℕ) → Option ℕ → Result ℕ DriveError
counted_within line room None = Err (Form line)
counted_within line room (Some n) = if nat_lt room n then Err (Many line) else Ok n
