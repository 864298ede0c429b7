-- What becomes of the variables that a reader keeps.
use Rattle.std.specs.List.{position}
use Rattle.std.specs.Str.{bytes_eq}
use Rattle.std.specs.Prelude.{◌≡◌, ℕ, Bool, false, ◌&&◌, nat_le, if◌then◌else◌, Option, Some, None, List, [], ◌∷◌, ◌++◌, slice_index, slice_set}
use Rattle.v_design.specs.Lexemes.{among}
use Rattle.stim_csv.specs.Numeral as stim
use Rattle.vcd_reader.specs.declared.variables.Given.{Given}
use Rattle.vcd_reader.specs.declared.variables.Given.TheVariants.{Taken, Unknown, Unfit}
use Rattle.vcd_reader.specs.declared.variables.Variables.{Variables}

-- a value fits a variable of a width, where it may have so many bits
abbrev pub fits : Option ℕ → (width most : ℕ) → Bool
fits None width most = false
fits (Some n) width most = nat_le width most && stim.fits width n

-- how a change goes
abbrev pub given_at : Variables → Option ℕ → Option ℕ → ℕ → Given
given_at v None value most = Unknown
given_at v (Some i) value most = if fits value (slice_index v.widths.items i) most then Taken else Unfit

abbrev pub given_by : Variables → List ℕ → Option ℕ → ℕ → Given
given_by v code value most = given_at v (position (bytes_eq code) v.codes) value most

-- the last values, where the variable of this number takes one
abbrev pub now_with : Variables → Option ℕ → Option ℕ → List (Option ℕ)
now_with v None value = v.now
now_with v (Some i) value = slice_set v.now i value

-- the variables after a change: only the value that was taken is another
abbrev pub Gives : Variables → Variables → List ℕ → Option ℕ → Given → Type 0
Gives old new code value Taken = (new.codes ≡ old.codes) × (new.names ≡ old.names) × (new.widths ≡ old.widths) × (new.now ≡ now_with old (position (bytes_eq code) old.codes) value)
Gives old new code value _ = new ≡ old

-- the variables with one width more
pub record AddsWidth (old new : Variables) (width : ℕ) : Type 0 where
  pub codes : new.codes ≡ old.codes
  pub names : new.names ≡ old.names
  pub widths : new.widths.items ≡ old.widths.items ++ width ∷ []
  pub now : new.now ≡ old.now

-- the variables with one code more, if it is new
pub record AddsCode (old new : Variables) (code : List ℕ) (again : Bool) : Type 0 where
  pub is : again ≡ among old.codes code
  pub codes : new.codes ≡ (if again then old.codes else old.codes ++ code ∷ [])
  pub names : new.names ≡ old.names
  pub widths : new.widths.items ≡ old.widths.items
  pub now : new.now ≡ (if again then old.now else old.now ++ None ∷ [])

-- the variables with one name more, if it is new
pub record AddsName (old new : Variables) (name : List ℕ) (again : Bool) : Type 0 where
  pub is : again ≡ among old.names name
  pub codes : new.codes ≡ old.codes
  pub names : new.names ≡ (if again then old.names else old.names ++ name ∷ [])
  pub widths : new.widths.items ≡ old.widths.items
  pub now : new.now ≡ old.now
