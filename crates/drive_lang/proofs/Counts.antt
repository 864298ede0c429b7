-- Numbers of vectors, read as cells.
use Rattle.std.proofs.Common.{◌≡◌, ℕ, ◌^◌, ◌<◌, ◌≤◌, Bool, true, false, nat_eq, nat_lt, if◌then◌else◌, List, Option, None, Some, Ok, Err, codes, refl, ap, sym, ◌∙◌, arith}
use Rattle.std.specs.List.{starts_with}
use Rattle.std.proofs.lemmas.Bool.Decides.{nat_tests}
use Rattle.stim_csv.specs.Numeral.{cell_of, cell_value, numeral_value}
use Rattle.stim_csv.specs.declared.numeral.Cell.TheVariants.{Bad, Number, Above}
use Rattle.drive_lang.specs.declared.error.DriveError.TheVariants.{Form, Many}
use Rattle.drive_lang.specs.Answers.{counted_within}

-- a cell that isn't hexadecimal is decimal
pub plain : (text : List ℕ) → starts_with nat_eq text (codes "0x") ≡ false → cell_value text ≡ numeral_value 10 text
unfolding cell_value
plain text h = rw h refl

bad_none : (o : Option ℕ) → Bad ≡ cell_of o → o ≡ None
bad_none None e = refl
bad_none (Some n) e = go (nat_lt n (2 ^ 128)) e
  where
    go : (b : Bool) → Bad ≡ (if b then Number n else Above) → Some n ≡ None
    go true e = cc e
    go false e = cc e

number_some : (o : Option ℕ) (k : ℕ) → Number k ≡ cell_of o → o ≡ Some k
number_some None k e = cc e
number_some (Some n) k e = go (nat_lt n (2 ^ 128)) e
  where
    go : (b : Bool) → Number k ≡ (if b then Number n else Above) → Some n ≡ Some k
    go true e = let same : k ≡ n = cc e in ap Some (sym same)
    go false e = cc e

pub form : (line room : ℕ) (o : Option ℕ) → Bad ≡ cell_of o → Err (Form line) ≡ counted_within line room o
form line room o e = sym (ap (counted_within line room) (bad_none o e))

pub counted : (line room : ℕ) (o : Option ℕ) (k : ℕ) → Number k ≡ cell_of o → k ≤ room → Ok k ≡ counted_within line room o
counted line room o k e few = let t : nat_lt room k ≡ false = grind (arith, nat_tests) in sym (ap (counted_within line room) (number_some o k e) ∙ rw t refl)

pub many : (line room : ℕ) (o : Option ℕ) (k : ℕ) → Number k ≡ cell_of o → room < k → Err (Many line) ≡ counted_within line room o
many line room o k e more = let t : nat_lt room k ≡ true = grind (arith, nat_tests) in sym (ap (counted_within line room) (number_some o k e) ∙ rw t refl)

pub above : (line room : ℕ) (o : Option ℕ) → Above ≡ cell_of o → room < 2 ^ 32 → Err (Many line) ≡ counted_within line room o
above line room None e small = cc e
above line room (Some n) e small = go (nat_lt n (2 ^ 128)) refl e
  where
    go : (b : Bool) → nat_lt n (2 ^ 128) ≡ b → Above ≡ (if b then Number n else Above) → Err (Many line) ≡ counted_within line room (Some n)
    go true t e = cc e
    go false t e =
        let large : 2 ^ 128 ≤ n = grind (arith, nat_tests) in
        let u : nat_lt room n ≡ true = grind (arith, nat_tests, large, small) in rw u refl
