-- The values of constants (SystemRDL 2.0, clause 6), what one is where another type is wanted, and how a step may fail.
use Rattle.std.specs.Prelude.{ℕ, Bool, not, cond, List, ◌==◌, Option, None, Some, option_map, Result, Ok, Err}
use Rattle.rb_base.specs.declared.place.Place.{Place}
use Rattle.rdl_base.specs.declared.fault.Fault.{Fault}
use Rattle.rdl_base.specs.declared.rule.Rule.{Rule}
use Rattle.rdl_tree.specs.declared.item.PType.{PType}
use Rattle.rdl_tree.specs.declared.item.PType.TheVariants as ptype

-- A constant is a number from 0 to 2^64 - 1, a boolean, or a string.
pub data Val : Type 0 where
  number : ℕ → Val
  flag : Bool → Val
  text : List ℕ → Val

-- Where a number is wanted, a boolean is 0 or 1, and a string is none (this project's rule).
abbrev pub as_number : Val → Option ℕ
as_number (number n) = Some n
as_number (flag b) = Some (cond b 1 0)
as_number (text s) = None

-- Where a boolean is wanted, a number is true where it is not 0, and a string is none (this project's rule).
abbrev pub as_flag : Val → Option Bool
as_flag (number n) = Some (not (n == 0))
as_flag (flag b) = Some b
as_flag (text s) = None

-- Where a string is wanted, nothing else is one.
abbrev pub as_text : Val → Option (List ℕ)
as_text (number n) = None
as_text (flag b) = None
as_text (text s) = Some s

-- what a value is as a parameter of a type
abbrev pub as_type : PType → Val → Option Val
as_type ptype.Number v = option_map number (as_number v)
as_type ptype.Flag v = option_map flag (as_flag v)
as_type ptype.Str v = option_map text (as_text v)

-- What a step gives, or the first failure.
abbrev pub Outcome : Type 0 → Type 0
Outcome A = Result A Fault

abbrev pub fails : {A : Type 0} → Rule → Place → Outcome A
fails r p = Err (record { place = p; rule = r })

-- a step, and the next one where it does not fail
abbrev pub then : {A B : Type 0} → Outcome A → (A → Outcome B) → Outcome B
then (Ok x) f = f x
then (Err e) f = Err e

-- what is there, or the failure of a rule at a place
abbrev pub or_fails : {A : Type 0} → Option A → Rule → Place → Outcome A
or_fails None r p = fails r p
or_fails (Some x) r p = Ok x
