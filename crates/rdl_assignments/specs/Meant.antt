-- What the code's settings mean.
use Rattle.std.specs.Prelude.{◌≡◌, ℕ, Result, Ok, Err}
use Rattle.rdl_base.specs.declared.fault.Fault.{Fault}
use Rattle.rdl_values.specs.Bodies.{Scope}
use Rattle.rdl_values.specs.Values.{Outcome}
use Rattle.rdl_layers.specs.Forms.{Meaning, unset, flag, number, text, named, intr, hard, enum_of, reference}
use Rattle.rdl_layers.specs.declared.setting.Setting.{Setting}
use Rattle.rdl_layers.specs.declared.setting.Setting.TheVariants as set

-- what a setting means where the assignment's text stands in these bodies
abbrev pub meaning_in : Scope → Setting → Meaning
meaning_in scope set.Unset = unset
meaning_in scope (set.Flag b) = flag b
meaning_in scope (set.Number n) = number n
meaning_in scope (set.Str s) = text s.now
meaning_in scope (set.Word w) = named w
meaning_in scope (set.Intr e) = intr e
meaning_in scope (set.Hard b) = hard b
meaning_in scope (set.EnumOf n k) = enum_of n.now scope
meaning_in scope (set.Ref p item k at) = reference p.now item.now scope at

-- the same of a setting, or a failure in place of one
abbrev pub outcome_in : Scope → Result Setting Fault → Outcome Meaning
outcome_in scope (Ok s) = Ok (meaning_in scope s)
outcome_in scope (Err f) = Err f

-- the body that an enumeration's name or a reference stands in has this number
abbrev pub StandsIn : ℕ → Setting → Type 0
StandsIn body (set.EnumOf n k) = k ≡ body
StandsIn body (set.Ref p item k at) = k ≡ body
StandsIn body _ = Unit {0}
