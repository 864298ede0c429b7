-- Failures as lists: a rule's failures are those of each body, use or node, one after the other.
use Rattle.std.specs.Prelude.{Bool, cond, List, [], ◌∷◌, Ok, Err}
use Rattle.rb_base.specs.declared.place.Place.{Place}
use Rattle.rdl_base.specs.declared.fault.Fault.{Fault}
use Rattle.rdl_base.specs.declared.rule.Rule.{Rule}
use Rattle.rdl_values.specs.Values.{Outcome}

abbrev pub at_ : Rule → Place → Fault
at_ r p = record { place = p; rule = r }

abbrev pub when : {A : Type 0} → Bool → A → List A
when t x = cond t (x ∷ []) []

-- that of a value, if it fails
abbrev pub failures : {A : Type 0} → Outcome A → List Fault
failures (Ok x) = []
failures (Err f) = f ∷ []
