-- Assignments and settings apart from where the parts of their tree lie in memory.
use Rattle.std.specs.Prelude.{map, option_map, Ok, Err}
use Rattle.rdl_verdict_laws.specs.Plain.{plain_name, plain_path, plain_set, plain_step}
use Rattle.rdl_values.specs.Values.{Outcome}
use Rattle.rdl_verdict_laws.specs.PlainInstances.{plain_scope, plain_body}
use Rattle.rdl_layers.specs.Forms.{Meaning, unset, flag, number, text, named, intr, hard, enum_of, reference}
use Rattle.rdl_layers.specs.Meanings.{Assignment}
use Rattle.rdl_layers.specs.Assignments.{Dynamic, Nested}
use Rattle.rdl_layers.specs.Settings.{Applied}

abbrev pub plain_meaning : Meaning → Meaning
plain_meaning (enum_of n s) = enum_of (plain_name n) (plain_scope s)
plain_meaning (reference p n s q) = reference (plain_path p) (option_map plain_name n) (plain_scope s) q
plain_meaning unset = unset
plain_meaning (flag b) = flag b
plain_meaning (number n) = number n
plain_meaning (text s) = text s
plain_meaning (named w) = named w
plain_meaning (intr e) = intr e
plain_meaning (hard b) = hard b

abbrev pub plain_outcome : Outcome Meaning → Outcome Meaning
plain_outcome (Ok m) = Ok (plain_meaning m)
plain_outcome (Err f) = Err f

abbrev pub plain_assignment : Assignment → Assignment
plain_assignment a = record { set_ = plain_set a.set_; scope = plain_scope a.scope }

abbrev pub plain_dynamic : Dynamic → Dynamic
plain_dynamic d = record { steps = map plain_step d.steps; assigns = plain_assignment d.assigns }

abbrev pub plain_nested : Nested → Nested
plain_nested b = (map plain_body b.0, plain_body b.1)

abbrev pub plain_applied : Applied → Applied
plain_applied a = record { candidate = a.candidate; value = plain_meaning a.value }
