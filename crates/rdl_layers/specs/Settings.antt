-- The setting of a property on a node: what the assignment of least rank makes of it (SystemRDL 2.0, 5.1.3).
use Rattle.std.specs.Prelude.{ℕ, ◌+◌, Bool, false, not, ◌&&◌, cond, List, [], ◌∷◌, ◌++◌, length, map, flat_map, filter, find, Option, None, Some, is_some, option_to_list, Ok, Err}
use Rattle.std.specs.List.{list_any}
use Rattle.rdl_props.specs.declared.prop.Prop.{Prop}
use Rattle.rdl_props.specs.declared.prop.Prop.TheVariants as prop
use Rattle.rdl_props.specs.Table.{Default, is_legal, group_of, default_of}
use Rattle.rdl_props.specs.Table as table
use Rattle.rdl_values.specs.Values.{Outcome, number_of}
use Rattle.rdl_values.specs.Bodies.{Scope, around, standing}
use Rattle.rdl_values.specs.Uses.{Use}
use Rattle.rdl_values.specs.Instances.{Instance, body}
use Rattle.rdl_layers.specs.declared.rank.Rank.{Rank}
use Rattle.rdl_layers.specs.declared.rank.Rank.TheVariants as rank
use Rattle.rdl_layers.specs.declared.candidate.Candidate.{Candidate}
use Rattle.rdl_props.specs.Same.{same_prop}
use Rattle.rdl_layers.specs.Ranks.{decides}
use Rattle.rdl_layers.specs.Meanings.{Assignment, prop_of, meaning}
pub use Rattle.rdl_layers.specs.Forms.{Meaning, unset, flag, number, text, named, intr, hard, enum_of, reference}
use Rattle.rdl_layers.specs.Assignments.{Nested, locals, defaults_before, dynamics, targets, is_among}
use Rattle.rdl_layers.specs.Judged.{failures_of, failures_of_dynamic, legal_on, anywhere, sound}

-- An assignment that applies to a node, with its rank and what it gives.
pub record Applied : Type 0 where
  pub candidate : Candidate
  pub value : Meaning

-- a property, given this at this rank
abbrev pub applied : Rank → Prop → Meaning → Applied
applied rank p m = record { candidate = record { prop = p; rank = rank }; value = m }

-- the value, in a list of one, or none
abbrev pub given : {A : Type 0} → Outcome A → List A
given (Ok x) = x ∷ []
given (Err f) = []

-- what an assignment gives, at this rank
abbrev pub gives : Rank → Assignment → List Applied
gives rank a = flat_map (λ p. map (applied rank p) (given (meaning p a))) (option_to_list (prop_of a))

-- The layers. Assignments that fail a rule are left out, each as a whole.

-- dynamic assignments in the body of a node above, whose depth is the count of bodies round it
abbrev pub from_above : Instance → Nested → List Applied
from_above n b = flat_map (λ d. gives (rank.Dynamic (length b.0)) d.assigns) (filter (λ d. is_among (targets b d) n) (sound (failures_of_dynamic b) (dynamics b.1)))

-- the instance's own value, a reset
abbrev pub from_instance : Use → List Applied
from_instance u = flat_map (λ e. map (λ k. applied rank.Instance prop.Reset (number k)) (given (number_of (around u.scope) e))) (option_to_list u.form.reset)

-- the body of the node's definition
abbrev pub from_body : Instance → List Applied
from_body n = flat_map (gives rank.Body) (sound (failures_of (legal_on n)) (locals (body n)))

-- defaults before the definition in the bodies round its text; one that isn't legal on the node has no effect there
abbrev pub from_defaults : Instance → ℕ → Scope → List Applied
from_defaults n distance [] = []
from_defaults n distance (l ∷ outer) =
    filter (λ a. legal_on n a.candidate.prop) (flat_map (gives (rank.Default distance)) (sound (failures_of anywhere) (defaults_before l outer)))
    ++ from_defaults n (distance + 1) outer

-- all that is assigned to a node
abbrev pub applied_to : Instance → List Applied
applied_to n = flat_map (from_above n) (standing n.above) ++ from_instance n.use_ ++ from_body n ++ from_defaults n 0 n.closure.scope

-- an assignment of the property applies, be it overridden
abbrev pub is_assigned : Instance → Prop → Bool
is_assigned n p = list_any (λ a. same_prop p a.candidate.prop) (applied_to n)

-- What the deciding assignment makes of a property: another member of the group leaves it unset, and a false member leaves
-- the whole group unset.

-- the boolean false; the number 0 is none
abbrev pub is_false : Meaning → Bool
is_false (flag b) = not b
is_false _ = false

-- what this assignment makes of the property
abbrev pub settled : Prop → Applied → Meaning
settled p a = cond (same_prop p a.candidate.prop && not (is_some (group_of p) && is_false a.value)) a.value unset

-- what it makes of the property, if one decides
abbrev pub settled_if : Prop → Option Applied → Meaning
settled_if p None = unset
settled_if p (Some a) = settled p a

-- the assignment that decides the property
abbrev pub deciding_of : Prop → List Applied → Option Applied
deciding_of p all = find (λ a. decides p (map (λ b. b.candidate) all) a.candidate) all

-- a default of the table, as a setting
abbrev pub meaning_of_default : Default → Meaning
meaning_of_default table.unset = unset
meaning_of_default (table.flag b) = flag b
meaning_of_default (table.number n) = number n
meaning_of_default (table.named w) = named w
meaning_of_default (table.hard b) = hard b

-- The setting, where the table gives this default.
abbrev pub setting_or : Meaning → Instance → Prop → Meaning
setting_or default n p = settled_if p (deciding_of p (applied_to n ++ (applied rank.Table p default ∷ [])))

-- The table's default of accesswidth is the register's regwidth.
unfoldable pub setting : Instance → Prop → Meaning
setting n prop.Accesswidth = setting_or (setting_or (meaning_of_default (default_of prop.Regwidth)) n prop.Regwidth) n prop.Accesswidth
setting n p = setting_or (meaning_of_default (default_of p)) n p
