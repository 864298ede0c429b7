-- What the calls of this crate answer.
use Rattle.std.specs.Prelude.{◌≡◌, ℕ, [], Some, Result, Ok, Err, slice_get}
use Rattle.rdl_props.specs.declared.prop.Prop.{Prop}
use Rattle.rdl_tree.specs.declared.node.Elab.{Elab}
use Rattle.rdl_values.specs.Elaborated.{top_name, nodes_of}
use Rattle.rdl_values.specs.Instances.{Instance}
use Rattle.rdl_values.specs.Verdict.{Fails, IsListOf, IsRefusal}
use Rattle.rdl_failures.specs.declared.error.PhaseError.{PhaseError}
use Rattle.rdl_failures.specs.declared.error.PhaseError.TheVariants as error
use Rattle.rdl_layers.specs.declared.setting.Setting.{Setting}
use Rattle.rdl_layers.specs.Phase4.{fails4}
use Rattle.rdl_layers.specs.Says.{Says}
use Rattle.rdl_layers.specs.Settings.{setting}

-- the failures of the settings phase, of a tree of instances
abbrev pub settings_fail : Elab → Fails
settings_fail e = fails4 (Some (top_name e)) e.source.now

-- no rule on settings fails
abbrev pub IsSettled : Elab → Type 0
IsSettled e = IsListOf (settings_fail e) []

-- `settle`: the settings of the tree where no rule on settings fails, else the list of all failures. Want of memory may be
-- answered anywhere. Settings are seen as the tree that they are of.
abbrev pub Answers4 : Elab → Result Elab PhaseError → Type 0
Answers4 e (Ok of) = IsSettled e × (of ≡ e)
Answers4 e (Err (error.Faults list)) = IsRefusal (settings_fail e) list.items
Answers4 e (Err error.NoMemory) = Unit {0}

-- `Props::value`: what a property of the node of a number is set to
abbrev pub SaysAt : Elab → ℕ → Prop → Setting → Type 0
SaysAt e k p s = (n : Instance) × (slice_get (nodes_of e) k ≡ Some n) × Says (nodes_of e) s (setting n p)
