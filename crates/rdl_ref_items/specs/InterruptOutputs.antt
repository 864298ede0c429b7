-- What a register has for others to refer to.
use Rattle.std.specs.Prelude.{◌≡◌, ℕ, ◌<◌, false, List, [], ◌∷◌, length, Some, slice_get, slice_index_or}
use Rattle.std.specs.List.{list_any}
use Rattle.rdl_tree.specs.declared.node.Elab.{Elab}
use Rattle.rdl_props.specs.declared.prop.Prop.TheVariants as prop
use Rattle.rdl_values.specs.Elaborated.{nodes_of}
use Rattle.rdl_values.specs.Instances.{Instance}
use Rattle.rdl_layers.specs.Fields.{fields_of, has_one_of, is_interrupt}
use Rattle.rdl_ref_items.specs.declared.interrupt_outputs.InterruptOutputs.{InterruptOutputs}

-- The mark is that of a node: what its fields are.
pub record IsInterruptOutputs (m : InterruptOutputs) (n : Instance) : Type 0 where
  pub interrupts_ : m.interrupts ≡ list_any is_interrupt (fields_of n)
  pub halts_ : m.halts ≡ list_any (has_one_of (prop.Haltenable ∷ prop.Haltmask ∷ [])) (fields_of n)

abbrev pub mark_at : List InterruptOutputs → ℕ → InterruptOutputs
mark_at ms k = slice_index_or ms k (record { interrupts = false; halts = false })

-- Of the first nodes, each at its number.
pub record AreMarksTo (e : Elab) (ms : List InterruptOutputs) (to : ℕ) : Type 0 where
  pub many : length ms ≡ to
  pub each : (k : ℕ) (n : Instance) → k < to → slice_get (nodes_of e) k ≡ Some n → IsInterruptOutputs (mark_at ms k) n

-- of all nodes
abbrev pub AreInterruptOutputs : Elab → List InterruptOutputs → Type 0
AreInterruptOutputs e ms = AreMarksTo e ms (length (nodes_of e))
