-- What is known of fields and signals beside their settings.
use Rattle.std.specs.Prelude.{◌≡◌, ℕ, ◌≤◌, true, false, List, length, Some, slice_get, slice_index_or}
use Rattle.std.specs.List.{All, list_any}
use Rattle.rdl_tree.specs.declared.node.Elab.{Elab}
use Rattle.rdl_values.specs.Elaborated.{nodes_of}
use Rattle.rdl_values.specs.Instances.{Instance, kind_of}
use Rattle.rdl_values.specs.Parts.{is_unit}
use Rattle.rdl_layers.specs.Phase4.{width_of}
use Rattle.rdl_layers.specs.Settings.{is_assigned}
use Rattle.rdl_rules.specs.FieldRules.{encode_too_wide, interrupt_parts}
use Rattle.rdl_rules.specs.declared.fact.Fact.{Fact}

-- The facts are those of this node.
pub record IsFact (f : Fact) (n : Instance) : Type 0 where
  pub width_ : f.width ≡ width_of n
  pub parts_ : f.has_parts ≡ list_any (is_assigned n) interrupt_parts
  pub entry_ : f.has_wide_entry ≡ encode_too_wide n

-- those at a number
abbrev pub fact_at : List Fact → ℕ → Fact
fact_at fs k = slice_index_or fs k (record { width = 0; has_parts = false; has_wide_entry = false })

-- Node by node those of the fields and signals of a tree. No width is above 64, the most that rule P11 lets be.
pub record AreFacts (e : Elab) (fs : List Fact) : Type 0 where
  pub all_nodes : length fs ≡ e.count
  pub narrow : All (λ f. f.width ≤ 64) fs
  pub of_each : (k : ℕ) (n : Instance) → slice_get (nodes_of e) k ≡ Some n → is_unit (kind_of n) ≡ true → IsFact (fact_at fs k) n
