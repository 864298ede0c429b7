-- What is known of all fields of a tree.
use Rattle.std.specs.Prelude.{◌≡◌, ℕ, ◌<◌, Bool, List, length, Some, slice_get}
use Rattle.rdl_tree.specs.declared.node.Elab.{Elab}
use Rattle.rdl_values.specs.Elaborated.{nodes_of}
use Rattle.rdl_values.specs.Instances.{Instance}
use Rattle.rdl_layers.specs.Fields.{is_once}
use Rattle.rdl_rules.specs.Facts.{AreFacts}
use Rattle.rdl_block_numbers.specs.Texts.{AreTexts}
use Rattle.rdl_members.specs.Covered.{AreOverViews}
use Rattle.rdl_reset_rules.specs.Nearest.{AreNearest}
use Rattle.rdl_fields.specs.Touched.{touches}
use Rattle.rdl_field_list.specs.declared.tables.FieldTables.{FieldTables}

-- The tables are those of this tree.
pub record AreTables (e : Elab) (t : FieldTables) : Type 0 where
  pub facts_ : AreFacts e t.facts.now
  pub texts_ : AreTexts e t.texts.now
  pub nearest_ : AreNearest e t.nearest.now
  pub touched_ : AreOverViews e touches t.touched.now
  pub once_ : AreOverViews e is_once t.once.now

-- Of the first nodes whether software writes through each only once.
pub record AreOnceTo (e : Elab) (to : ℕ) (ts : List Bool) : Type 0 where
  pub many : length ts ≡ to
  pub each : (k : ℕ) (n : Instance) → k < to → slice_get (nodes_of e) k ≡ Some n → slice_get ts k ≡ Some (is_once n)
