-- Which items the nodes of a tree have.
use Rattle.std.specs.Prelude.{◌≡◌, true, Contains, List}
use Rattle.rdl_tree.specs.declared.item.Kind.{Kind}
use Rattle.rdl_tree.specs.declared.item.Kind.TheVariants as kind
use Rattle.rdl_values.specs.Instances.{Instance, kind_of}
use Rattle.rdl_layers.specs.Fields.{is_counter}
use Rattle.rdl_refs.specs.Items.{Item}
use Rattle.rdl_refs.specs.declared.item.What.{What}
use Rattle.rdl_refs.specs.declared.item.What.TheVariants as what
use Rattle.rdl_rules.specs.Block.{reg_of}
use Rattle.rdl_rules.specs.Numbers.{all_fields, all_signals, registers}

-- A field of a register that is no alias has its value and what is made of it, and a counter what its counting gives.
abbrev pub FieldHas : Instance → What → Type 0
FieldHas n what.IncrThreshold = is_counter n ≡ true
FieldHas n what.DecrThreshold = is_counter n ≡ true
FieldHas n what.Overflow = is_counter n ≡ true
FieldHas n what.Underflow = is_counter n ≡ true
FieldHas n what.Intr = ⊥
FieldHas n what.Halt = ⊥
FieldHas n _ = Unit {0}

-- a signal has its value, and a register that is no alias the lines of its interrupts
abbrev pub NodeHas : List Instance → Instance → Kind → What → Type 0
NodeHas ns n kind.Signal what.Value = Contains (all_signals ns) n
NodeHas ns n kind.Field w = Contains (all_fields ns) n × FieldHas n w
NodeHas ns n kind.Reg what.Intr = Contains (registers ns) n × ((reg_of n).intr ≡ true)
NodeHas ns n kind.Reg what.Halt = Contains (registers ns) n × ((reg_of n).halt ≡ true)
NodeHas ns n k w = ⊥

abbrev pub HasItem : List Instance → Item → Type 0
HasItem ns i = NodeHas ns i.node (kind_of i.node) i.what
