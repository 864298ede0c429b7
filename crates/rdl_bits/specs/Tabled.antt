-- The bits of fields, node by node.
use Rattle.std.specs.Prelude.{◌≡◌, ◌↔◌, ℕ, ◌<◌, true, cond, List, [], length, flat_map, take, Some, Contains, slice_get}
use Rattle.rdl_base.specs.declared.fault.Fault.{Fault}
use Rattle.rdl_tree.specs.declared.item.Kind.TheVariants as kind
use Rattle.rdl_tree.specs.declared.node.Elab.{Elab}
use Rattle.rdl_values.specs.Bodies.{standing}
use Rattle.rdl_values.specs.Instances.{Instance}
use Rattle.rdl_values.specs.Lineages.{Lineage, child_of, lineages_of}
use Rattle.rdl_layers.specs.Fields.{is_a}
use Rattle.rdl_addr.specs.Bits.{Bits, bits_of}
use Rattle.rdl_addr.specs.Rules.{of_bits}
use Rattle.rdl_addr.specs.Areas.{bits_at}
use Rattle.rdl_bits.specs.declared.table.BitTable.{BitTable}
use Rattle.rdl_bits.specs.Written.{narrow}

-- The bits of a field in its register, where eight bits can hold them.
pub record IsBitsOf (r c : Instance) (bits : ℕ × ℕ) : Type 0 where
  pub of : Bits
  pub among : Contains (bits_of r) of
  pub node_ : of.node ≡ c
  pub kept : bits ≡ (narrow of.high, narrow of.low)

-- the failures of B1 and B2 of a register
unfoldable pub bit_faults : Instance → List Fault
bit_faults r = cond (is_a kind.Reg r) (flat_map (of_bits r) (standing (bits_of r))) []

-- What is known of the first nodes: the bits of the fields in them, and the failures.
pub record AreBitsTo (e : Elab) (to : ℕ) (t : BitTable) : Type 0 where
  pub sized : length t.bits.items ≡ length (lineages_of e)
  pub fields : (i k : ℕ) (l : Lineage) (c : Instance) → i < to → slice_get (lineages_of e) i ≡ Some l → is_a kind.Reg l.node ≡ true → slice_get (lineages_of e) k ≡ Some (child_of l c) → is_a kind.Field c ≡ true → IsBitsOf l.node c (bits_at t.bits.items k)
  pub failures : (f : Fault) → Contains t.faults.items f ↔ Contains (flat_map (λ l. bit_faults l.node) (take to (lineages_of e))) f

-- of all nodes
abbrev pub AreBits : Elab → BitTable → Type 0
AreBits e t = AreBitsTo e (length (lineages_of e)) t
