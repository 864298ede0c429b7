-- The failures of the rules on the addresses of registers.
use Rattle.std.specs.Prelude.{List, ◌++◌, Some, flat_map}
use Rattle.rdl_base.specs.declared.fault.Fault.{Fault}
use Rattle.rdl_tree.specs.declared.node.Elab.{Elab}
use Rattle.rdl_values.specs.Elaborated.{top_name}
use Rattle.rdl_values.specs.Instances.{top_of}
use Rattle.rdl_addr.specs.Layout.{Placed}
use Rattle.rdl_addr.specs.Rules as rules
use Rattle.rdl_addr.specs.Rules.{misaligned, overlaps, too_large, too_many}

-- the registers of a tree, where they stand
abbrev pub registers_of : Elab → List Placed
registers_of e = rules.registers (Some (top_name e)) e.source.now

-- those of A5, A3, A4 and A6
unfoldable pub failures_of_addresses : Elab → List Fault
failures_of_addresses e = overlaps (registers_of e) ++ flat_map misaligned (registers_of e) ++ flat_map too_large (registers_of e) ++ too_many (top_of (Some (top_name e)) e.source.now) (registers_of e)
