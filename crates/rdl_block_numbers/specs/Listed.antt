-- Which nodes the lists of a block have.
use Rattle.std.specs.Prelude.{Bool, false, not, ◌&&◌, List, [], ◌∷◌}
use Rattle.rdl_tree.specs.declared.item.Kind.TheVariants as kind
use Rattle.rdl_values.specs.Instances.{Instance}
use Rattle.rdl_values.specs.Lineages.{Lineage}
use Rattle.rdl_layers.specs.Fields.{is_a, is_alias}
use Rattle.rdl_block_numbers.specs.declared.listed.Listing.{Listing}
use Rattle.rdl_block_numbers.specs.declared.listed.Listing.TheVariants as listing
use Rattle.rdl_rules.specs.Numbers.{all_fields, all_signals, registers}

-- a register that is no alias
abbrev pub is_primary : Instance → Bool
is_primary r = is_a kind.Reg r && not (is_alias r)

-- what stands in these nodes, the nearest first, stands in such a register
abbrev pub in_primary : List Instance → Bool
in_primary [] = false
in_primary (r ∷ up) = is_primary r

-- a field of one
abbrev pub is_own_field : Lineage → Bool
is_own_field l = is_a kind.Field l.node && in_primary l.ancestors

-- the list has the node
abbrev pub is_listed : Listing → Lineage → Bool
is_listed listing.Signals l = is_a kind.Signal l.node
is_listed listing.Fields l = is_own_field l
is_listed listing.Registers l = is_a kind.Reg l.node

-- the list of a block
abbrev pub list_of : Listing → List Instance → List Instance
list_of listing.Signals ns = all_signals ns
list_of listing.Fields ns = all_fields ns
list_of listing.Registers ns = registers ns
