-- What the definitions give for addresses and bits.
use Rattle.std.proofs.Common.{drop, take, flat_map, ◌≡◌, ℕ, List, [], ◌∷◌, ◌++◌, refl, map, None}
use Rattle.std.specs.Fmt.{digits}
use Rattle.rdl_base.specs.declared.rule.Rule.TheVariants as rules
use Rattle.rdl_tree.specs.declared.expr.Path.{roll-Path}
use Rattle.rdl_tree.specs.declared.item.Source.{Source}
use Rattle.rdl_props.specs.Table.{reference_props, props}
use Rattle.rdl_values.specs.Uses.{at_}
use Rattle.rdl_values.specs.Instances.{nodes}
use Rattle.rdl_addr.specs.Bits.{bits_of}
use Rattle.rdl_addr.specs.Rules.{all_groups, failures_ab, registers}
use Rattle.rdl_verdict_laws.proofs.WorkedTrees.{at}
use Rattle.rdl_verdict_laws.proofs.AddressesSources.{mode_from_outside, compact_map, regalign_map, fullalign_map, odd_address, one_element_narrower, nested_map, small_stride, far_stride, read_and_write, read_and_read_write, read_and_narrow_write, shared_bits, width_from_outside, access_from_outside}
use Rattle.rdl_layers.specs.Settings.{setting}
use Rattle.rdl_addr.specs.Layout.{layout}

-- the addresses of the registers, in node order
abbrev addresses : Source → List ℕ
addresses s = map (λ p. p.address) (registers None s)

-- in compact mode an instance stands at the next multiple of its access width
compact_addresses : addresses compact_map ≡ 0x10 ∷ 0x1c ∷ 0x28 ∷ 0x40 ∷ 0x44 ∷ 0x48 ∷ 0x4c ∷ 0x50 ∷ 0x54 ∷ 0x58 ∷ 0x5c ∷ []
unfolding nodes setting layout all_groups failures_ab digits props reference_props roll-Path denote.Hole.Carrier.roll Rattle.rdl_tree.specs.declared.expr.Expr.TheBlock.hidden-the_row-Step-1 denote.Hole.Carrier.hidden Rattle.rdl_tree.specs.declared.item.Item.TheBlock.hidden-the_row-Item-0
compact_addresses = refl

-- in regalign mode at the next multiple of its size rounded up to a power of two, an array by its element
regalign_addresses : addresses regalign_map ≡ 0x10 ∷ 0x1c ∷ 0x28 ∷ 0x40 ∷ 0x44 ∷ 0x50 ∷ 0x54 ∷ 0x58 ∷ 0x60 ∷ 0x64 ∷ 0x68 ∷ []
unfolding nodes setting layout all_groups failures_ab digits props reference_props roll-Path denote.Hole.Carrier.roll Rattle.rdl_tree.specs.declared.expr.Expr.TheBlock.hidden-the_row-Step-1 denote.Hole.Carrier.hidden Rattle.rdl_tree.specs.declared.item.Item.TheBlock.hidden-the_row-Item-0
regalign_addresses = refl

-- in fullalign mode an array by its whole span
fullalign_addresses : addresses fullalign_map ≡ 0x10 ∷ 0x1c ∷ 0x28 ∷ 0x40 ∷ 0x44 ∷ 0x60 ∷ 0x64 ∷ 0x68 ∷ 0x70 ∷ 0x74 ∷ 0x78 ∷ []
unfolding nodes setting layout all_groups failures_ab digits props reference_props roll-Path denote.Hole.Carrier.roll Rattle.rdl_tree.specs.declared.expr.Expr.TheBlock.hidden-the_row-Step-1 denote.Hole.Carrier.hidden Rattle.rdl_tree.specs.declared.item.Item.TheBlock.hidden-the_row-Item-0
fullalign_addresses = refl

-- the elements of an array stand as far apart as the widest needs
widest_element_counts : addresses one_element_narrower ≡ 0 ∷ 4 ∷ 8 ∷ []
unfolding nodes setting layout all_groups failures_ab digits props reference_props roll-Path denote.Hole.Carrier.roll Rattle.rdl_tree.specs.declared.expr.Expr.TheBlock.hidden-the_row-Step-1 denote.Hole.Carrier.hidden Rattle.rdl_tree.specs.declared.item.Item.TheBlock.hidden-the_row-Item-0
widest_element_counts = refl

-- a width assigned from outside counts
width_from_outside_counts : addresses width_from_outside ≡ 0 ∷ 1 ∷ []
unfolding nodes setting layout all_groups failures_ab digits props reference_props roll-Path denote.Hole.Carrier.roll Rattle.rdl_tree.specs.declared.expr.Expr.TheBlock.hidden-the_row-Step-1 denote.Hole.Carrier.hidden Rattle.rdl_tree.specs.declared.item.Item.TheBlock.hidden-the_row-Item-0
width_from_outside_counts = refl

-- a nested map is placed by its parent's mode, and places by its own
nested_map_has_a_mode_of_its_own : addresses nested_map ≡ 0 ∷ 4 ∷ 8 ∷ 9 ∷ []
unfolding nodes setting layout all_groups failures_ab digits props reference_props roll-Path denote.Hole.Carrier.roll Rattle.rdl_tree.specs.declared.expr.Expr.TheBlock.hidden-the_row-Step-1 denote.Hole.Carrier.hidden Rattle.rdl_tree.specs.declared.item.Item.TheBlock.hidden-the_row-Item-0
nested_map_has_a_mode_of_its_own = refl

-- the three maps break no rule of layout
aligned_maps_break_no_rule : failures_ab None compact_map ++ failures_ab None regalign_map ++ failures_ab None fullalign_map ≡ []
unfolding nodes setting layout all_groups failures_ab digits props reference_props roll-Path denote.Hole.Carrier.roll Rattle.rdl_tree.specs.declared.expr.Expr.TheBlock.hidden-the_row-Step-1 denote.Hole.Carrier.hidden Rattle.rdl_tree.specs.declared.item.Item.TheBlock.hidden-the_row-Item-0
aligned_maps_break_no_rule = refl

-- a register at an address between two words is misaligned, and meets the one before it
odd_address_fails : failures_ab None odd_address ≡ at_ rules.A3 (at 60) ∷ at_ rules.A5 (at 60) ∷ []
unfolding nodes setting layout all_groups failures_ab digits props reference_props roll-Path denote.Hole.Carrier.roll Rattle.rdl_tree.specs.declared.expr.Expr.TheBlock.hidden-the_row-Step-1 denote.Hole.Carrier.hidden Rattle.rdl_tree.specs.declared.item.Item.TheBlock.hidden-the_row-Item-0
odd_address_fails = refl

-- elements closer than their size; an alignment of zero counts as one
small_stride_fails : failures_ab None small_stride ≡ at_ rules.A1 (at 36) ∷ at_ rules.A2 (at 71) ∷ at_ rules.A3 (at 36) ∷ at_ rules.A3 (at 71) ∷ at_ rules.A5 (at 36) ∷ []
unfolding nodes setting layout all_groups failures_ab digits props reference_props roll-Path denote.Hole.Carrier.roll Rattle.rdl_tree.specs.declared.expr.Expr.TheBlock.hidden-the_row-Step-1 denote.Hole.Carrier.hidden Rattle.rdl_tree.specs.declared.item.Item.TheBlock.hidden-the_row-Item-0
small_stride_fails = refl

-- the second element ends far above 2^32
far_stride_fails : failures_ab None far_stride ≡ at_ rules.A4 (at 32) ∷ []
unfolding nodes setting layout all_groups failures_ab digits props reference_props roll-Path denote.Hole.Carrier.roll Rattle.rdl_tree.specs.declared.expr.Expr.TheBlock.hidden-the_row-Step-1 denote.Hole.Carrier.hidden Rattle.rdl_tree.specs.declared.item.Item.TheBlock.hidden-the_row-Item-0
far_stride_fails = refl

-- a read-only register and a write-only one share an address
read_and_write_share : failures_ab None read_and_write ≡ []
unfolding nodes setting layout all_groups failures_ab digits props reference_props roll-Path denote.Hole.Carrier.roll Rattle.rdl_tree.specs.declared.expr.Expr.TheBlock.hidden-the_row-Step-1 denote.Hole.Carrier.hidden Rattle.rdl_tree.specs.declared.item.Item.TheBlock.hidden-the_row-Item-0
read_and_write_share = refl

-- also where what makes the one read-only is assigned from outside
access_from_outside_counts : failures_ab None access_from_outside ≡ []
unfolding nodes setting layout all_groups failures_ab digits props reference_props roll-Path denote.Hole.Carrier.roll Rattle.rdl_tree.specs.declared.expr.Expr.TheBlock.hidden-the_row-Step-1 denote.Hole.Carrier.hidden Rattle.rdl_tree.specs.declared.item.Item.TheBlock.hidden-the_row-Item-0
access_from_outside_counts = refl

-- one that is also read does not
both_read : failures_ab None read_and_read_write ≡ at_ rules.A5 (at 102) ∷ []
unfolding nodes setting layout all_groups failures_ab digits props reference_props roll-Path denote.Hole.Carrier.roll Rattle.rdl_tree.specs.declared.expr.Expr.TheBlock.hidden-the_row-Step-1 denote.Hole.Carrier.hidden Rattle.rdl_tree.specs.declared.item.Item.TheBlock.hidden-the_row-Item-0
both_read = refl

-- nor one of another width
shapes_differ : failures_ab None read_and_narrow_write ≡ at_ rules.A5 (at 114) ∷ []
unfolding nodes setting layout all_groups failures_ab digits props reference_props roll-Path denote.Hole.Carrier.roll Rattle.rdl_tree.specs.declared.expr.Expr.TheBlock.hidden-the_row-Step-1 denote.Hole.Carrier.hidden Rattle.rdl_tree.specs.declared.item.Item.TheBlock.hidden-the_row-Item-0
shapes_differ = refl

-- a field without a range begins one bit above the one before it
bits_follow : map {B = ℕ × ℕ} (λ b. (b.high, b.low)) (flat_map bits_of (drop 1 (take 2 (nodes None shared_bits)))) ≡ (7, 0) ∷ (7, 4) ∷ (9, 8) ∷ (12, 10) ∷ (8, 8) ∷ (32, 32) ∷ []
unfolding nodes setting layout all_groups failures_ab digits props reference_props roll-Path denote.Hole.Carrier.roll Rattle.rdl_tree.specs.declared.expr.Expr.TheBlock.hidden-the_row-Step-1 denote.Hole.Carrier.hidden Rattle.rdl_tree.specs.declared.item.Item.TheBlock.hidden-the_row-Item-0
bits_follow = refl

-- a bit that is only read and only written is shared; others are not, and none stands outside the register
bits_clash : failures_ab None shared_bits ≡ at_ rules.B2 (at 128) ∷ at_ rules.B1 (at 148) ∷ []
unfolding nodes setting layout all_groups failures_ab digits props reference_props roll-Path denote.Hole.Carrier.roll Rattle.rdl_tree.specs.declared.expr.Expr.TheBlock.hidden-the_row-Step-1 denote.Hole.Carrier.hidden Rattle.rdl_tree.specs.declared.item.Item.TheBlock.hidden-the_row-Item-0
bits_clash = refl

-- so do widths and the mode that assignments from outside give, in a register file and in a nested map
mode_from_outside_counts : addresses mode_from_outside ≡ 0 ∷ 4 ∷ 8 ∷ 9 ∷ 13 ∷ []
unfolding nodes setting layout all_groups failures_ab digits props reference_props roll-Path denote.Hole.Carrier.roll Rattle.rdl_tree.specs.declared.expr.Expr.TheBlock.hidden-the_row-Step-1 denote.Hole.Carrier.hidden Rattle.rdl_tree.specs.declared.item.Item.TheBlock.hidden-the_row-Item-0
mode_from_outside_counts = refl
