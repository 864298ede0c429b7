use Rattle.std.proofs.Common.{map}
use Rattle.rdl_tree.specs.declared.item.Kind.TheVariants as kinds
use Rattle.rdl_layers.specs.Fields.{is_a}
use Rattle.rdl_tree.specs.Kinds.{same_kind}
use Rattle.rdl_sizes.proofs.Offsets.{Written}
use Rattle.rdl_bits.specs.Written.{narrowed}
use Rattle.rdl_bits.proofs.Fielded.{same_field}
use Rattle.rdl_bits.proofs.writes.write_bits.Given as goal

abbrev pub invariant-loop-child : goal.invariant-loop-child
invariant-loop-child l = Written (0, 0) (same_kind kinds.Field) (is_a kinds.Field) same_field l.fn.table l.table (map narrowed l.bits) l.children l.child-index l.next
