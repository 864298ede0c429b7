use Rattle.std.proofs.Common.{◌≡◌}
use Rattle.rdl_bind.proofs.ReferenceLists.{edges_to}
use Rattle.rdl_bind.proofs.reference_table.edges_from_all.Given as goal

abbrev pub invariant-loop-item : goal.invariant-loop-item
invariant-loop-item l = l.edges ≡ edges_to l.known.props.now l.item-index
