use Rattle.rdl_addr.specs.Layout.{has_address}
use Rattle.rdl_sizes.specs.Bodies.{addressed}
use Rattle.rdl_sizes.proofs.Gathered.{placed-by-kind}
use Rattle.rdl_sizes.proofs.Offsets.{Written}
use Rattle.rdl_sizes.proofs.writing.write_offsets.Given as goal

abbrev pub invariant-loop-child : goal.invariant-loop-child
invariant-loop-child l = Written 0 addressed has_address placed-by-kind l.fn.offsets l.offsets l.starts l.children l.child-index l.next
