use Rattle.std.proofs.Common.{◌≡◌, ◌-◌, ◌^◌, min, take}
use Rattle.rdl_values.specs.Rows.{product}
use Rattle.rdl_walk.proofs.row.size_of.Given as goal

abbrev pub invariant-loop-dim : goal.invariant-loop-dim
invariant-loop-dim l = l.size ≡ min (product (take l.dim-index l.dims)) (2 ^ 64 - 1)
