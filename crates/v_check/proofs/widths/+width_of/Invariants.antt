use Rattle.std.proofs.Common.{◌≡◌, ◌++◌, map, take}
use Rattle.v_design.specs.Expr.{Cat, nets_of_each}
use Rattle.v_check.specs.Nets.{nets_seen, number_of, width_in}
use Rattle.v_check.specs.Sizes.{sized_width}
use Rattle.v_check.proofs.Exprs.{listed}
use Rattle.v_check.proofs.widths.+width_of.Given as goal

abbrev pub invariant-loop-part : goal.invariant-loop-part
invariant-loop-part l = record {
  width : l.total ≡ sized_width (width_in (nets_seen l.nets)) (Cat (listed (take l.part-index l.part-items)));
  uses : l.uses.items ≡ l.fn.uses.items ++ map (number_of l.nets) (nets_of_each (listed (take l.part-index l.part-items)));
}
