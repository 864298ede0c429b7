-- One number more.
use Rattle.std.proofs.Common.{◌+◌, sym, subst}
use Rattle.gen_decode.proofs.Spreading.{RowsTo, rows_found, rows_kept}
use Rattle.gen_decode.proofs.spread.rows_of.Goals.{then-needed-k, else-needed-k}
use Rattle.gen_decode.proofs.spread.rows_of.Goals as goal

pub loop-k-preserved : goal.loop-k-preserved
loop-k-preserved c = elim c.if-needed-k.branch [
  | then-needed-k w ↦ subst (λ rs. RowsTo c.args.needed.now c.args.level rs.items (c.loop-k.k + 1)) (sym w.rows-is) (rows_found c.args.needed.now c.args.level c.loop-k.rows.items c.loop-k.k c.loop-k-test.true c.loop-k.invariant)
  | else-needed-k w ↦ subst (λ rs. RowsTo c.args.needed.now c.args.level rs.items (c.loop-k.k + 1)) (sym w.rows-is) (rows_kept c.args.needed.now c.args.level c.loop-k.rows.items c.loop-k.k w.if-needed-k.false c.loop-k.invariant)
]
