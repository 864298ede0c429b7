use Rattle.std.proofs.Common.{true, false, arith}
use Rattle.rdl_nodes.proofs.Members.{get-made}
use Rattle.rdl_block_numbers.proofs.Ranking.{marked-one}
use Rattle.rdl_block_numbers.proofs.ranks.marked.Goals as goal
use Rattle.rdl_block_numbers.proofs.ranks.marked.Goals.{then-mark, else-mark}

pub loop-mark-preserved : goal.loop-mark-preserved
loop-mark-preserved c = elim c.if-mark.branch [
  | then-mark w ↦ (marked-one c.args.marks.now c.loop-mark.mark-index c.loop-mark.count c.if-mark.count true (get-made c.args.marks.now c.loop-mark.mark-index _ true c.loop-mark-test.true w.if-mark.true) c.loop-mark.invariant.0 w.count-is, (let i = c.loop-mark.invariant.1 in let n = w.count-is in omega (arith, i, n)))
  | else-mark w ↦ (marked-one c.args.marks.now c.loop-mark.mark-index c.loop-mark.count c.if-mark.count false (get-made c.args.marks.now c.loop-mark.mark-index _ false c.loop-mark-test.true w.if-mark.false) c.loop-mark.invariant.0 w.count-is, (let i = c.loop-mark.invariant.1 in let n = w.count-is in omega (arith, i, n)))
]
