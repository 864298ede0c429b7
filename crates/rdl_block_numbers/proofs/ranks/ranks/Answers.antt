use Rattle.std.proofs.Common.{◌∙◌, ◌+◌, true, false, sym, subst, arith}
use Rattle.rdl_nodes.proofs.Members.{get-made}
use Rattle.rdl_block_numbers.specs.Ranks.{AreRanksTo}
use Rattle.rdl_block_numbers.proofs.Ranking.{marked-one, marked-past, one-rank}
use Rattle.rdl_block_numbers.proofs.ranks.ranks.Goals as goal
use Rattle.rdl_block_numbers.proofs.ranks.ranks.Goals.{then-mark+in_ok-push, else-mark+in_ok-push-2}

pub overflow_add-before : goal.overflow_add-before
overflow_add-before c =
    let at = get-made c.args.marks.now c.loop-mark.mark-index _ true c.loop-mark-test.true c.if-mark.true in
    let past = marked-past c.args.marks.now c.loop-mark.mark-index c.loop-mark.before at c.loop-mark.invariant.0 in
    omega (arith, past, c.marked.ensures, c.in_ok-all.ensures.below)

pub loop-mark-preserved : goal.loop-mark-preserved
loop-mark-preserved c = elim c.if-mark.branch [
  | then-mark+in_ok-push w ↦
      let at = get-made c.args.marks.now c.loop-mark.mark-index _ true c.loop-mark-test.true w.if-mark.true in
      (marked-one c.args.marks.now c.loop-mark.mark-index c.loop-mark.before c.if-mark.before true at c.loop-mark.invariant.0 w.before-is, subst (λ v. AreRanksTo c.args.marks.now (c.loop-mark.mark-index + 1) v.items) (sym w.ranks-is) (one-rank c.args.marks.now c.loop-mark.ranks.items w.push.new.self.items c.loop-mark.mark-index c.loop-mark.before true at c.loop-mark.invariant.1 w.in_ok-push.ensures.items c.loop-mark.invariant.0))
  | else-mark+in_ok-push-2 w ↦
      let at = get-made c.args.marks.now c.loop-mark.mark-index _ false c.loop-mark-test.true w.if-mark.false in
      (marked-one c.args.marks.now c.loop-mark.mark-index c.loop-mark.before c.if-mark.before false at c.loop-mark.invariant.0 w.before-is, subst (λ v. AreRanksTo c.args.marks.now (c.loop-mark.mark-index + 1) v.items) (sym w.ranks-is) (one-rank c.args.marks.now c.loop-mark.ranks.items w.push-else-mark.new.self.items c.loop-mark.mark-index c.in_ok-all.all false at c.loop-mark.invariant.1 w.in_ok-push-2.ensures.items (c.in_ok-all.ensures.is ∙ c.marked.ensures)))
]
