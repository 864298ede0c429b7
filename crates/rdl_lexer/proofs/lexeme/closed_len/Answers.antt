use Rattle.std.proofs.Common.{true, false, refl, ne_eqb}
use Rattle.rdl_lexer.proofs.Fronts.{closed_more}
use Rattle.rdl_lexer.proofs.lexeme.closed_len.Goals.{then-taken, else-taken+else-b-eq34}
use Rattle.rdl_lexer.proofs.lexeme.closed_len.Goals as goal

pub loop-i-preserved : goal.loop-i-preserved
loop-i-preserved c = elim c.if-taken.branch [
  | then-taken w ↦ (let p = closed_more c.loop-i.i c.args.text.now true c.if-taken.taken c.loop-i-test.true (λ bs. rw w.taken-is refl) c.loop-i.invariant.open_so_far (rw w.if-taken.true at c.loop-i.invariant.goes_on) in record { open_so_far = p.0; goes_on = p.1 })
  | else-taken+else-b-eq34 w ↦ (let p = closed_more c.loop-i.i c.args.text.now false c.if-taken.taken c.loop-i-test.true (λ bs. rw (w.taken-is, ne_eqb _ _ w.if-b-eq34.false) refl) c.loop-i.invariant.open_so_far (rw w.if-taken.false at c.loop-i.invariant.goes_on) in record { open_so_far = p.0; goes_on = p.1 })
]
