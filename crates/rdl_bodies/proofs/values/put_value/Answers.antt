use Rattle.std.proofs.Common.{◌∙◌, sym}
use Rattle.rdl_bodies.proofs.Valued.{named_here, none_next}
use Rattle.rdl_bodies.proofs.values.put_value.Goals as goal

pub returns-then-eq : goal.returns-then-eq
returns-then-eq c = named_here c.args.name.now c.args.touched.now c.loop-bound.bound-index _ c.loop-bound-test.true c.loop-bound.invariant (sym c.eq.ensures ∙ c.if-eq.true)

pub loop-bound-preserved : goal.loop-bound-preserved
loop-bound-preserved c = none_next c.args.name.now c.args.touched.now c.loop-bound.bound-index _ c.loop-bound-test.true c.loop-bound.invariant (sym c.eq.ensures ∙ c.if-eq.false)
