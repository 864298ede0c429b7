use Rattle.rdl_bodies.specs.Alike.{IsSteady}
use Rattle.rdl_bodies.proofs.Fixed.{each_all, each_more}
use Rattle.rdl_bodies.proofs.bodies.Bodies.are_steady.Goals as goal

pub loop-number-preserved : goal.loop-number-preserved
loop-number-preserved c = each_more (IsSteady c.args.self.now) c.args.numbers.now c.loop-number.number-index _ c.loop-number-test.true c.loop-number.invariant (c.is_steady.ensures c.if-not-is_steady.false)

pub returns : goal.returns
returns c = λ q. each_all (IsSteady c.args.self.now) c.args.numbers.now c.loop-number.number-index c.loop-number-test.false c.loop-number.invariant
