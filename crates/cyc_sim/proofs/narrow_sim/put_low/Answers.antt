use Rattle.std.proofs.Common.{◌∙◌, arith}
use Rattle.cyc_sim.specs.Narrow.{low_all}
use Rattle.cyc_sim.proofs.Lows.{low_length, put_all, put_low_more}
use Rattle.cyc_sim.proofs.narrow_sim.put_low.Goals as goal

pub loop-index-preserved : goal.loop-index-preserved
loop-index-preserved c =
    put_low_more c.loop-index.values c.args.values.now c.args.numbers.now c.args.at c.loop-index.index c.low.result c.loop-index.invariant c.low.ensures c.loop-index-test.true c.requires

pub returns : goal.returns
returns c =
    let long = low_length c.args.numbers.now in
    c.loop-index.invariant ∙ put_all c.args.values.now (low_all c.args.numbers.now) c.args.at c.loop-index.index (omega (arith, long))
