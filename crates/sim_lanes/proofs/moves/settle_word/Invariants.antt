use Rattle.std.proofs.Common.{◌≡◌, take}
use Rattle.sim_lanes.specs.Due.{IsCalm, IsFed}
use Rattle.sim_lanes.proofs.moves.settle_word.Given as goal

abbrev pub invariant-loop-turn : goal.invariant-loop-turn
invariant-loop-turn l = record {
  front : take l.first l.values ≡ take l.first l.fn.values;
  calm : IsFed l.fan l.operations → IsCalm l.fn.due l.first l.operations l.fn.values → IsCalm l.due l.first l.operations l.values;
}
