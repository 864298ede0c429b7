use Rattle.vcd_reader.proofs.Keeping.{kept_nothing}
use Rattle.vcd_reader.proofs.said.Said.new.Goals as goal

pub returns-clause-rows : goal.returns-clause-rows
returns-clause-rows c = record {
  last = c.new-2.ensures.last;
  times = c.new-2.ensures.times;
  kept = kept_nothing c.new-2.result.missing c.new-2.result.values c.new-2.ensures.missing c.new-2.ensures.values;
}
