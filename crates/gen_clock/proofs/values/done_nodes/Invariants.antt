use Rattle.std.proofs.Common.{if◌then◌else◌}
use Rattle.rb_model.specs.Kept.{Done}
use Rattle.gen_access.specs.Touches.{one_bit}
use Rattle.gen_clock.proofs.Tabling.{NodesTo}
use Rattle.gen_clock.proofs.values.done_nodes.Given as goal

abbrev pub invariant-loop-number : goal.invariant-loop-number
invariant-loop-number l = NodesTo l.base.block.now l.base.inlet l.fn.net l.net l.table.items one_bit (λ k f n v. if f.once then n.kept (Done k) else 0) l.number
