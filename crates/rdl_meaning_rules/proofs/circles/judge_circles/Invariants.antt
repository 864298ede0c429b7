use Rattle.std.proofs.Common.{◌≡◌, take}
use Rattle.rdl_failures.specs.Noted.{with_all}
use Rattle.rdl_meaning_rules.proofs.circles.judge_circles.Given as goal

abbrev pub invariant-loop-fault : goal.invariant-loop-fault
invariant-loop-fault l = l.failures ≡ with_all (take l.fault-index l.faults) l.initial.failures
