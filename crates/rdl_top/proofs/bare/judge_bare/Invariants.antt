use Rattle.std.proofs.Common.{flat_map, take}
use Rattle.rdl_values.specs.Phase3.{bare_assignment}
use Rattle.rdl_values.specs.Views.{item_is}
use Rattle.rdl_failures.specs.Noted.{IsNoted}
use Rattle.rdl_top.proofs.bare.judge_bare.Given as goal

abbrev pub invariant-loop-item : goal.invariant-loop-item
invariant-loop-item l = IsNoted (flat_map (λ i. bare_assignment (item_is i)) (take l.item-index l.items)) l.clean l.initial.failures l.failures
