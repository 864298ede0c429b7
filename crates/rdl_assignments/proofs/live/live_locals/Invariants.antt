use Rattle.std.proofs.Common.{take}
use Rattle.rdl_failures.specs.Shown.{IsShown}
use Rattle.rdl_values.specs.Values.{Around}
use Rattle.rdl_assignments.specs.Live.{IsThinning, own_set}
use Rattle.rdl_assignments.proofs.live.live_locals.Given as goal

abbrev pub invariant-loop-position : goal.invariant-loop-position
invariant-loop-position l = (v : Around) → IsShown l.text.visible.now v → IsThinning own_set l.text.same_enums v l.thinning (take l.position l.items)
