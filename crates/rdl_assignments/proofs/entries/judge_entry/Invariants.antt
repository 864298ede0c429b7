use Rattle.std.proofs.Common.{map, take}
use Rattle.rdl_layers.specs.Judged.{legal_on_entry}
use Rattle.rdl_values.specs.Bodies.{Scope, around}
use Rattle.rdl_failures.specs.Shown.{IsShown}
use Rattle.rdl_assignments.specs.Layers.{IsLayer}
use Rattle.rdl_assignments.proofs.entries.judge_entry.Given as goal

abbrev pub invariant-loop-set : goal.invariant-loop-set
invariant-loop-set l = (scope : Scope) → IsShown l.visible (around scope) → IsLayer legal_on_entry 0 l.layer l.initial.failures l.failures (map (λ s. record { set_ = s; scope = scope }) (take l.set-index l.sets))
