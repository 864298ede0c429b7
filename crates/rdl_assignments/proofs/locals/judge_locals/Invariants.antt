use Rattle.std.proofs.Common.{◌∷◌, flat_map, take}
use Rattle.rdl_props.specs.Table.{is_legal}
use Rattle.rdl_values.specs.Bodies.{Body, around, standing}
use Rattle.rdl_failures.specs.Shown.{IsShown}
use Rattle.rdl_layers.specs.Assignments.{local_in}
use Rattle.rdl_assignments.specs.Layers.{IsLayer}
use Rattle.rdl_assignments.proofs.locals.judge_locals.Given as goal

abbrev pub invariant-loop-item : goal.invariant-loop-item
invariant-loop-item l = (b : Body) → IsShown l.visible (b.names ∷ around b.outer) → IsLayer (λ p. is_legal p l.kind) l.body l.layer l.initial.failures l.failures (flat_map (local_in b) (standing (take l.item-index l.items)))
