use Rattle.std.proofs.Common.{◌∷◌, flat_map, take}
use Rattle.rdl_values.specs.Bodies.{Body, around, standing}
use Rattle.rdl_failures.specs.Shown.{IsShown}
use Rattle.rdl_layers.specs.Assignments.{default_in}
use Rattle.rdl_layers.specs.Judged.{anywhere, failures_of}
use Rattle.rdl_assignments.specs.Defaults.{whole}
use Rattle.rdl_assignments.specs.Layers.{IsLayer}
use Rattle.rdl_assignments.proofs.Counted.{AreCounted}
use Rattle.rdl_assignments.proofs.defaults.judge_defaults.Given as goal

abbrev pub invariant-loop-position : goal.invariant-loop-position
invariant-loop-position l = record {
  counted : (b : Body) → IsShown l.visible (b.names ∷ around b.outer) → AreCounted (failures_of anywhere) (default_in (whole b) b.outer) l.positions.items (take l.position l.items);
  layer : (b : Body) → IsShown l.visible (b.names ∷ around b.outer) → IsLayer anywhere l.body l.layer l.initial.failures l.failures (flat_map (default_in (whole b) b.outer) (standing (take l.position l.items)));
}
