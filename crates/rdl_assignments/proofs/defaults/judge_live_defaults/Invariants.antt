use Rattle.std.proofs.Common.{[], ◌∷◌, List, take}
use Rattle.rdl_tree.specs.declared.item.Item.{Item}
use Rattle.rdl_values.specs.Bodies.{Body, around}
use Rattle.rdl_failures.specs.Shown.{IsShown}
use Rattle.rdl_layers.specs.Judged.{anywhere}
use Rattle.rdl_assignments.specs.Live.{AreThinned, default_set}
use Rattle.rdl_assignments.proofs.Positioned.{IsPositioned}
use Rattle.rdl_assignments.proofs.defaults.judge_live_defaults.Given as goal

abbrev pub invariant-loop-one : goal.invariant-loop-one
invariant-loop-one l = (b : Body) → IsShown l.visible (b.names ∷ around b.outer) → (is : List Item) → AreThinned default_set anywhere l.initial.failures b [] is (take l.one-index l.live)
    → IsPositioned l.body l.layer l.positions.items l.initial.failures l.failures b is
