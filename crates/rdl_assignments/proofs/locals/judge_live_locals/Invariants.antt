use Rattle.std.proofs.Common.{[], ◌∷◌, List, take}
use Rattle.rdl_tree.specs.declared.item.Item.{Item}
use Rattle.rdl_props.specs.Table.{is_legal}
use Rattle.rdl_values.specs.Bodies.{Body, around}
use Rattle.rdl_failures.specs.Shown.{IsShown}
use Rattle.rdl_assignments.specs.Layers.{IsLayer}
use Rattle.rdl_assignments.specs.Live.{AreThinned, own_set, sets_in}
use Rattle.rdl_assignments.proofs.locals.judge_live_locals.Given as goal

abbrev pub invariant-loop-one : goal.invariant-loop-one
invariant-loop-one l = (b : Body) → IsShown l.visible (b.names ∷ around b.outer) → (is : List Item) → AreThinned own_set (λ p. is_legal p l.kind) l.initial.failures b [] is (take l.one-index l.live)
    → IsLayer (λ p. is_legal p l.kind) l.body l.layer l.initial.failures l.failures (sets_in own_set b is)
