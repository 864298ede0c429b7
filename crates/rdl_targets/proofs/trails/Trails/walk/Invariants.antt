use Rattle.std.proofs.Common.{◌≡◌, ◌∷◌, [], ℕ, List, Some, drop}
use Rattle.rdl_tree.specs.declared.node.Elab.{Elab}
use Rattle.rdl_values.specs.Instances.{Instance}
use Rattle.rdl_values.specs.Lineages.{lineages_of}
use Rattle.rdl_values.specs.Values.{Around}
use Rattle.rdl_nodes.specs.Rows.{AreRows}
use Rattle.rdl_failures.specs.Shown.{IsShown}
use Rattle.rdl_layers.specs.Assignments.{is_step}
use Rattle.rdl_targets.specs.At.{IsAt}
use Rattle.rdl_targets.specs.Contents.{AreContents}
use Rattle.rdl_targets.specs.Steps.{further}
use Rattle.rdl_targets.specs.Trails.{AreTrails, Finds}
use Rattle.rdl_targets.proofs.trails.Trails.walk.Given as goal

abbrev pub invariant-loop-step : goal.invariant-loop-step
invariant-loop-step l = (e : Elab) (node : ℕ) (env : Around) (n : Instance) → AreRows e l.rows → AreContents e l.contents → IsShown l.visible env → AreTrails e node l.initial.self → IsAt (lineages_of e) node n
    → (ms : List Instance) × Finds e node l.initial.self l.self (Some l.path) ms × (further (is_step env) ms (drop l.step-index l.steps) ≡ further (is_step env) (n ∷ []) l.steps)
