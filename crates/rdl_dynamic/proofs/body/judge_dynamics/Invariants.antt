use Rattle.std.proofs.Common.{List, map, take}
use Rattle.rdl_tree.specs.declared.node.Elab.{Elab}
use Rattle.rdl_values.specs.Elaborated.{around_body}
use Rattle.rdl_values.specs.Instances.{Instance}
use Rattle.rdl_values.specs.Lineages.{lineages_of}
use Rattle.rdl_nodes.specs.Rows.{AreRows}
use Rattle.rdl_failures.specs.Shown.{IsShown}
use Rattle.rdl_layers.specs.Assignments.{Dynamic}
use Rattle.rdl_dynamic.specs.Written.{parts_of}
use Rattle.rdl_targets.specs.At.{IsAt}
use Rattle.rdl_targets.specs.Contents.{AreContents}
use Rattle.rdl_dynamic.specs.Given.{IsGoing}
use Rattle.rdl_dynamic.proofs.Going.{AreOf}
use Rattle.rdl_dynamic.proofs.body.judge_dynamics.Given as goal

abbrev pub invariant-loop-written : goal.invariant-loop-written
invariant-loop-written l = (e : Elab) (n : Instance) (ds : List Dynamic) → AreRows e l.rows → AreContents e l.contents → IsAt (lineages_of e) l.node n → IsShown l.visible (around_body n) → AreOf n (map parts_of l.assignments) ds
    → IsGoing e l.node l.rows n l.known l.initial.entries.items l.entries.items l.initial.failures l.failures (take l.written-index ds)
