use Rattle.std.proofs.Common.{ℕ, map}
use Rattle.rdl_tree.specs.declared.node.Elab.{Elab}
use Rattle.rdl_values.specs.Bodies.{Scope}
use Rattle.rdl_values.specs.Instances.{upto}
use Rattle.rdl_values.specs.Paths.{Parent}
use Rattle.rdl_values.specs.Uses.{Seen}
use Rattle.rdl_bodies.specs.declared.bodies.Bodies.{Bodies}
use Rattle.rdl_children.specs.Children.{IsChild}
use Rattle.rdl_open_bodies.specs.Starts.{AddsStarts, IsRoundOf, IsUseIn}
use Rattle.rdl_open_bodies.proofs.Started.{element}
use Rattle.rdl_open_bodies.proofs.elements.add_elements.Given as goal

abbrev pub invariant-loop-number : goal.invariant-loop-number
invariant-loop-number l = (e : Elab) (t : Bodies) (p : Parent) (levels : ℕ) (scope : Scope) (s : Seen) (h : IsChild t l.child s) → IsUseIn p scope s → IsRoundOf e t l.round p levels scope → AddsStarts e t levels (map (element t l.child s h) (upto l.number)) l.initial.starts.items l.starts.items
