use Rattle.std.proofs.Common.{◌≡◌, ℕ, ◌+◌, ◌<◌, ◌≤◌, true, Some, drop, length, slice_get}
use Rattle.std.specs.List.{All}
use Rattle.rdl_tree.specs.declared.node.Elab.{Elab}
use Rattle.rdl_values.specs.Elaborated.{around_body}
use Rattle.rdl_values.specs.Instances.{Instance, children}
use Rattle.rdl_values.specs.Lineages.{Lineage, child_of, lineages_of}
use Rattle.rdl_failures.specs.Shown.{IsShown}
use Rattle.rdl_addr.specs.Layout.{has_address}
use Rattle.rdl_sizes.specs.Bodies.{IsBodyOf, IsGathered, runs}
use Rattle.rdl_sizes.specs.Levels.{access_at, size_at}
use Rattle.rdl_sizes.specs.Sized.{IsMeasure, measure_at}
use Rattle.rdl_sizes.proofs.gathering.lots_of.Given as goal

abbrev pub invariant-loop-at : goal.invariant-loop-at
invariant-loop-at l = record {
  few : l.run.count + l.at ≤ length l.children;
  wide : All (λ x. 0 < x.part.access) l.lots.items;
  gathered : (e : Elab) (n : Lineage) → IsBodyOf e l.node n → IsShown l.visible (around_body n.node) → ((k : ℕ) (c : Instance) → slice_get (lineages_of e) k ≡ Some (child_of n c) → has_address c ≡ true → IsMeasure (measure_at l.measures k) (child_of n c))
      → IsGathered (λ c. size_at (child_of n c)) (λ c. access_at (child_of n c)) l.run l.lots.items (runs (drop l.at (children n.node)));
}
