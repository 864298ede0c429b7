use Rattle.std.proofs.Common.{◌≡◌, ℕ, Bool, false, List, take, Some, slice_get}
use Rattle.std.specs.List.{list_any}
use Rattle.rdl_values.specs.Instances.{Instance}
use Rattle.rdl_values.specs.Lineages.{Lineage}
use Rattle.rdl_nodes.specs.Rows.{AreInside}
use Rattle.rdl_meaning_rules.specs.Filled.{filled_at}
use Rattle.rdl_meaning_rules.proofs.filled.is_one_filled.Given as goal

abbrev pub invariant-loop-node : goal.invariant-loop-node
invariant-loop-node l = (all : List Lineage) (up ns : List Instance) (p : Instance → Bool) → AreInside all up l.nodes l.nodes ns → ((k : ℕ) (c : Instance) → slice_get all k ≡ Some (record { node = c; ancestors = up }) → filled_at l.filled k ≡ p c) → list_any p (take l.node-index ns) ≡ false
