use Rattle.std.proofs.Common.{◌≡◌, ◌++◌, ℕ, Some, slice_get, take}
use Rattle.rdl_tree.specs.declared.node.Elab.{Elab}
use Rattle.rdl_values.specs.Elaborated.{nodes_of}
use Rattle.rdl_values.specs.Instances.{Instance}
use Rattle.rdl_bind.specs.Given.{NameItems}
use Rattle.rdl_bind.proofs.GivenItems.{numbers}
use Rattle.rdl_bind.proofs.given_items.add_given.Given as goal

abbrev pub invariant-loop-prop : goal.invariant-loop-prop
invariant-loop-prop l = (e : Elab) (k : ℕ) (n : Instance) → slice_get (nodes_of e) k ≡ Some n → NameItems e k l.targets → l.list.items ≡ l.initial.list.items ++ numbers e n (take l.prop-index l.props)
