use Rattle.std.proofs.Common.{◌≡◌, ℕ, List, Option, drop}
use Rattle.rdl_tree.specs.declared.node.Elab.{Elab}
use Rattle.rdl_values.specs.Bodies.{Path}
use Rattle.rdl_resolve.specs.Outers.{IsChainBelow}
use Rattle.rdl_resolve.proofs.table.outward.Given as goal

abbrev pub invariant-loop : goal.invariant-loop
invariant-loop l = (e : Elab) (n : ℕ) (ps : List (Option Path)) → l.root ≡ e.count → IsChainBelow e l.outers n ps l.fn.from → IsChainBelow e l.outers n (drop l.counter ps) l.body
