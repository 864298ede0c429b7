use Rattle.std.proofs.Common.{◌≡◌, List, Option, drop, length}
use Rattle.rdl_tree.specs.declared.node.Elab.{Elab}
use Rattle.rdl_values.specs.Bodies.{Path}
use Rattle.rdl_values.specs.Elaboration.{IsClean}
use Rattle.rdl_values.specs.Lineages.{lineages_of}
use Rattle.rdl_members.specs.Found.{AreMembersOf}
use Rattle.rdl_resolve.specs.Outward.{IsChain, first_with}
use Rattle.rdl_resolve.proofs.search.nearest.Given as goal

abbrev pub invariant-loop : goal.invariant-loop
invariant-loop l = (e : Elab) (ps : List (Option Path)) → IsClean e → AreMembersOf e l.members → l.root ≡ e.count → l.bodies ≡ length ps → IsChain e l.outers ps l.fn.from
    → IsChain e l.outers (drop l.counter ps) l.body × (first_with (lineages_of e) l.name ps ≡ first_with (lineages_of e) l.name (drop l.counter ps))
