use Rattle.rdl_members.proofs.Marking.{AreMarked}
use Rattle.rdl_members.proofs.view_table.any_view.Given as goal

abbrev pub invariant-loop-at : goal.invariant-loop-at
invariant-loop-at l = AreMarked l.elab l.own l.at l.marks.items
