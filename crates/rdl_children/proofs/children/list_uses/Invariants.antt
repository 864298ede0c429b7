use Rattle.rdl_children.proofs.Sharing.{DoneUses}
use Rattle.rdl_children.proofs.children.list_uses.Given as goal

abbrev pub invariant-loop-item : goal.invariant-loop-item
invariant-loop-item l = DoneUses l.initial.bodies l.bodies l.body l.items l.item-index l.list.items
