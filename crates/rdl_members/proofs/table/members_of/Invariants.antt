use Rattle.std.proofs.Common.{take}
use Rattle.rdl_members.proofs.Firsts.{AreFirstOf}
use Rattle.rdl_members.proofs.table.members_of.Given as goal

abbrev pub invariant-loop-row : goal.invariant-loop-row
invariant-loop-row l = AreFirstOf l.elab.count (take l.row-index l.rows) l.nodes.items l.most
