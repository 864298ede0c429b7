use Rattle.rdl_field_list.specs.Tables.{AreOnceTo}
use Rattle.rdl_field_list.proofs.tables.own_once.Given as goal

abbrev pub invariant-loop-node : goal.invariant-loop-node
invariant-loop-node l = AreOnceTo l.props l.node l.list.items
