use Rattle.std.proofs.Common.{None, ap, map, rc_value}
use Rattle.rdl_values.proofs.Tables.{no_names}
use Rattle.rdl_values.proofs.name_table.NameTable.new.Goals as goal

pub invariant_of-result : goal.invariant_of-result
invariant_of-result c = no_names None tt c.new.result c.new-2.result.items c.new-3.result (map rc_value c.new-4.result.items) c.new.ensures c.new-2.ensures.items c.new-3.ensures (ap (map rc_value) c.new-4.ensures.items)
