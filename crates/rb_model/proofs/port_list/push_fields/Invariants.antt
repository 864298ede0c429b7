use Rattle.std.proofs.Common.{◌≡◌, ◌++◌, take}
use Rattle.std.specs.List.{flat_map, enumerate_from}
use Rattle.rb_model.specs.Ports.{field_ports}
use Rattle.rb_model.proofs.port_list.push_fields.Given as goal

abbrev pub invariant-loop-number : goal.invariant-loop-number
invariant-loop-number l = l.out.items ≡ l.initial.out.items ++ flat_map (field_ports l.views) (enumerate_from 0 (take l.number l.fields))
