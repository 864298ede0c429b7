use Rattle.std.proofs.Common.{◌≡◌, ◌++◌, map, take, filter}
use Rattle.std.specs.List.{flat_map}
use Rattle.rb_model.specs.Ports.{input, view_pins}
use Rattle.rb_model.proofs.port_list.push_alias_views.Given as goal

abbrev pub invariant-loop-view : goal.invariant-loop-view
invariant-loop-view l = l.out.items ≡ l.initial.out.items ++ map input (flat_map view_pins (filter (λ v. v.alias) (take l.view-index l.views)))
