use Rattle.std.proofs.Common.{◌≡◌, ◌++◌, take}
use Rattle.rb_model.specs.Own.{shown_ports}
use Rattle.rb_model.proofs.port_list.push_shown.Given as goal

abbrev pub invariant-loop-item : goal.invariant-loop-item
invariant-loop-item l = l.out.items ≡ l.initial.out.items ++ shown_ports l.path (take l.item-index l.shown)
