use Rattle.std.proofs.Common.{◌≡◌, ◌++◌, [], map, take}
use Rattle.rb_base.specs.declared.ports.Port.{Port}
use Rattle.axi_model.proofs.port_list.push_channels.Given as goal

abbrev pub invariant-loop-dir : goal.invariant-loop-dir
invariant-loop-dir l = l.out.items ≡ l.initial.out.items ++ map (λ e. record { dir = e.0; name = e.1.now ++ []; width = e.2 }) (take l.dir-index l.dir-items)
