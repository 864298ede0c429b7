use Rattle.std.proofs.Common.{◌≡◌, ◌≤◌, ◌++◌, [], length, map, ap, ◌∙◌}
use Rattle.std.proofs.lemmas.List.{take_all}
use Rattle.rb_base.specs.declared.ports.Port.{Port}
use Rattle.axi_model.proofs.port_list.push_channels.Goals as goal

pub returns : goal.returns
returns c = c.loop-dir.invariant ∙ ap (λ es. c.args.out.now.items ++ map (λ e. record { dir = e.0; name = e.1.now ++ []; width = e.2 }) es) (take_all c.loop-dir.dir-index _ c.loop-dir-test.false)
