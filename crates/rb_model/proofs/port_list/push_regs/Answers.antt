use Rattle.std.proofs.Common.{◌≡◌, ◌++◌, map, ap, ◌∙◌, append_assoc, sym}
use Rattle.std.specs.List.{flat_map, enumerate_from}
use Rattle.std.proofs.lemmas.List.{map-append}
use Rattle.rb_model.specs.Ports.{output, reg_outlets}
use Rattle.rb_model.proofs.PortLists.{flat_map-numbered}
use Rattle.rb_model.proofs.port_list.push_regs.Goals as goal

pub loop-reg-preserved : goal.loop-reg-preserved
loop-reg-preserved c =
    let more = flat_map-numbered reg_outlets c.args.regs.now c.loop-reg.reg-index c.reg-item.result c.loop-reg-test.true c.reg-item.is in
    let ports = ap (map output) more ∙ map-append output _ (reg_outlets (c.loop-reg.reg-index, c.reg-item.result)) in
    c.in_ok-push_reg.ensures c.loop-reg.reg-index ∙ ap (λ xs. xs ++ map output (reg_outlets (c.loop-reg.reg-index, c.reg-item.result))) c.loop-reg.invariant
    ∙ append_assoc c.args.out.now.items _ _ ∙ ap (λ ys. c.args.out.now.items ++ ys) (sym ports)
