use Rattle.std.proofs.Common.{◌++◌, ◌∷◌, [], codes, sym, ap, ◌∙◌, subst, arith, append_assoc}
use Rattle.rtl_net.specs.Net.{CanReset, registers_of}
use Rattle.rb_model.specs.Ports.{pin}
use Rattle.gen_apb.proofs.OfBus.{pin_node-extends}
use Rattle.gen_apb.proofs.WaitSteps.{can_clear}
use Rattle.gen_apb.proofs.waiting.wait_registers.Goals as goal

pub register-requires-2-clause-reset : goal.register-requires-2-clause-reset
register-requires-2-clause-reset c = subst (CanReset c.register.new.self 1) (sym c.cleared_by-2.ensures)
    (can_clear c.register.new.self c.args.pins.resetn 1 (pin_node-extends c.args.net.now c.register.new.self c.args.pins.resetn (pin (codes "PRESETn") 1) c.register.ensures.older c.requires.pins.resetn) (omega arith))

pub returns-clause-registers : goal.returns-clause-registers
returns-clause-registers c = c.in_ok-error.ensures.registers
    ∙ ap (λ rs. rs ++ record { name = codes "apb$error"; width = 1 } ∷ []) c.in_ok-waited.ensures.registers
    ∙ append_assoc (registers_of c.args.net.now.nodes) (record { name = codes "apb$wait"; width = 1 } ∷ []) (record { name = codes "apb$error"; width = 1 } ∷ [])
