use Rattle.std.proofs.Common.{Some, refl, ◌&&◌, codes}
use Rattle.rtl_net.specs.Value.{bit_of}
use Rattle.rtl_net.proofs.Nets.{Extends-grows, Extends-trans, Grows-trans, IsNode-grows}
use Rattle.rb_model.specs.Run.{carries, closes, is_unmapped}
use Rattle.gen_apb.specs.Bus.{cleared}
use Rattle.gen_apb.proofs.Accessing.{has_address-extends, has_pins-extends}
use Rattle.gen_apb.proofs.Fronting.{waiting_front}
use Rattle.gen_apb.proofs.OfBus.{of_bus-grows}
use Rattle.gen_apb.proofs.WaitSteps.{held-grows}
use Rattle.gen_apb.proofs.waiting.waiting.Goals as goal

pub requested-requires-clause-pins : goal.requested-requires-clause-pins
requested-requires-clause-pins c = has_pins-extends c.args.net.now c.which_vector.new.net c.args.pins
    (Extends-trans c.args.net.now c.wait_registers.new.net c.which_vector.new.net c.in_ok-held.ensures.older (Extends-grows c.wait_registers.new.net c.which_vector.new.net c.which_vector.ensures.older)) c.requires.pins

pub requested-requires-clause-address : goal.requested-requires-clause-address
requested-requires-clause-address c = has_address-extends c.args.block.now c.args.net.now c.which_vector.new.net c.args.address
    (Extends-trans c.args.net.now c.wait_registers.new.net c.which_vector.new.net c.in_ok-held.ensures.older (Extends-grows c.wait_registers.new.net c.which_vector.new.net c.which_vector.ensures.older)) c.requires.address

pub failed-requires-clause-closes : goal.failed-requires-clause-closes
failed-requires-clause-closes c = of_bus-grows c.args.block.now c.which_vector.new.net c.requested.new.net c.in_ok-vectors.vectors.closes 1 (λ p m. bit_of (closes c.args.block.now p m)) c.requested.ensures.older c.in_ok-vectors.ensures.closes

pub failed-requires-clause-error : goal.failed-requires-clause-error
failed-requires-clause-error c = IsNode-grows c.wait_registers.new.net c.requested.new.net c.in_ok-held.held.error 1 (cleared (codes "apb$error"))
    (Grows-trans c.wait_registers.new.net c.which_vector.new.net c.requested.new.net c.which_vector.ensures.older c.requested.ensures.older) c.in_ok-held.ensures.held.error_node

pub tied-requires-clause-pins : goal.tied-requires-clause-pins
tied-requires-clause-pins c =
    let n1 = c.wait_registers.new.net in
    let g = Grows-trans n1 c.requested.new.net c.failed.new.net (Grows-trans n1 c.which_vector.new.net c.requested.new.net c.which_vector.ensures.older c.requested.ensures.older) c.failed.ensures.older in
    has_pins-extends c.args.net.now c.failed.new.net c.args.pins (Extends-trans c.args.net.now n1 c.failed.new.net c.in_ok-held.ensures.older (Extends-grows n1 c.failed.new.net g)) c.requires.pins

pub tied-requires-clause-held : goal.tied-requires-clause-held
tied-requires-clause-held c =
    let n1 = c.wait_registers.new.net in
    let g = Grows-trans n1 c.requested.new.net c.failed.new.net (Grows-trans n1 c.which_vector.new.net c.requested.new.net c.which_vector.ensures.older c.requested.ensures.older) c.failed.ensures.older in
    held-grows n1 c.failed.new.net c.args.pins.resetn c.in_ok-held.held g c.in_ok-held.ensures.held

pub tied-requires-clause-carries : goal.tied-requires-clause-carries
tied-requires-clause-carries c = of_bus-grows c.args.block.now c.which_vector.new.net c.failed.new.net c.in_ok-vectors.vectors.carries 1 (λ p m. bit_of (carries c.args.block.now p m))
    (Grows-trans c.which_vector.new.net c.requested.new.net c.failed.new.net c.requested.ensures.older c.failed.ensures.older) c.in_ok-vectors.ensures.carries

pub tied-requires-clause-fails : goal.tied-requires-clause-fails
tied-requires-clause-fails c = of_bus-grows c.args.block.now c.requested.new.net c.failed.new.net c.in_ok-access.access.fails 1 (λ p m. bit_of (carries c.args.block.now p m && is_unmapped c.args.block.now p)) c.failed.ensures.older c.in_ok-access.ensures.carried.fails

pub returns-clause-older : goal.returns-clause-older
returns-clause-older c =
    let n1 = c.wait_registers.new.net in
    let g = Grows-trans n1 c.requested.new.net c.failed.new.net (Grows-trans n1 c.which_vector.new.net c.requested.new.net c.which_vector.ensures.older c.requested.ensures.older) c.failed.ensures.older in
    Extends-trans c.args.net.now n1 c.tied.new.net c.in_ok-held.ensures.older (Extends-trans n1 c.failed.new.net c.tied.new.net (Extends-grows n1 c.failed.new.net g) c.tied.ensures.older)

pub returns-clause-front : goal.returns-clause-front
returns-clause-front c = waiting_front c.args.block.now c.which_vector.new.net c.requested.new.net c.failed.new.net c.tied.new.net c.in_ok-vectors.vectors.closes c.in_ok-access.access
    (record { inlet = c.in_ok-access.access.inlet; ready = c.in_ok-vectors.vectors.closes; error = c.in_ok-error.error; closes = Some c.in_ok-vectors.vectors.closes })
    c.requires.wait c.requested.ensures.older c.failed.ensures.older c.tied.ensures.older c.in_ok-vectors.ensures.closes c.in_ok-access.ensures.carried c.in_ok-error.ensures.failed c.tied.ensures.keeps refl refl refl
