use Rattle.std.proofs.Common.{codes}
use Rattle.rtl_net.proofs.Nets.{Stands-extends}
use Rattle.gen_apb.proofs.WaitSteps.{by_resetn, held_apart, keeps_access}
use Rattle.gen_apb.proofs.waiting.tied.Goals as goal

pub drive-requires : goal.drive-requires
drive-requires c = record { name = codes "apb$wait"; width = 1; reset = by_resetn c.args.pins.resetn; awaits = c.requires.held.waited; stands = c.requires.carries.stands }

pub drive-requires-2 : goal.drive-requires-2
drive-requires-2 c = record {
  name = codes "apb$error";
  width = 1;
  reset = by_resetn c.args.pins.resetn;
  awaits = c.drive.ensures.others c.args.held.error (codes "apb$error") 1 (by_resetn c.args.pins.resetn) (held_apart c.args.net.now c.args.pins.resetn c.args.held c.requires.held) c.requires.held.error;
  stands = Stands-extends c.args.net.now c.drive.new.self c.args.fails 1 c.drive.ensures.older c.requires.fails.stands;
}

pub returns-clause-keeps : goal.returns-clause-keeps
returns-clause-keeps c =
    let error = c.drive.ensures.others c.args.held.error (codes "apb$error") 1 (by_resetn c.args.pins.resetn) (held_apart c.args.net.now c.args.pins.resetn c.args.held c.requires.held) c.requires.held.error in
    keeps_access c.args.block.now c.args.net.now c.drive.new.self c.drive-2.new.self c.args.pins.resetn c.args.held c.args.carries c.args.fails c.requires.pins.resetn c.drive.ensures.older c.drive-2.ensures.older c.requires.carries c.requires.fails
    (c.drive.ensures.driven (codes "apb$wait") 1 (by_resetn c.args.pins.resetn) c.requires.held.waited) (c.drive-2.ensures.driven (codes "apb$error") 1 (by_resetn c.args.pins.resetn) error)
