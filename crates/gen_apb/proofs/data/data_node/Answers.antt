use Rattle.std.proofs.Common.{sym, subst, codes}
use Rattle.gen_apb.specs.Fronts.{ShowsData}
use Rattle.gen_apb.proofs.WaitSteps.{by_resetn, can_drive_data, shows_data}
use Rattle.gen_apb.proofs.data.data_node.Goals as goal

pub drive-requires : goal.drive-requires
drive-requires c = (can_drive_data c.args.net.now c.register.new.self c.zero.new.net c.choose.new.net c.args.resetn c.args.answer c.in_ok-data.data c.register.ensures.older c.zero.ensures.older c.choose.ensures.older c.in_ok-data.ensures.register c.requires.answer).1

pub returns-clause-shows : goal.returns-clause-shows
returns-clause-shows c =
    let awaits = (can_drive_data c.args.net.now c.register.new.self c.zero.new.net c.choose.new.net c.args.resetn c.args.answer c.in_ok-data.data c.register.ensures.older c.zero.ensures.older c.choose.ensures.older c.in_ok-data.ensures.register c.requires.answer).0 in
    subst (λ o. ShowsData c.drive.new.self o c.args.answer c.in_ok-shown.shown) (sym c.in-Some.is)
    (shows_data c.args.net.now c.register.new.self c.zero.new.net c.choose.new.net c.drive.new.self c.args.resetn c.in-Some.closes c.args.answer c.in_ok-data.data c.in_ok-none.none c.in_ok-shown.shown c.requires.resetn
    c.register.ensures.older c.zero.ensures.older c.choose.ensures.older c.drive.ensures.older c.in_ok-data.ensures.node c.in_ok-none.ensures.node c.in_ok-shown.ensures.node
    (c.drive.ensures.driven (codes "apb$data") 32 (by_resetn c.args.resetn) awaits))
