use Rattle.rtl_net.proofs.Nets.{Grows-trans}
use Rattle.gen_scene.proofs.Worths.{HasField-grows}
use Rattle.gen_clock.proofs.Making.{moved_made}
use Rattle.gen_clock.proofs.steps.moved.Goals as goal

pub stepped-requires-clause-field : goal.stepped-requires-clause-field
stepped-requires-clause-field c = HasField-grows c.args.net.now c.loaded.new.net c.in_ok-load.ensures.older c.args.scene.now c.args.number c.args.field.now c.requires.field

pub latched-requires-clause-field : goal.latched-requires-clause-field
latched-requires-clause-field c =
    let g = Grows-trans c.args.net.now c.loaded.new.net c.stepped.new.net c.in_ok-load.ensures.older c.in_ok-count.ensures.older in
    HasField-grows c.args.net.now c.stepped.new.net g c.args.scene.now c.args.number c.args.field.now c.requires.field

pub finished-requires-clause-field : goal.finished-requires-clause-field
finished-requires-clause-field c =
    let g = Grows-trans c.args.net.now c.loaded.new.net c.stepped.new.net c.in_ok-load.ensures.older c.in_ok-count.ensures.older in
    let h = Grows-trans c.args.net.now c.stepped.new.net c.latched.new.net g c.in_ok-events.ensures.older in
    HasField-grows c.args.net.now c.latched.new.net h c.args.scene.now c.args.number c.args.field.now c.requires.field

pub returns-clause-made : goal.returns-clause-made
returns-clause-made c =
    moved_made c.args.scene.now.base.now.block.now c.args.scene.now.base.now.inlet c.args.net.now c.loaded.new.net c.stepped.new.net c.latched.new.net c.finished.new.net c.args.number c.args.field.now c.args.v c.in_ok-load.load c.in_ok-count.count c.in_ok-events.events c.in_ok-id.id
    c.in_ok-load.ensures.older c.in_ok-count.ensures.older c.in_ok-events.ensures.older c.requires.v c.in_ok-load.ensures.made c.in_ok-count.ensures.made c.in_ok-events.ensures.made c.in_ok-id.ensures.made
