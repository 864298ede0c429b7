use Rattle.std.proofs.Common.{refl}
use Rattle.gen_apb.proofs.Accessing.{is_carried}
use Rattle.gen_apb.proofs.access.requested.Goals as goal

pub returns-clause-carried : goal.returns-clause-carried
returns-clause-carried c = is_carried c.args.block.now c.requires.sound c.args.net.now c.both.new.net c.opposite.new.net c.both-2.new.net c.args.pins c.args.carries c.in_ok-missed.missed c.args.address
    (record { inlet = record { valid = c.in_ok-valid.valid; write = c.args.pins.write; word = c.args.address.word; bits = c.args.pins.data_in }; fails = c.in_ok-fails.fails })
    c.requires.pins c.requires.carries c.requires.address c.both.ensures.older c.opposite.ensures.older c.both-2.ensures.older refl refl refl c.in_ok-valid.ensures.node c.in_ok-missed.ensures.node c.in_ok-fails.ensures.node
