use Rattle.std.proofs.Common.{◌∙◌, ◌<◌, arith, length, sym}
use Rattle.rb_machine.specs.Transfers.{access_seen}
use Rattle.rb_machine.proofs.Taking.{all_taken}
use Rattle.rb_machine.proofs.keeping.take_fields.Goals as goal

pub take_places-requires-clause-there : goal.take_places-requires-clause-there
take_places-requires-clause-there c k h = let low : k < length c.args.block.now.fields = c.requires.moving.there k h in omega (arith, low, c.requires.room)

pub returns : goal.returns
returns c =
    all_taken c.args.block.now (access_seen c.args.access) c.args.moving.now c.args.states.now c.args.fields.now c.take_places.new.fields c.take_access.new.fields c.requires.moving c.requires.room c.requires.sized
    (c.take_access.auto.fields ∙ (c.take_places.auto.fields ∙ (c.requires.sized ∙ sym c.requires.room))) (c.requires.still c.if-is_reset.false)
    c.take_places.ensures.taken c.take_places.ensures.same c.take_access.ensures.taken c.take_access.ensures.same
