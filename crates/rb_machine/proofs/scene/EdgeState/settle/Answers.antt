use Rattle.std.proofs.Common.{ap, arith, length}
use Rattle.std.proofs.lemmas.List.{length-map}
use Rattle.std.proofs.lemmas.Option.{slice_get-get_or}
use Rattle.rb_machine.specs.Scene.{now_in}
use Rattle.rb_machine.specs.Table.{place_of}
use Rattle.rb_machine.proofs.Settling.{place_read, place_room, settled_next, all_settled}
use Rattle.rb_machine.proofs.scene.EdgeState.settle.Goals as goal

pub drawn-value-requires-clause-source : goal.drawn-value-requires-clause-source
drawn-value-requires-clause-source c = c.source_at.ensures c.args.self.now.block.now c.args.order.now _ c.requires.sources (slice_get-get_or c.args.order.now c.loop-index.index _ c.loop-index-test.true)

pub bounds-places-index : goal.bounds-places-index
bounds-places-index c = omega (arith, c.loop-index-test.true, ap length c.requires.places, length-map c.args.order.now place_of)

pub bounds-table-place : goal.bounds-table-place
bounds-table-place c =
    place_room c.args.order.now c.args.places.now c.loop-index.table c.loop-index.index _ c.requires.places (λ k i here. omega (arith, c.requires.room k i here, c.loop-index.auto.table)) c.loop-index-test.true

pub offset_bounds-table-place : goal.offset_bounds-table-place
offset_bounds-table-place c =
    let low = place_room c.args.order.now c.args.places.now c.loop-index.table c.loop-index.index 0 c.requires.places (λ k i here. omega (arith, c.requires.room k i here, c.loop-index.auto.table)) c.loop-index-test.true in omega (arith, low)

pub loop-index-preserved : goal.loop-index-preserved
loop-index-preserved c a v marks vals =
    let s = c.args.self.now in
    settled_next s.block.now (now_in s a) v c.args.order.now vals c.requires.ordered c.requires.own c.loop-index.table c.loop-index.index _ _ c.drawn-value.result c.loop-index-test.true
    (place_read c.args.order.now c.args.places.now c.loop-index.index _ _ c.requires.places c.loop-index-test.true)
    (λ k i here. omega (arith, c.requires.room k i here, c.loop-index.auto.table)) (c.drawn-value.ensures a marks) (c.loop-index.invariant a v marks vals)

pub returns : goal.returns
returns c a v marks vals = all_settled v c.args.order.now c.loop-index.table c.loop-index.index c.loop-index-test.false (c.loop-index.invariant a v marks vals)
