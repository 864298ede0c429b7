use Rattle.std.proofs.Common.{◌≡◌, ◌<◌, ◌≤◌, ◌∙◌, ap, length, sym, refl, arith}
use Rattle.block_plan.proofs.Ordering.{here_at}
use Rattle.gen_scene.proofs.Ordering.{all_made, is_marked, is_own, none_made, one_more_at, one_spared, ordered_among, refs_made, room_at}
use Rattle.gen_scene.proofs.Worths.{AreMarks-grows, IsBase-grows}
use Rattle.gen_scene.proofs.items.item_nodes.Goals as goal

pub loop-item-init : goal.loop-item-init
loop-item-init c = none_made c.args.base.now.block.now c.args.base.now.inlet c.args.wanted.now c.args.net.now c.in_ok-table.table.items (length c.in_ok-table.table.items) refl

pub loop-item-preserved-then-not-is_wanted : goal.loop-item-preserved-then-not-is_wanted
loop-item-preserved-then-not-is_wanted c =
    let b = c.args.base.now.block.now in
    let e : c.deref-item-items.result.now ≡ b.order = c.deref-item-items.ensures.value ∙ ap (λ b. b.order) c.block.view_is in
    one_spared b c.args.base.now.inlet c.args.wanted.now c.args.net.now c.loop-item.net (length c.in_ok-table.table.items) c.loop-item.table.items c.loop-item.item-index _ (here_at b c.deref-item-items.result.now c.loop-item.item-index _ e c.loop-item-test.true)
    (sym c.is_wanted.ensures ∙ c.if-not-is_wanted.true) c.loop-item.invariant

pub node_in-requires-clause-base : goal.node_in-requires-clause-base
node_in-requires-clause-base c = IsBase-grows c.args.net.now c.loop-item.net c.loop-item.invariant.older c.args.base.now c.requires.base

pub node_in-requires-clause-refs : goal.node_in-requires-clause-refs
node_in-requires-clause-refs c =
    let b = c.args.base.now.block.now in
    let e : c.deref-item-items.result.now ≡ b.order = c.deref-item-items.ensures.value ∙ ap (λ b. b.order) c.block.view_is in
    rw c.deref-in-loop-item.ensures.value
    (refs_made b c.args.base.now.inlet c.args.wanted.now c.args.net.now c.loop-item.net (length c.in_ok-table.table.items) c.loop-item.table.items c.loop-item.item-index _ c.requires.base.sound c.requires.closed
    (here_at b c.deref-item-items.result.now c.loop-item.item-index _ e c.loop-item-test.true) (sym c.is_wanted.ensures ∙ c.if-not-is_wanted.false) c.loop-item.invariant)

pub node_in-requires-clause-own : goal.node_in-requires-clause-own
node_in-requires-clause-own c =
    let b = c.args.base.now.block.now in
    let e : c.deref-item-items.result.now ≡ b.order = c.deref-item-items.ensures.value ∙ ap (λ b. b.order) c.block.view_is in
    is_own b _ (ordered_among b c.requires.base.sound c.loop-item.item-index _ (here_at b c.deref-item-items.result.now c.loop-item.item-index _ e c.loop-item-test.true))

pub node_in-requires-clause-marked : goal.node_in-requires-clause-marked
node_in-requires-clause-marked c =
    let b = c.args.base.now.block.now in
    let a = c.args.base.now.inlet in
    let e : c.deref-item-items.result.now ≡ b.order = c.deref-item-items.ensures.value ∙ ap (λ b. b.order) c.block.view_is in
    is_marked b a c.loop-item.net c.args.wanted.now c.args.marks.now _ (AreMarks-grows b a c.args.net.now c.loop-item.net c.args.wanted.now c.args.marks.now c.loop-item.invariant.older c.requires.marks)
    (is_own b _ (ordered_among b c.requires.base.sound c.loop-item.item-index _ (here_at b c.deref-item-items.result.now c.loop-item.item-index _ e c.loop-item-test.true))) (sym c.is_wanted.ensures ∙ c.if-not-is_wanted.false)

pub index_mut-requires : goal.index_mut-requires
index_mut-requires c =
    let b = c.args.base.now.block.now in
    let e : c.deref-item-items.result.now ≡ b.order = c.deref-item-items.ensures.value ∙ ap (λ b. b.order) c.block.view_is in
    let f : c.deref.result.now ≡ b.order = c.deref.ensures.value ∙ ap (λ b. b.order) c.block.view_is in
    let low : c.item_place.result < c.table_len.result = room_at b c.deref.result.now c.deref-item-items.result.now c.loop-item.item-index _ c.item_place.result c.table_len.result f e c.loop-item-test.true c.table_len.ensures c.item_place.ensures.place in
    omega (arith, low, c.in_ok-table.ensures.len, c.loop-item.invariant.long, c.loop-item.table.ok.0, c.in_ok-table.table.ok.0)

pub loop-item-preserved : goal.loop-item-preserved
loop-item-preserved c =
    let b = c.args.base.now.block.now in
    let e : c.deref-item-items.result.now ≡ b.order = c.deref-item-items.ensures.value ∙ ap (λ b. b.order) c.block.view_is in
    let f : c.deref.result.now ≡ b.order = c.deref.ensures.value ∙ ap (λ b. b.order) c.block.view_is in
    let low : c.item_place.result < c.table_len.result = room_at b c.deref.result.now c.deref-item-items.result.now c.loop-item.item-index _ c.item_place.result c.table_len.result f e c.loop-item-test.true c.table_len.ensures c.item_place.ensures.place in
    one_more_at b c.args.base.now.inlet c.args.wanted.now c.args.net.now c.loop-item.net c.node_in.new.net (length c.in_ok-table.table.items) c.loop-item.table.items c.loop-item.item-index c.item_place.result _ c.in_ok-id.id c.requires.base.sound (here_at b c.deref-item-items.result.now c.loop-item.item-index _ e c.loop-item-test.true) c.loop-item.invariant
    (omega (arith, low, c.in_ok-table.ensures.len, c.in_ok-table.table.ok.0)) c.in_ok-id.ensures.older c.in_ok-id.ensures.name c.in_ok-id.ensures.worth c.item_place.ensures.place

pub returns-clause-items : goal.returns-clause-items
returns-clause-items c =
    let b = c.args.base.now.block.now in
    let e : c.deref-item-items.result.now ≡ b.order = c.deref-item-items.ensures.value ∙ ap (λ b. b.order) c.block.view_is in
    let past : length c.deref-item-items.result.now ≤ c.loop-item.item-index = c.loop-item-test.false in
    all_made b c.args.base.now.inlet c.args.wanted.now c.args.net.now c.loop-item.net (length c.in_ok-table.table.items) c.loop-item.table.items c.loop-item.item-index c.requires.base.sound (omega (arith, past, ap length e)) c.loop-item.invariant
