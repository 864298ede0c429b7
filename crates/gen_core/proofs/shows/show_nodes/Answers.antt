use Rattle.std.proofs.Common.{ap, sym, ◌∙◌, subst, length, ◌<◌}
use Rattle.block_plan.specs.Outlets.{outlet_seen}
use Rattle.block_plan.specs.Table.{item_place}
use Rattle.gen_core.proofs.Showing.{all_listed, all_shown, among_outlets, listed_at, shown_here, shown_none, takes_here}
use Rattle.gen_core.proofs.shows.show_nodes.Goals as goal

pub loop-outlet-init : goal.loop-outlet-init
loop-outlet-init c = shown_none c.args.base.now.block.now c.args.net.now c.args.items.now c.requires.free

pub bounds-items-item_place : goal.bounds-items-item_place
bounds-items-item_place c =
    let b = c.args.base.now.block.now in
    let o = outlet_seen c.outlet-item.result in
    let here = listed_at b c.args.base.now.plan.now.outlets.items c.deref-outlet-items.result.now c.loop-outlet.outlet-index c.outlet-item.result c.requires.base.planned.outlets c.deref-outlet-items.ensures.value c.loop-outlet-test.true c.outlet-item.is in
    let item = c.requires.items o (among_outlets b c.loop-outlet.outlet-index o here) in
    subst (λ k. k < length c.args.items.now) (sym (c.item_place.ensures.place ∙ ap (λ q. item_place q.item) c.outlet.view_is)) item.within

pub output-requires-clause-named : goal.output-requires-clause-named
output-requires-clause-named c =
    let b = c.args.base.now.block.now in
    let here = listed_at b c.args.base.now.plan.now.outlets.items c.deref-outlet-items.result.now c.loop-outlet.outlet-index c.outlet-item.result c.requires.base.planned.outlets c.deref-outlet-items.ensures.value c.loop-outlet-test.true c.outlet-item.is in
    (takes_here b c.args.base.now.inlet c.args.net.now c.loop-outlet.net c.args.items.now c.loop-outlet.outlet-index (outlet_seen c.outlet-item.result) c.deref.result.now c.item_place.result c.requires.base.sound here (c.deref.ensures.value ∙ ap (λ q. q.name) c.outlet.view_is) (c.item_place.ensures.place ∙ ap (λ q. item_place q.item) c.outlet.view_is) c.requires.items c.loop-outlet.invariant).named

pub output-requires-clause-stands : goal.output-requires-clause-stands
output-requires-clause-stands c =
    let b = c.args.base.now.block.now in
    let here = listed_at b c.args.base.now.plan.now.outlets.items c.deref-outlet-items.result.now c.loop-outlet.outlet-index c.outlet-item.result c.requires.base.planned.outlets c.deref-outlet-items.ensures.value c.loop-outlet-test.true c.outlet-item.is in
    (takes_here b c.args.base.now.inlet c.args.net.now c.loop-outlet.net c.args.items.now c.loop-outlet.outlet-index (outlet_seen c.outlet-item.result) c.deref.result.now c.item_place.result c.requires.base.sound here (c.deref.ensures.value ∙ ap (λ q. q.name) c.outlet.view_is) (c.item_place.ensures.place ∙ ap (λ q. item_place q.item) c.outlet.view_is) c.requires.items c.loop-outlet.invariant).stands

pub output-requires-clause-free : goal.output-requires-clause-free
output-requires-clause-free c =
    let b = c.args.base.now.block.now in
    let here = listed_at b c.args.base.now.plan.now.outlets.items c.deref-outlet-items.result.now c.loop-outlet.outlet-index c.outlet-item.result c.requires.base.planned.outlets c.deref-outlet-items.ensures.value c.loop-outlet-test.true c.outlet-item.is in
    (takes_here b c.args.base.now.inlet c.args.net.now c.loop-outlet.net c.args.items.now c.loop-outlet.outlet-index (outlet_seen c.outlet-item.result) c.deref.result.now c.item_place.result c.requires.base.sound here (c.deref.ensures.value ∙ ap (λ q. q.name) c.outlet.view_is) (c.item_place.ensures.place ∙ ap (λ q. item_place q.item) c.outlet.view_is) c.requires.items c.loop-outlet.invariant).free

pub loop-outlet-preserved : goal.loop-outlet-preserved
loop-outlet-preserved c =
    let b = c.args.base.now.block.now in
    let o = outlet_seen c.outlet-item.result in
    let here = listed_at b c.args.base.now.plan.now.outlets.items c.deref-outlet-items.result.now c.loop-outlet.outlet-index c.outlet-item.result c.requires.base.planned.outlets c.deref-outlet-items.ensures.value c.loop-outlet-test.true c.outlet-item.is in
    let takes = takes_here b c.args.base.now.inlet c.args.net.now c.loop-outlet.net c.args.items.now c.loop-outlet.outlet-index o c.deref.result.now c.item_place.result c.requires.base.sound here (c.deref.ensures.value ∙ ap (λ q. q.name) c.outlet.view_is) (c.item_place.ensures.place ∙ ap (λ q. item_place q.item) c.outlet.view_is) c.requires.items c.loop-outlet.invariant in
    shown_here b c.args.net.now c.loop-outlet.net c.output.new.self c.args.items.now c.loop-outlet.outlet-index o c.deref.result.now c.item_place.result (c.names_differ.ensures b c.requires.base.sound) here (c.deref.ensures.value ∙ ap (λ q. q.name) c.outlet.view_is) (c.item_place.ensures.place ∙ ap (λ q. item_place q.item) c.outlet.view_is) takes c.loop-outlet.invariant
    c.output.ensures.older c.output.ensures.name c.output.ensures.nodes c.in_ok-output.ensures.seats c.in_ok-output.ensures.shown

pub returns-clause-shown : goal.returns-clause-shown
returns-clause-shown c = all_shown c.args.base.now.block.now c.args.base.now.inlet c.args.net.now c.loop-outlet.net c.args.items.now c.loop-outlet.outlet-index
    (all_listed c.args.base.now.block.now c.args.base.now.plan.now.outlets.items c.deref-outlet-items.result.now c.loop-outlet.outlet-index c.requires.base.planned.outlets c.deref-outlet-items.ensures.value c.loop-outlet-test.false) c.requires.items c.loop-outlet.invariant
