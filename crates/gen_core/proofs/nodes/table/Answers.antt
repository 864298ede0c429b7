use Rattle.std.proofs.Common.{sym, subst}
use Rattle.block_plan.specs.Wanted.{IsClosed}
use Rattle.gen_scene.specs.Items.{AreMarks, HasItems}
use Rattle.gen_scene.proofs.Worths.{IsBase-grows}
use Rattle.rtl_net.proofs.Nets.{Grows-trans}
use Rattle.gen_core.proofs.Joining.{scene_of}
use Rattle.gen_core.proofs.nodes.table.Goals as goal

pub item_nodes-requires-clause-base : goal.item_nodes-requires-clause-base
item_nodes-requires-clause-base c = IsBase-grows c.args.net.now c.marks.new.net c.in_ok-touched.ensures.older c.args.base.now c.requires.base

pub item_nodes-requires-clause-marks : goal.item_nodes-requires-clause-marks
item_nodes-requires-clause-marks c =
    let b = c.args.base.now.block.now in
    let a = c.args.base.now.inlet in
    let net = c.marks.new.net in
    subst (λ w. AreMarks b a net w c.deref-2.result.now) (sym c.deref-3.ensures.value)
    (subst (λ ms. AreMarks b a net c.in_ok-needed.needed.items ms) (sym c.deref-2.ensures.value)
    (subst (λ w. AreMarks b a net w c.in_ok-touched.touched.items) c.deref.ensures.value c.in_ok-touched.ensures.marks))

pub item_nodes-requires-clause-closed : goal.item_nodes-requires-clause-closed
item_nodes-requires-clause-closed c = subst (IsClosed c.args.base.now.block.now) (sym c.deref-3.ensures.value) c.in_ok-needed.ensures.closed

pub returns-clause-scene : goal.returns-clause-scene
returns-clause-scene c =
    let base = c.args.base.now in
    let g = Grows-trans c.args.net.now c.marks.new.net c.item_nodes.new.net c.in_ok-touched.ensures.older c.in_ok-items.ensures.older in
    scene_of c.item_nodes.new.net base c.in_ok-needed.needed.items c.in_ok-items.items.items (IsBase-grows c.args.net.now c.item_nodes.new.net g base c.requires.base)
    (subst (λ w. HasItems base.block.now base.inlet c.item_nodes.new.net w c.in_ok-items.items.items) c.deref-3.ensures.value c.in_ok-items.ensures.items) c.in_ok-needed.ensures.all
