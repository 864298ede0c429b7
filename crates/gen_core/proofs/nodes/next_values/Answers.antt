use Rattle.std.proofs.Common.{sym, subst}
use Rattle.rtl_net.proofs.Nets.{Grows-trans}
use Rattle.gen_access.specs.Words.{AreHitsOf, written_word, writes_through}
use Rattle.gen_access.proofs.Turns.{AreHitsOf-grows}
use Rattle.gen_clock.specs.Edges.{AreMoved, AreUsed}
use Rattle.gen_clock.proofs.Edging.{IsScene-grows}
use Rattle.gen_clock.proofs.Taking.{AreMoved-grows}
use Rattle.gen_core.proofs.nodes.next_values.Goals as goal

pub used_nodes-requires-clause-scene : goal.used_nodes-requires-clause-scene
used_nodes-requires-clause-scene c = IsScene-grows c.args.net.now c.moved_nodes.new.net c.args.scene.now c.in_ok-values.ensures.older c.requires.scene

pub used_nodes-requires-clause-writes : goal.used_nodes-requires-clause-writes
used_nodes-requires-clause-writes c =
    let b = c.args.scene.now.base.now.block.now in
    let a = c.args.scene.now.base.now.inlet in
    subst (λ xs. AreHitsOf b a c.moved_nodes.new.net b.writes written_word writes_through xs) (sym c.deref.ensures.value)
    (AreHitsOf-grows b a c.args.net.now c.moved_nodes.new.net b.writes written_word writes_through c.args.hits.now.writes.items c.in_ok-values.ensures.older c.requires.writes)

pub next_nodes-requires-clause-scene : goal.next_nodes-requires-clause-scene
next_nodes-requires-clause-scene c =
    let g = Grows-trans c.args.net.now c.moved_nodes.new.net c.used_nodes.new.net c.in_ok-values.ensures.older c.in_ok-used.ensures.older in
    IsScene-grows c.args.net.now c.used_nodes.new.net c.args.scene.now g c.requires.scene

pub next_nodes-requires-clause-values : goal.next_nodes-requires-clause-values
next_nodes-requires-clause-values c =
    let b = c.args.scene.now.base.now.block.now in
    let a = c.args.scene.now.base.now.inlet in
    subst (AreMoved b a c.used_nodes.new.net) (sym c.deref-2.ensures.value) (AreMoved-grows b a c.moved_nodes.new.net c.used_nodes.new.net c.in_ok-values.values.items c.in_ok-used.ensures.older c.in_ok-values.ensures.moved)

pub next_nodes-requires-clause-used : goal.next_nodes-requires-clause-used
next_nodes-requires-clause-used c =
    let b = c.args.scene.now.base.now.block.now in
    subst (AreUsed b c.args.scene.now.base.now.inlet c.used_nodes.new.net) (sym c.deref-3.ensures.value) c.in_ok-used.ensures.used
