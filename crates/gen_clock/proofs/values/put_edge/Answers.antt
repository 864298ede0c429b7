use Rattle.std.proofs.Common.{sym, subst}
use Rattle.rtl_net.proofs.Nets.{Grows-trans}
use Rattle.gen_access.specs.Words.{AreHitsOf, read_word, reads_through, written_word, writes_through}
use Rattle.gen_access.proofs.Turns.{AreHitsOf-grows, HasViews-grows}
use Rattle.gen_clock.proofs.Sweeps.{HasFields-grows}
use Rattle.gen_clock.proofs.Edging.{edge_passes}
use Rattle.gen_clock.proofs.values.put_edge.Goals as goal

pub software_nodes-requires-clause-views : goal.software_nodes-requires-clause-views
software_nodes-requires-clause-views c = HasViews-grows c.args.net.now c.hardware_nodes.new.net c.args.scene.now c.in_ok-hardware_nodes.ensures.older c.requires.scene.views

pub software_nodes-requires-clause-hits : goal.software_nodes-requires-clause-hits
software_nodes-requires-clause-hits c =
    let b = c.args.scene.now.base.now.block.now in
    let a = c.args.scene.now.base.now.inlet in
    subst (λ xs. AreHitsOf b a c.hardware_nodes.new.net b.writes written_word writes_through xs) (sym c.deref.ensures.value)
    (AreHitsOf-grows b a c.args.net.now c.hardware_nodes.new.net b.writes written_word writes_through c.args.hits.now.writes.items c.in_ok-hardware_nodes.ensures.older c.requires.writes)

pub software_nodes-requires-2-clause-views : goal.software_nodes-requires-2-clause-views
software_nodes-requires-2-clause-views c =
    let g = Grows-trans c.args.net.now c.hardware_nodes.new.net c.software_nodes.new.net c.in_ok-hardware_nodes.ensures.older c.in_ok-software_nodes.ensures.older in
    HasViews-grows c.args.net.now c.software_nodes.new.net c.args.scene.now g c.requires.scene.views

pub software_nodes-requires-2-clause-hits : goal.software_nodes-requires-2-clause-hits
software_nodes-requires-2-clause-hits c =
    let b = c.args.scene.now.base.now.block.now in
    let a = c.args.scene.now.base.now.inlet in
    let g = Grows-trans c.args.net.now c.hardware_nodes.new.net c.software_nodes.new.net c.in_ok-hardware_nodes.ensures.older c.in_ok-software_nodes.ensures.older in
    subst (λ xs. AreHitsOf b a c.software_nodes.new.net b.reads read_word reads_through xs) (sym c.deref-2.ensures.value)
    (AreHitsOf-grows b a c.args.net.now c.software_nodes.new.net b.reads read_word reads_through c.args.hits.now.reads.items g c.requires.reads)

pub hardware_nodes-requires-2-clause-fields : goal.hardware_nodes-requires-2-clause-fields
hardware_nodes-requires-2-clause-fields c =
    let g = Grows-trans c.args.net.now c.hardware_nodes.new.net c.software_nodes.new.net c.in_ok-hardware_nodes.ensures.older c.in_ok-software_nodes.ensures.older in
    let h = Grows-trans c.args.net.now c.software_nodes.new.net c.software_nodes-2.new.net g c.in_ok-software_nodes-2.ensures.older in
    HasFields-grows c.args.net.now c.software_nodes-2.new.net c.args.scene.now h c.requires.scene.fields

pub returns-clause-changes : goal.returns-clause-changes
returns-clause-changes c =
    edge_passes c.args.scene.now.base.now.block.now c.args.scene.now.base.now.inlet c.args.net.now c.hardware_nodes.new.net c.software_nodes.new.net c.software_nodes-2.new.net c.hardware_nodes-2.new.net
    c.args.table.now c.hardware_nodes.new.table c.software_nodes.new.table c.software_nodes-2.new.table c.hardware_nodes-2.new.table
    c.in_ok-hardware_nodes.ensures.changes c.in_ok-software_nodes.ensures.changes c.in_ok-software_nodes-2.ensures.changes c.in_ok-hardware_nodes-2.ensures.changes
