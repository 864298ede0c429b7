use Rattle.std.proofs.Common.{sym, subst}
use Rattle.rtl_net.proofs.Nets.{Grows-trans}
use Rattle.gen_access.specs.Words.{read_word, reads_through, written_word, writes_through}
use Rattle.gen_access.proofs.Turns.{AreHitsOf-grows}
use Rattle.gen_scene.proofs.Worths.{IsBase-grows}
use Rattle.gen_core.specs.Parts.{HasShown, IsSceneOf}
use Rattle.gen_core.proofs.nodes.block_nodes.Goals as goal

pub table-requires-clause-base : goal.table-requires-clause-base
table-requires-clause-base c = IsBase-grows c.args.net.now c.word_hits.new.net c.in_ok-hits.ensures.older c.args.base.now c.requires

pub edge_nodes-requires-clause-scene : goal.edge_nodes-requires-clause-scene
edge_nodes-requires-clause-scene c = subst (λ t. IsSceneOf c.table.new.net c.args.base.now t) (sym c.deref.ensures.value) c.in_ok-items.ensures.scene

pub edge_nodes-requires-clause-reads : goal.edge_nodes-requires-clause-reads
edge_nodes-requires-clause-reads c =
    let b = c.args.base.now.block.now in
    AreHitsOf-grows b c.args.base.now.inlet c.word_hits.new.net c.table.new.net b.reads read_word reads_through c.in_ok-hits.hits.reads.items c.in_ok-items.ensures.older c.in_ok-hits.ensures.reads

pub edge_nodes-requires-clause-writes : goal.edge_nodes-requires-clause-writes
edge_nodes-requires-clause-writes c =
    let b = c.args.base.now.block.now in
    AreHitsOf-grows b c.args.base.now.inlet c.word_hits.new.net c.table.new.net b.writes written_word writes_through c.in_ok-hits.hits.writes.items c.in_ok-items.ensures.older c.in_ok-hits.ensures.writes

pub returns-clause-parts : goal.returns-clause-parts
returns-clause-parts c =
    let b = c.args.base.now.block.now in
    record {
      shown = subst (λ t. HasShown b c.args.base.now.inlet c.edge_nodes.new.net t) c.deref.ensures.value c.in_ok-taken.ensures.shown;
      taken = c.in_ok-taken.ensures.taken;
    }

pub returns-clause-older : goal.returns-clause-older
returns-clause-older c =
    Grows-trans c.args.net.now c.word_hits.new.net c.edge_nodes.new.net c.in_ok-hits.ensures.older (Grows-trans c.word_hits.new.net c.table.new.net c.edge_nodes.new.net c.in_ok-items.ensures.older c.in_ok-taken.ensures.older)
