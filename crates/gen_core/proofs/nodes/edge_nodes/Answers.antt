use Rattle.std.proofs.Common.{refl, sym, subst}
use Rattle.rb_model.specs.Machine.{read_data}
use Rattle.gen_scene.proofs.Worths.{IsWorth-grows}
use Rattle.gen_access.specs.Words.{AreHitsOf, read_word, reads_through, written_word, writes_through}
use Rattle.gen_access.proofs.Turns.{AreHitsOf-grows}
use Rattle.gen_clock.proofs.Edging.{IsScene-grows}
use Rattle.rtl_net.proofs.Nets.{Grows-trans}
use Rattle.gen_core.proofs.Joining.{HasShown-grows}
use Rattle.gen_core.proofs.nodes.edge_nodes.Goals as goal

pub answer_node-requires-clause-hits : goal.answer_node-requires-clause-hits
answer_node-requires-clause-hits c =
    let b = c.args.scene.now.base.now.block.now in
    subst (λ xs. AreHitsOf b c.args.scene.now.base.now.inlet c.args.net.now b.reads read_word reads_through xs) (sym c.deref.ensures.value) c.requires.reads

pub next_values-requires-clause-scene : goal.next_values-requires-clause-scene
next_values-requires-clause-scene c = IsScene-grows c.args.net.now c.answer_node.new.net c.args.scene.now c.in_ok-answer.ensures.older (c.requires.scene.is c.args.scene.now refl refl)

pub next_values-requires-clause-reads : goal.next_values-requires-clause-reads
next_values-requires-clause-reads c =
    let b = c.args.scene.now.base.now.block.now in
    AreHitsOf-grows b c.args.scene.now.base.now.inlet c.args.net.now c.answer_node.new.net b.reads read_word reads_through c.args.hits.now.reads.items c.in_ok-answer.ensures.older c.requires.reads

pub next_values-requires-clause-writes : goal.next_values-requires-clause-writes
next_values-requires-clause-writes c =
    let b = c.args.scene.now.base.now.block.now in
    AreHitsOf-grows b c.args.scene.now.base.now.inlet c.args.net.now c.answer_node.new.net b.writes written_word writes_through c.args.hits.now.writes.items c.in_ok-answer.ensures.older c.requires.writes

pub returns-clause-taken : goal.returns-clause-taken
returns-clause-taken c =
    let b = c.args.scene.now.base.now.block.now in
    record {
      answered = IsWorth-grows b c.args.scene.now.base.now.inlet c.answer_node.new.net c.next_values.new.net c.in_ok-answer.answer 32 (λ n v. read_data b v n.access) c.in_ok-nexts.ensures.older c.in_ok-answer.ensures.worth;
      nexts = c.in_ok-nexts.ensures.nexts;
    }

pub answer_node-requires-clause-scene : goal.answer_node-requires-clause-scene
answer_node-requires-clause-scene c = c.requires.scene.is c.args.scene.now refl refl

pub returns-clause-shown : goal.returns-clause-shown
returns-clause-shown c =
    let s = c.args.scene.now in
    let g = Grows-trans c.args.net.now c.answer_node.new.net c.next_values.new.net c.in_ok-answer.ensures.older c.in_ok-nexts.ensures.older in
    HasShown-grows s.base.now.block.now s.base.now.inlet c.args.net.now c.next_values.new.net s.items.now g (c.requires.scene.shown s refl refl)
