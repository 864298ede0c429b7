use Rattle.rtl_net.specs.Net.{width_in}
use Rattle.rtl_net.proofs.Nets.{Grows-trans, IsNode-grows}
use Rattle.gen_clock.proofs.Edging.{IsScene-grows}
use Rattle.gen_clock.proofs.Answering.{chosen}
use Rattle.gen_clock.proofs.answers.word_answer.Goals as goal

pub word_data-requires-clause-scene : goal.word_data-requires-clause-scene
word_data-requires-clause-scene c = IsScene-grows c.args.net.now c.zero.new.net c.args.scene.now c.in_ok-none.ensures.older c.requires.scene

pub returns-clause-worth : goal.returns-clause-worth
returns-clause-worth c =
    let g = Grows-trans c.args.net.now c.zero.new.net c.word_data.new.net c.in_ok-none.ensures.older c.in_ok-all.ensures.older in
    chosen c.args.scene.now.base.now.block.now c.args.scene.now.base.now.inlet c.args.net.now c.word_data.new.net c.choose.new.net c.args.hit c.in_ok-all.all c.in_ok-none.none c.in_ok-id.id c.args.word.now.slots
    (width_in c.word_data.new.net c.in_ok-all.all) c.in_ok-all.ensures.worth.stands.width g c.in_ok-id.ensures.older c.in_ok-all.ensures.worth
    (IsNode-grows c.zero.new.net c.word_data.new.net c.in_ok-none.none 32 (λ x. 0) c.in_ok-all.ensures.older c.in_ok-none.ensures.node) c.in_ok-id.ensures.node
