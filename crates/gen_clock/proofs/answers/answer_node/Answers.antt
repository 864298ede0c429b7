use Rattle.std.proofs.Common.{◌≡◌, ℕ, ◌<◌, ◌≤◌, get_or, length, sym, ap, ◌∙◌, subst, arith}
use Rattle.std.proofs.lemmas.List.{get_or_default}
use Rattle.net_gates.specs.Gates.{or_of}
use Rattle.rtl_net.specs.Net.{IsNode, Stands}
use Rattle.rtl_net.specs.Ids.{at}
use Rattle.rtl_net.proofs.Nets.{Stands-grows}
use Rattle.rtl_net.proofs.Places.{read_at}
use Rattle.gen_access.specs.Words.{read_word, reads_through}
use Rattle.gen_access.proofs.Turns.{AreHitsOf-grows}
use Rattle.gen_clock.proofs.Edging.{IsScene-grows}
use Rattle.gen_clock.proofs.Answering.{answered, answers_more}
use Rattle.gen_clock.proofs.answers.answer_node.Goals as goal

pub word_answer-requires-clause-scene : goal.word_answer-requires-clause-scene
word_answer-requires-clause-scene c = IsScene-grows c.args.net.now c.loop-number.net c.args.scene.now c.loop-number.invariant.older c.requires.scene

pub word_answer-requires-clause-hit : goal.word_answer-requires-clause-hit
word_answer-requires-clause-hit c =
    let b = c.args.scene.now.base.now.block.now in
    let value : c.deref-words.result.now ≡ b.reads = c.deref-words.ensures.value ∙ ap (λ b. b.reads) c.block.view_is in
    let low : c.loop-number.number < length b.reads = (let l = ap length value in omega (arith, c.loop-number-test.true)) in
    Stands-grows c.args.net.now c.loop-number.net (at c.args.hits.now c.loop-number.number) 1 c.loop-number.invariant.older (c.requires.hits.stand c.loop-number.number low)

pub loop-number-preserved : goal.loop-number-preserved
loop-number-preserved c =
    let b = c.args.scene.now.base.now.block.now in
    let a = c.args.scene.now.base.now.inlet in
    let j = c.loop-number.number in
    let value : c.deref-words.result.now ≡ b.reads = c.deref-words.ensures.value ∙ ap (λ b. b.reads) c.block.view_is in
    let here = read_at c.deref-words.result.now b.reads j c.index-words-number.result value c.loop-number-test.true c.index-words-number.is in
    let hits = AreHitsOf-grows b a c.args.net.now c.loop-number.net b.reads read_word reads_through c.args.hits.now c.loop-number.invariant.older c.requires.hits in
    answers_more b a c.args.net.now c.loop-number.net c.word_answer.new.net c.loop-number.answers.items c.push.new.self.items b.reads j c.index-words-number.result _ c.in_ok-word_answer.field-0 here c.loop-number.invariant
    c.in_ok-word_answer.ensures.older c.in_ok-word_answer.ensures.name c.in_ok-word_answer.ensures.worth (hits.each j c.index-words-number.result here) c.in_ok-push.ensures.items

all_words : (n m k : ℕ) → n ≡ m → n ≤ k → k ≤ n → k ≡ m
all_words n m k e l h = omega arith

pub or_all-requires-clause-stand : goal.or_all-requires-clause-stand
or_all-requires-clause-stand c = λ k d l.
    let items = c.loop-number.answers.items in
    let value : c.deref.result.now ≡ items = c.deref.ensures.value in
    let low : k < length items = (let e = ap length value in omega arith) in
    let r = (c.loop-number.invariant.each k (let z = c.loop-number.invariant.long in omega arith)).stands in
    subst (λ i. Stands c.loop-number.net i 32) (sym (ap (λ xs. get_or xs k d) value ∙ get_or_default items k d (record { 0 = 0 }) low)) r

pub returns-clause-worth : goal.returns-clause-worth
returns-clause-worth c =
    let b = c.args.scene.now.base.now.block.now in
    let a = c.args.scene.now.base.now.inlet in
    let items = c.loop-number.answers.items in
    let value : c.deref-words.result.now ≡ b.reads = c.deref-words.ensures.value ∙ ap (λ b. b.reads) c.block.view_is in
    let all : c.loop-number.number ≡ length b.reads = all_words (length c.deref-words.result.now) (length b.reads) c.loop-number.number (ap length value) c.loop-number-test.false c.loop-number.auto.number-end in
    answered b a c.loop-number.net c.or_all.new.net items c.in_ok-id.id c.in_ok-id.ensures.older (c.loop-number.invariant.long ∙ all) (λ k l. c.loop-number.invariant.each k (omega arith))
    (subst (λ xs. IsNode c.or_all.new.net c.in_ok-id.id 32 (λ x. or_of x xs)) c.deref.ensures.value c.in_ok-id.ensures.node)
