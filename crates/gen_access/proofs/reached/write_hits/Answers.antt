use Rattle.std.proofs.Common.{◌≡◌, ◌≤◌, length, map, sym, ap, ◌∙◌, subst}
use Rattle.std.proofs.lemmas.List.{length-map}
use Rattle.rtl_net.proofs.Nets.{Grows-trans, IsNode-grows}
use Rattle.rb_model.specs.References.{Each}
use Rattle.rb_model.specs.Sound.{WordIsSound}
use Rattle.gen_scene.proofs.Worths.{HasInlet-grows}
use Rattle.gen_access.specs.Words.{AreMarkedWords, writes_through}
use Rattle.gen_access.proofs.Reaching.{write_hits as hits_made}
use Rattle.gen_access.proofs.reached.write_hits.Goals as goal

pub reached_words-requires : goal.reached_words-requires
reached_words-requires c =
    let b = c.args.base.now.block.now in
    let value : c.deref-words.result.now ≡ b.writes = c.deref-words.ensures.value ∙ ap (λ b. b.writes) c.block.view_is in
    subst (Each (WordIsSound b)) (sym value) c.requires.sound.writes

pub hits-requires-clause-few : goal.hits-requires-clause-few
hits-requires-clause-few c =
    let b = c.args.base.now.block.now in
    let value : c.deref-words.result.now ≡ b.writes = c.deref-words.ensures.value ∙ ap (λ b. b.writes) c.block.view_is in
    let as_many : length b.reads ≡ length b.writes
    = sym (length-map b.reads (λ w. w.address)) ∙ (ap length c.requires.sound.same_addresses ∙ length-map b.writes (λ w. w.address)) in
    let long : length c.deref.result.now ≡ length b.reads = ap length c.deref.ensures.value ∙ (c.in_ok-needed.ensures.long ∙ (ap length value ∙ sym as_many)) in
    subst (λ n. n ≤ 65536) (sym long) c.requires.sound.some_word.1

pub returns-clause-hits : goal.returns-clause-hits
returns-clause-hits c =
    let b = c.args.base.now.block.now in
    let a = c.args.base.now.inlet in
    let g = Grows-trans c.args.net.now c.both.new.net c.hits.new.net c.in_ok-on.ensures.older c.in_ok-ids.ensures.older in
    let value : c.deref-words.result.now ≡ b.writes = c.deref-words.ensures.value ∙ ap (λ b. b.writes) c.block.view_is in
    let marked : AreMarkedWords b writes_through b.writes c.deref.result.now
    = subst (λ ws. AreMarkedWords b writes_through ws c.deref.result.now) value (subst (AreMarkedWords b writes_through c.deref-words.result.now) (sym c.deref.ensures.value) c.in_ok-needed.ensures) in
    hits_made b a c.hits.new.net c.in_ok-on.on c.deref.result.now c.in_ok-ids.ids.items (HasInlet-grows c.args.net.now c.hits.new.net g a c.requires.inlet) c.in_ok-ids.ensures.each
    c.in_ok-ids.ensures.long marked (IsNode-grows c.both.new.net c.hits.new.net c.in_ok-on.on 1 _ c.in_ok-ids.ensures.older c.in_ok-on.ensures.node)
