use Rattle.std.proofs.Common.{◌≡◌, ◌≤◌, ◌==◌, ◌&&◌, length, refl, sym, ap, ◌∙◌, subst}
use Rattle.rtl_net.specs.Value.{bit_of}
use Rattle.rtl_net.proofs.Nets.{Grows-trans, IsNode-grows, IsNode-is}
use Rattle.rb_model.specs.References.{Each}
use Rattle.rb_model.specs.Sound.{WordIsSound}
use Rattle.gen_scene.proofs.Worths.{HasInlet-grows}
use Rattle.gen_access.specs.Words.{AreMarkedWords, reads_through}
use Rattle.gen_access.proofs.Reaching.{read_hits as hits_made}
use Rattle.gen_access.proofs.reached.read_hits.Goals as goal

pub reached_words-requires : goal.reached_words-requires
reached_words-requires c =
    let b = c.args.base.now.block.now in
    let value : c.deref-words.result.now ≡ b.reads = c.deref-words.ensures.value ∙ ap (λ b. b.reads) c.block.view_is in
    subst (Each (WordIsSound b)) (sym value) c.requires.sound.reads

pub hits-requires-clause-few : goal.hits-requires-clause-few
hits-requires-clause-few c =
    let value : c.deref-words.result.now ≡ c.args.base.now.block.now.reads = c.deref-words.ensures.value ∙ ap (λ b. b.reads) c.block.view_is in
    let long : length c.deref.result.now ≡ length c.args.base.now.block.now.reads = ap length c.deref.ensures.value ∙ (c.in_ok-needed.ensures.long ∙ ap length value) in
    subst (λ n. n ≤ 65536) (sym long) c.requires.sound.some_word.1

pub returns-clause-hits : goal.returns-clause-hits
returns-clause-hits c =
    let b = c.args.base.now.block.now in
    let a = c.args.base.now.inlet in
    let g02 = Grows-trans c.args.net.now c.opposite.new.net c.both.new.net c.in_ok-idle.ensures.older c.in_ok-on.ensures.older in
    let g = Grows-trans c.args.net.now c.both.new.net c.hits.new.net g02 c.in_ok-ids.ensures.older in
    let on = IsNode-is c.both.new.net c.in_ok-on.on 1 1 (λ x. bit_of (x.node a.valid.0 == 1 && x.node c.in_ok-idle.idle.0 == 1)) (λ x. bit_of (x.node a.valid.0 == 1 && bit_of (x.node a.write.0 == 0) == 1)) c.in_ok-on.ensures.node refl
    (λ x s. ap (λ t. bit_of (x.node a.valid.0 == 1 && t == 1)) (c.in_ok-idle.ensures.node.value x (c.in_ok-on.ensures.older.settles x s))) in
    let value : c.deref-words.result.now ≡ b.reads = c.deref-words.ensures.value ∙ ap (λ b. b.reads) c.block.view_is in
    let marked : AreMarkedWords b reads_through b.reads c.deref.result.now
    = subst (λ ws. AreMarkedWords b reads_through ws c.deref.result.now) value (subst (AreMarkedWords b reads_through c.deref-words.result.now) (sym c.deref.ensures.value) c.in_ok-needed.ensures) in
    hits_made b a c.hits.new.net c.in_ok-on.on c.deref.result.now c.in_ok-ids.ids.items (HasInlet-grows c.args.net.now c.hits.new.net g a c.requires.inlet) c.in_ok-ids.ensures.each
    c.in_ok-ids.ensures.long marked (IsNode-grows c.both.new.net c.hits.new.net c.in_ok-on.on 1 _ c.in_ok-ids.ensures.older on)
