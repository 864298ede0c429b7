-- The number of the first word at the address.
use Rattle.std.proofs.Common.{refl, subst, arith}
use Rattle.rtl_net.proofs.Nets.{Grows-trans, IsNode-grows, IsNode-is, Stands-grows}
use Rattle.gen_decode.specs.Among.{IsAmong}
use Rattle.gen_decode.proofs.Joined.{IsAmong-grows, word_is}
use Rattle.gen_decode.proofs.words.decode.Goals as goal

pub returns-in_ok-word-in-Some-clause-word : goal.returns-in_ok-word-in-Some-clause-word
returns-in_ok-word-in-Some-clause-word c =
    let grows = Grows-trans c.among.new.net c.zero.new.net c.choose.new.net c.in_ok-none.ensures.older c.in_ok-word-in-Some.ensures.older in
    let whole = Grows-trans c.args.net.now c.among.new.net c.choose.new.net c.in_ok-found.ensures.older grows in
    let found = IsAmong-grows c.among.new.net c.choose.new.net c.in_ok-found.found c.args.address c.args.words.now 0 0 32 grows c.in_ok-found.ensures.among in
    let some = subst (λ d. IsAmong c.choose.new.net d c.args.address c.args.words.now 0 0 32) c.in-Some.is found in
    let at_first = subst (λ d. IsAmong c.among.new.net d c.args.address c.args.words.now 0 0 32) c.in-Some.is c.in_ok-found.ensures.among in
    word_is c.choose.new.net c.in-Some.found c.args.address c.in_ok-none.none c.in_ok-word-in-Some.word c.args.words.now (Stands-grows c.args.net.now c.choose.new.net c.args.address 32 whole c.requires.address) (λ i. let f = c.type_inv.words i in omega (arith, f)) some
    (IsNode-grows c.zero.new.net c.choose.new.net c.in_ok-none.none 16 (λ x. 0) c.in_ok-word-in-Some.ensures.older c.in_ok-none.ensures.node)
    (IsNode-is c.choose.new.net c.in_ok-word-in-Some.word _ 16 _ _ c.in_ok-word-in-Some.ensures.node (Stands-grows c.among.new.net c.zero.new.net c.in-Some.found.word 16 c.in_ok-none.ensures.older at_first.stands.1).width (λ x s. refl))
