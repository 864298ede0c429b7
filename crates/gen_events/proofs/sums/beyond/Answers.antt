use Rattle.std.proofs.Common.{◌≡◌, ◌<◌, ◌^◌, sym, subst, arith}
use Rattle.std.proofs.lemmas.Nat.{one_shl}
use Rattle.rtl_net.specs.Net.{width_in}
use Rattle.gen_events.proofs.Wraps.{beyond_fits}
use Rattle.gen_events.proofs.sums.beyond.Goals as goal

pub number-requires-clause-fits : goal.number-requires-clause-fits
number-requires-clause-fits c =
    let e : c.width-width.result ≡ width_in c.args.net.now c.args.a = c.width-width.ensures.operand c.requires.a.1 in
    let l : c.in-Some.value < 2 ^ c.width-width.result = subst (λ n. c.in-Some.value < 2 ^ n) (sym e) c.in-Some.ensures.fits in
    let k : c.width-width.result < 128 = omega arith in
    rw (one_shl c.width-width.result 128 k) (beyond_fits _ _ l)
