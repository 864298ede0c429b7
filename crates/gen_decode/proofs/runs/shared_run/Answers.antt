-- All words lie between the first and the last.
use Rattle.std.proofs.Common.{◌+◌, ◌-◌, ◌^◌, ◌<◌, get_or, length, refl, ap, arith}
use Rattle.std.proofs.lemmas.Nat.{div-add-mod'}
use Rattle.gen_decode.proofs.Ranges.{raised_back, run_is, within_at}
use Rattle.gen_decode.proofs.runs.shared_run.Goals as goal

pub overflow_sub-first : goal.overflow_sub-first
overflow_sub-first c = (within_at c.args.words.now c.args.base c.args.bits 0 c.requires.within c.requires.some).low

pub overflow_sub-last-2 : goal.overflow_sub-last-2
overflow_sub-last-2 c = (within_at c.args.words.now c.args.base c.args.bits (length c.args.words.now - 1) c.requires.within (omega arith)).low

pub shared_bits-low-requires-clause-a_fits : goal.shared_bits-low-requires-clause-a_fits
shared_bits-low-requires-clause-a_fits c =
    let h = within_at c.args.words.now c.args.base c.args.bits 0 c.requires.within c.requires.some in
    omega (arith, h.low, h.high)

pub shared_bits-low-requires-clause-b_fits : goal.shared_bits-low-requires-clause-b_fits
shared_bits-low-requires-clause-b_fits c =
    let h = within_at c.args.words.now c.args.base c.args.bits (length c.args.words.now - 1) c.requires.within (omega arith) in
    omega (arith, h.low, h.high)

pub overflow_add-base : goal.overflow_add-base
overflow_add-base c =
    let x = get_or c.args.words.now 0 0 - c.args.base in
    let h = within_at c.args.words.now c.args.base c.args.bits 0 c.requires.within c.requires.some in
    let fits : x < 2 ^ 32 = omega (arith, h.low, h.high) in
    let back = raised_back x c.shared_bits-low.result fits in
    let whole = div-add-mod' x (2 ^ c.shared_bits-low.result) in
    omega (arith, h.low, h.high, back, whole)

pub returns : goal.returns
returns c =
    let x = get_or c.args.words.now 0 0 - c.args.base in
    let h = within_at c.args.words.now c.args.base c.args.bits 0 c.requires.within c.requires.some in
    let fits : x < 2 ^ 32 = omega (arith, h.low, h.high) in
    let shorter : c.shared_bits-low.result < c.args.bits = omega (arith, c.shared_bits-low.ensures.below, c.if-low-bits.false) in
    run_is c.args.words.now c.args.base c.args.bits _ c.requires.rising c.requires.within c.requires.some shorter refl (ap (λ n. c.args.base + n) (raised_back x c.shared_bits-low.result fits)) c.shared_bits-low.ensures.agree
