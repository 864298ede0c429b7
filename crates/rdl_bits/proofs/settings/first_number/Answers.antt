use Rattle.std.proofs.Common.{◌≡◌, ◌-◌, ◌<◌, suc, length, drop, unwrap_or, ap, subst, refl, arith}
use Rattle.rdl_layers.specs.Phase4.{first_or}
use Rattle.rdl_addr.specs.TextReadings.{numbers_in}
use Rattle.rdl_sizes.proofs.Turns.{drop-all}
use Rattle.rdl_bits.proofs.Lists.{number-here}
use Rattle.rdl_bits.proofs.settings.first_number.Goals as goal

pub loop-at-init : goal.loop-at-init
loop-at-init c = λ around shown d. ap (λ l. first_or (numbers_in around l) d) (drop-all c.args.exprs.now (length c.args.exprs.now) refl)

pub loop-at-preserved : goal.loop-at-preserved
loop-at-preserved c = λ around shown.
    let i = c.loop-at.at - 1 in
    let next : c.loop-at.at ≡ suc i = omega (arith, c.loop-at-test.true) in
    let low : i < length c.args.exprs.now = omega (arith, c.loop-at-test.true, c.loop-at.auto.at) in
    number-here around c.args.exprs.now i c.index-exprs-at.result c.loop-at.first c.number_or-first.result low c.index-exprs-at.is (c.number_or-first.ensures around shown)
    (λ d. subst (λ k. first_or (numbers_in around (drop k c.args.exprs.now)) d ≡ unwrap_or c.loop-at.first d) next (c.loop-at.invariant around shown d))

pub returns : goal.returns
returns c = λ around shown d.
    let zero : c.loop-at.at ≡ 0 = omega (arith, c.loop-at-test.false) in
    subst (λ k. first_or (numbers_in around (drop k c.args.exprs.now)) d ≡ unwrap_or c.loop-at.first d) zero (c.loop-at.invariant around shown d)
