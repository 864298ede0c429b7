use Rattle.std.proofs.Common.{◌≡◌, suc, ◌+◌, ◌-◌, ◌/◌, ◌%◌, ◌^◌, ◌<◌, ◌≤◌, ◌++◌, take, set, sym, ap, ◌∙◌, subst, arith, length-set, add-one, refl}
use Rattle.vcd_syntax.specs.Dump.{code_within}
use Rattle.vcd_printer.proofs.Coding.{code_is, enough, less_left, step}
use Rattle.vcd_printer.proofs.digits.code_digits.Goals as goal

pub loop-left-init : goal.loop-left-init
loop-left-init c = record {
  within = omega arith;
  count = c.told-bytes;
  fits = omega (arith, c.ranges.number.fits);
  digits = code_is c.args.number (omega (arith, c.ranges.number.fits));
}

pub loop-left-preserved : goal.loop-left-preserved
loop-left-preserved c =
    let l = c.loop-left in
    let i = l.invariant in
    let two : 2 ≤ 10 - l.len = enough (10 - l.len) l.left c.loop-left-test.true i.fits in
    let room = 10 - (l.len + 1) in
    let left : 10 - l.len ≡ suc room = omega arith in
    let d = 33 + l.left % 94 in
    let next : suc l.len ≡ l.len + 1 = sym (add-one l.len) in
    record {
      within = omega arith;
      count = length-set l.bytes l.len d ∙ i.count;
      fits = less_left room l.left (subst (λ n. l.left < 94 ^ n) left i.fits);
      digits = ap (λ n. take n (set l.bytes l.len d) ++ code_within room (l.left / 94)) (sym next)
          ∙ (step l.len room l.left l.bytes (omega (arith, i.count)) c.loop-left-test.true d refl ∙ (ap (λ n. take l.len l.bytes ++ code_within n l.left) (sym left) ∙ i.digits));
    }
