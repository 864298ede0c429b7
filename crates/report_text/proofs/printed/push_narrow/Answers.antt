use Rattle.std.proofs.Common.{◌*◌, ◌/◌, ◌^◌, ◌++◌, [], ◌∷◌, ◌∙◌, sym, ap, arith, false}
use Rattle.std.specs.Fmt.{digits}
use Rattle.report_text.proofs.Digits.{first_digit, next_digit, fewer, started, continued}
use Rattle.report_text.proofs.printed.push_narrow.Goals as goal

pub loop-behind-init : goal.loop-behind-init
loop-behind-init c =
    let b = c.digits_behind_first-behind in
    record {
      few = b.ensures.most;
      room = omega (arith, c.in_ok-reserve.ensures.ok, c.push_reserved.ensures.len, c.push_reserved-2.ensures.len, c.push_reserved-3.ensures.len, c.push_reserved.ensures.capacity, c.push_reserved-2.ensures.capacity, c.push_reserved-3.ensures.capacity, b.ensures.most);
      more = b.ensures.counted;
      text = started _ _ _ _ _ _ c.hex_digit.result c.in_ok-reserve.ensures.items c.push_reserved.ensures.items c.push_reserved-2.ensures.items c.push_reserved-3.ensures.items
          (first_digit c.args.number b.result b.ensures.first ∙ ap (λ d. d ∷ []) (sym c.hex_digit.ensures));
    }

pub loop-behind-preserved : goal.loop-behind-preserved
loop-behind-preserved c =
    let l = c.loop-behind in
    let push = c.push_reserved-in-loop-behind in
    let more = l.invariant.more c.loop-behind-test.true in
    record {
      few = omega (arith, l.invariant.few);
      room = omega (arith, l.invariant.room, push.ensures.len, push.ensures.capacity, c.loop-behind-test.true);
      more = λ some. fewer c.args.number l.behind c.loop-behind-test.true more;
      text = continued _ _ _ _ _ c.hex_digit-in-loop-behind.result l.invariant.text push.ensures.items
          (next_digit c.args.number l.behind c.ranges.number.fits c.loop-behind-test.true more ∙ ap (λ d. digits 16 false (c.args.number / 2 ^ (4 * l.behind)) ++ d ∷ []) (sym c.hex_digit-in-loop-behind.ensures));
    }
