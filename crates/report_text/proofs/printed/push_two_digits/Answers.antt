use Rattle.std.proofs.Common.{◌/◌, [], ◌∷◌, ◌++◌, ◌∙◌, sym, ap, arith, false}
use Rattle.std.specs.Fmt.{digits}
use Rattle.report_text.proofs.Digits.{continued, last_digit, one, started}
use Rattle.report_text.proofs.printed.push_two_digits.Goals as goal

pub returns : goal.returns
returns c =
    let first = one (c.args.number / 16) (omega (arith, c.requires.no_more)) ∙ ap (λ d. d ∷ []) (sym c.hex_digit.ensures) in
    continued _ _ _ _ _ c.hex_digit-2.result
    (started _ _ _ _ _ _ c.hex_digit.result c.in_ok-reserve.ensures.items c.push_reserved.ensures.items c.push_reserved-2.ensures.items c.push_reserved-3.ensures.items first)
    c.push_reserved-4.ensures.items
    (last_digit c.args.number c.requires.two (omega (arith, c.requires.no_more)) ∙ ap (λ d. digits 16 false (c.args.number / 16) ++ d ∷ []) (sym c.hex_digit-2.ensures))
