use Rattle.std.proofs.Common.{[], ◌∷◌, ◌∙◌, sym, ap}
use Rattle.report_text.proofs.Digits.{one, started}
use Rattle.report_text.proofs.printed.push_digit.Goals as goal

pub returns : goal.returns
returns c = started _ _ _ _ _ _ c.hex_digit.result c.in_ok-reserve.ensures.items c.push_reserved.ensures.items c.push_reserved-2.ensures.items c.push_reserved-3.ensures.items
    (one c.args.number c.requires ∙ ap (λ d. d ∷ []) (sym c.hex_digit.ensures))
