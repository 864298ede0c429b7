use Rattle.std.proofs.Common.{[], ◌∷◌, ◌++◌, ◌∙◌, sym, ap}
use Rattle.report_text.proofs.Digits.{one}
use Rattle.report_text.proofs.printed.push_next_digit.Goals as goal

pub returns : goal.returns
returns c = c.in_ok-extend_from_slice.ensures.items ∙ ap (λ ds. c.args.text.now.items ++ 44 ∷ 48 ∷ 120 ∷ ds) (ap (λ d. d ∷ []) c.hex_digit.ensures ∙ sym (one c.args.number c.requires))
