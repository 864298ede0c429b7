use Rattle.std.proofs.Common.{◌≡◌, ◌/◌, [], ◌∷◌, ◌++◌, ◌∙◌, sym, ap, arith, false}
use Rattle.std.specs.Fmt.{digits}
use Rattle.report_text.proofs.Digits.{last_digit, one}
use Rattle.report_text.proofs.printed.push_next_two_digits.Goals as goal

pub returns : goal.returns
returns c =
    let n = c.args.number in
    let two : c.hex_digit-first.result ∷ c.hex_digit-second.result ∷ [] ≡ digits 16 false n
    = ap (λ d. d ∷ c.hex_digit-second.result ∷ []) c.hex_digit-first.ensures ∙ (ap (λ ds. ds ++ c.hex_digit-second.result ∷ []) (sym (one (n / 16) (omega (arith, c.requires.no_more)))) ∙ (ap (λ d. digits 16 false (n / 16) ++ d ∷ []) c.hex_digit-second.ensures ∙ sym (last_digit n c.requires.two (omega (arith, c.requires.no_more))))) in
    c.in_ok-extend_from_slice.ensures.items ∙ ap (λ ds. c.args.text.now.items ++ 44 ∷ 48 ∷ 120 ∷ ds) two
