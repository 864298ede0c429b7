-- A number only grows with more digits.
use Rattle.std.specs.List.{AllPass}
use Rattle.std.specs.Char.{is_ascii_digit, digit_value}
use Rattle.std.specs.Str.Parse.{digits_value}
use Rattle.std.proofs.Common.{◌≡◌, ℕ, ◌+◌, ◌*◌, ◌-◌, ◌^◌, ◌≤◌, ◌<◌, true, List, length, take, get_or, ◌∙◌, arith}
use Rattle.std.proofs.lemmas.Bool.Decides.{nat_tests}
use Rattle.std.proofs.lemmas.List.Elements.{All-get_or}
use Rattle.std.proofs.lemmas.Int.Digits.{digits_value_more}
use Rattle.std.proofs.lemmas.Str.Parse.{digits_value-take-le}

digit : (b : ℕ) → is_ascii_digit b ≡ true → digit_value b ≡ b - 48
digit b h = grind (arith, nat_tests)

pub value_more : (v i : ℕ) (text : List ℕ) → i < length text → AllPass is_ascii_digit text → v ≡ digits_value 10 (take i text) → digits_value 10 (take (i + 1) text) ≡ v * 10 + (get_or text i 0 - 48)
value_more v i text l h e = digits_value_more 10 text i l ∙ omega (arith, e, digit (get_or text i 0) (All-get_or (λ b. is_ascii_digit b ≡ true) text i 0 l h))

pub too_large : (v i : ℕ) (text : List ℕ) → i < length text → AllPass is_ascii_digit text → v ≡ digits_value 10 (take i text) → 2 ^ 64 ≤ v * 10 + (get_or text i 0 - 48) → 2 ^ 64 ≤ digits_value 10 text
too_large v i text l h e g = omega (arith, g, value_more v i text l h e, digits_value-take-le 10 text (i + 1) (omega arith))
