use Rattle.std.proofs.Common.{◌≡◌, ℕ, ◌<◌, true, nat_lt, sym, ap, ◌∙◌, arith}
use Rattle.std.proofs.lemmas.Bool.Decides.{nat_tests}
use Rattle.std.specs.Char.{digit_value}
use Rattle.stim_csv.proofs.Ahead.{one_before}
use Rattle.stim_csv.proofs.cells.one_digit.Goals as goal

test_less : (a b : ℕ) → a < b → nat_lt a b ≡ true
test_less a b h = grind (arith, nat_tests)

pub returns-then-is_narrow_within-clause-cell : goal.returns-then-is_narrow_within-clause-cell
returns-then-is_narrow_within-clause-cell c =
    let is = c.in_ok-digit.ensures.value in
    one_before c.args.text.now c.args.at c.from-number.result c.args.separator c.args.width (omega (arith, c.if-text-at-lt4.false, c.requires)) c.if-text-at-ne48.false c.if-text-at-ne120.false c.if-text-at.false
    (test_less _ _ (rw c.from.ensures at is.0)) (c.from-number.ensures ∙ (is.1 ∙ ap digit_value c.from.ensures)) (sym c.is_narrow_within.ensures ∙ c.if-is_narrow_within.true)
