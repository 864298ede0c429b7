use Rattle.std.proofs.Common.{◌≡◌, ℕ, ◌<◌, ◌+◌, ◌*◌, take, Bool, ◌&&◌, true, nat_lt, ◌∙◌, sym, ap, arith}
use Rattle.std.proofs.lemmas.Bool.Decides.{nat_tests}
use Rattle.std.specs.Char.{is_digit, digit_value}
use Rattle.std.proofs.lemmas.Int.Digits.{digits_value_more}
use Rattle.std.proofs.lemmas.List.Folds.{list_all_more}
use Rattle.std.specs.Str.Parse.{digits_value}
use Rattle.stim_csv.specs.Numeral.{capped}
use Rattle.stim_csv.proofs.numeral.long_numeral.Goals as goal

test_less : (a b : ℕ) → a < b → nat_lt a b ≡ true
test_less a b h = grind (arith, nat_tests)

both : (a b : Bool) → a ≡ true → b ≡ true → (a && b) ≡ true
both a b p q = rw (p, q)

pub loop-byte-preserved : goal.loop-byte-preserved
loop-byte-preserved c =
    let more = list_all_more (λ b. is_digit b c.args.radix) c.args.digits.now c.loop-byte.byte-index 0 c.loop-byte-test.true in
    let value = digits_value_more c.args.radix c.args.digits.now c.loop-byte.byte-index c.loop-byte-test.true in
    let is = c.in-Some.ensures.value in
    record {
      digits = more ∙ both _ _ c.loop-byte.invariant.digits (test_less _ _ (rw c.from.ensures at is.0));
      number = c.appended-number.ensures _ c.loop-byte.invariant.number ∙ ap capped (ap (λ d. digits_value c.args.radix (take c.loop-byte.byte-index c.args.digits.now) * c.args.radix + d) (is.1 ∙ ap digit_value c.from.ensures) ∙ sym value);
    }
