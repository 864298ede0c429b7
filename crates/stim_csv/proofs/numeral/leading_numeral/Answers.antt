use Rattle.std.proofs.Common.{◌≡◌, ℕ, ◌<◌, ◌+◌, ◌*◌, take, Bool, ◌&&◌, true, nat_lt, ◌∙◌, sym, ap, arith}
use Rattle.std.proofs.lemmas.Bool.Decides.{nat_tests}
use Rattle.std.specs.Char.{is_digit, digit_value}
use Rattle.std.proofs.lemmas.Int.Digits.{digits_value_more}
use Rattle.std.proofs.lemmas.List.Folds.{list_all_more}
use Rattle.std.specs.Str.Parse.{digits_value}
use Rattle.stim_csv.proofs.numeral.leading_numeral.Goals as goal

test_less : (a b : ℕ) → a < b → nat_lt a b ≡ true
test_less a b h = grind (arith, nat_tests)

both : (a b : Bool) → a ≡ true → b ≡ true → (a && b) ≡ true
both a b p q = rw (p, q)

pub loop-count-preserved : goal.loop-count-preserved
loop-count-preserved c =
    let more = list_all_more (λ b. is_digit b c.args.radix) c.args.text.now c.loop-count.count 0 c.loop-count-test.true in
    let value = digits_value_more c.args.radix c.args.text.now c.loop-count.count c.loop-count-test.true in
    let is = c.in-Some.ensures.value in
    record {
      digits = more ∙ both _ _ c.loop-count.invariant.digits (test_less _ _ (rw c.from.ensures at is.0));
      number = ap (λ r. c.loop-count.number * r + c.from-in-loop-count-2.result) c.from-in-loop-count.ensures
          ∙ (ap (λ n. n * c.args.radix + c.from-in-loop-count-2.result) c.loop-count.invariant.number
          ∙ (ap (λ d. digits_value c.args.radix (take c.loop-count.count c.args.text.now) * c.args.radix + d) (c.from-in-loop-count-2.ensures ∙ (is.1 ∙ ap digit_value c.from.ensures)) ∙ sym value));
    }
