use Rattle.std.proofs.Common.{◌≡◌, ℕ, ◌<◌, ◌+◌, ◌*◌, ◌^◌, List, length, take, Bool, ◌&&◌, true, false, nat_lt, if◌then◌else◌, Some, None, ◌==◌, ◌∙◌, sym, ap, subst, arith}
use Rattle.std.proofs.lemmas.Bool.Decides.{nat_tests}
use Rattle.std.specs.Char.{is_digit, digit_value}
use Rattle.std.specs.List.{list_all}
use Rattle.std.proofs.lemmas.Int.Digits.{digits_value_more}
use Rattle.std.proofs.lemmas.List.{take_all}
use Rattle.std.proofs.lemmas.List.Folds.{list_all_more}
use Rattle.std.specs.Str.Parse.{digits_value}
use Rattle.stim_csv.specs.declared.numeral.Cell.TheVariants.{Above, Number}
use Rattle.stim_csv.specs.Numeral.{cell_of, numeral_value}
use Rattle.stim_csv.proofs.numeral.numeral.Goals as goal

test_less : (a b : ℕ) → a < b → nat_lt a b ≡ true
test_less a b h = grind (arith, nat_tests)

some_there : (n : ℕ) → (n == 0) ≡ false → nat_lt 0 n ≡ true
some_there n h = grind (arith, nat_tests)

both : (a b : Bool) → a ≡ true → b ≡ true → (a && b) ≡ true
both a b p q = rw (p, q)

-- the cell of the number that all digits write
number_cell : (radix n : ℕ) (digits : List ℕ) → (length digits == 0) ≡ false → list_all (λ b. is_digit b radix) digits ≡ true → n ≡ digits_value radix digits → n < 2 ^ 128 → Number n ≡ cell_of (numeral_value radix digits)
number_cell radix n digits some all is small =
    let v = digits_value radix digits in
    let fits : nat_lt v (2 ^ 128) ≡ true = test_less v (2 ^ 128) (subst (λ m. m < 2 ^ 128) is small) in
    let there = both _ _ (some_there (length digits) some) all in
    ap Number is ∙ (sym (ap (λ b. if b then Number v else Above) fits) ∙ sym (ap (λ b. cell_of (if b then Some v else None)) there))

pub loop-byte-preserved : goal.loop-byte-preserved
loop-byte-preserved c =
    let more = list_all_more (λ b. is_digit b c.args.radix) c.args.digits.now c.loop-byte.byte-index 0 c.loop-byte-test.true in
    let value = digits_value_more c.args.radix c.args.digits.now c.loop-byte.byte-index c.loop-byte-test.true in
    let is = c.in-Some.ensures.value in
    record {
      digits = more ∙ both _ _ c.loop-byte.invariant.digits (test_less _ _ (rw c.from.ensures at is.0));
      number = ap (λ r. c.loop-byte.number * r + c.from-in-Some-2.result) c.from-in-Some.ensures
          ∙ (ap (λ n. n * c.args.radix + c.from-in-Some-2.result) c.loop-byte.invariant.number
          ∙ (ap (λ d. digits_value c.args.radix (take c.loop-byte.byte-index c.args.digits.now) * c.args.radix + d) (c.from-in-Some-2.ensures ∙ (is.1 ∙ ap digit_value c.from.ensures)) ∙ sym value));
    }

pub returns : goal.returns
returns c =
    let digits = c.args.digits.now in
    let whole : take c.loop-byte.byte-index digits ≡ digits = take_all c.loop-byte.byte-index digits c.loop-byte-test.false in
    number_cell c.args.radix c.from-2.result digits (sym c.if-is_empty.ensures)
    (subst (λ taken. list_all (λ b. is_digit b c.args.radix) taken ≡ true) whole c.loop-byte.invariant.digits)
    (c.from-2.ensures ∙ (c.loop-byte.invariant.number ∙ ap (digits_value c.args.radix) whole)) c.from-2.type_inv
