use Rattle.std.proofs.Common.{◌≡◌, ℕ, ◌-◌, ◌*◌, ◌/◌, ◌^◌, ◌<◌, ◌≤◌, arith}
use Rattle.std.proofs.lemmas.Nat.{leading_top}
use lib.Count.{count_leading_zeros}
use Rattle.report_text.proofs.Digits.{behind_first}
use Rattle.report_text.proofs.printed.digits_behind_first.Goals as goal

counted : (n : ℕ) → 16 ≤ n → n < 2 ^ 64 → (n / 2 ^ (4 * ((63 - count_leading_zeros 64 n) / 4)) < 16) × (2 ^ (4 * ((63 - count_leading_zeros 64 n) / 4)) ≤ n)
counted n large small =
    let (j, is, low, high) = leading_top 64 n (omega arith) small in
    let left : 63 - count_leading_zeros 64 n ≡ j = omega (arith, is) in
    rw left (behind_first n j low high)

pub returns-else-number-lt16-clause-first : goal.returns-else-number-lt16-clause-first
returns-else-number-lt16-clause-first c = (counted c.args.number c.if-number-lt16.false c.ranges.number.fits).0

pub returns-else-number-lt16-clause-counted : goal.returns-else-number-lt16-clause-counted
returns-else-number-lt16-clause-counted c = λ some. (counted c.args.number c.if-number-lt16.false c.ranges.number.fits).1
