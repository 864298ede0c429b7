use Rattle.std.proofs.Common.{◌≡◌, ℕ, true, nat_eq, arith}
use Rattle.std.proofs.lemmas.Bool.Decides.{nat_tests}
use Rattle.stim_csv.proofs.Beginnings.{words_alike}
use Rattle.stim_csv.proofs.alike.are_alike_at.Goals as goal

equal : (a b : ℕ) → nat_eq a b ≡ true → a ≡ b
equal a b h = grind (arith, nat_tests)

pub returns-then-word_at : goal.returns-then-word_at
returns-then-word_at c = λ h.
    words_alike c.args.one.now c.args.other.now c.args.at c.word_at.result c.word_at-2.result c.word_at-then-word_at.result c.word_at-then-word_at-2.result c.if-word_at.true (equal _ _ h)
    c.word_at.ensures c.word_at-2.ensures c.word_at-then-word_at.ensures c.word_at-then-word_at-2.ensures
