use Rattle.std.proofs.Common.{◌≡◌, ℕ, false, eqb, length, drop, take, ◌-◌, sym, ◌∙◌, subst, arith}
use Rattle.std.proofs.lemmas.List.{take_all, length-drop}
use Rattle.std.proofs.lemmas.Bool.Decides.{nat_tests}
use Rattle.rb_grammar.specs.Separators.{Skips, begins_separator}
use Rattle.vcd_reader.proofs.Runs.{first_run}
use Rattle.vcd_reader.proofs.words.first_word.Goals as goal

some : (n : ℕ) → eqb n 0 ≡ false → n ≡ 0 → ⊥
some n h e = grind (arith, nat_tests)

pub returns-clause-some : goal.returns-clause-some
returns-clause-some c =
    let gap = c.gap_len-gap.result in
    let text = c.args.text.now in
    let h = c.gap_len-gap.ensures in
    let left = take (length text - gap) (drop gap text) in
    let all : left ≡ drop gap text = take_all (length text - gap) (drop gap text) (omega (arith, length-drop gap text)) in
    first_run text left gap c.word_len.result h.within all
    (some (length left) (sym c.is_empty.ensures ∙ c.if-is_empty.false))
    (subst (λ z. Skips false text z) (sym all) h.skips) (subst (λ z. begins_separator false z ≡ false) (sym all) h.ends) c.word_len.ensures
