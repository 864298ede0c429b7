use Rattle.std.proofs.Common.{subst, List, ℕ}
use Rattle.plain_lemmas.proofs.Lists.{take_drop-rest as rest_is}
use Rattle.v_lexer.specs.Reading.{IsSuffixLen}
use Rattle.v_lexer.proofs.NumberFronts.{decimal_lexeme, constant_lexeme, constant_fault}
use Rattle.v_lexer.proofs.lexeme.number.Goals as goal

pub returns-then-suffix-eq0-clause-some : goal.returns-then-suffix-eq0-clause-some
returns-then-suffix-eq0-clause-some c =
    let n = c.decimal_len-size.result in
    let text = c.args.text.now in
    decimal_lexeme n c.suffix_len-suffix.result text c.requires.bare c.requires.digit c.decimal_len-size.ensures (subst (λ (z : List ℕ). IsSuffixLen z c.suffix_len-suffix.result) (rest_is n text) c.suffix_len-suffix.ensures) c.if-suffix-eq0.true

pub returns-in_err-width-clause-none : goal.returns-in_err-width-clause-none
returns-in_err-width-clause-none c =
    let n = c.decimal_len-size.result in
    let text = c.args.text.now in
    rw c.from_residual.ensures (constant_fault n c.suffix_len-suffix.result text c.requires.bare c.requires.digit c.decimal_len-size.ensures (subst (λ (z : List ℕ). IsSuffixLen z c.suffix_len-suffix.result) (rest_is n text) c.suffix_len-suffix.ensures) c.if-suffix-eq0.false c.in_err-width.ensures)

pub returns-clause-some : goal.returns-clause-some
returns-clause-some c =
    let n = c.decimal_len-size.result in
    let text = c.args.text.now in
    constant_lexeme n c.suffix_len-suffix.result c.in_ok-width.width c.in_ok-width.value text c.requires.bare c.requires.digit c.decimal_len-size.ensures (subst (λ (z : List ℕ). IsSuffixLen z c.suffix_len-suffix.result) (rest_is n text) c.suffix_len-suffix.ensures) c.if-suffix-eq0.false c.in_ok-width.ensures
