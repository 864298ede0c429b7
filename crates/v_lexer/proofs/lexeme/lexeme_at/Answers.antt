use Rattle.std.proofs.Common.{sym, ◌∙◌, subst, ℕ, rules}
use Rattle.v_lexer.specs.Reading.{IsMarkLen}
use Rattle.v_lexer.proofs.Fronts.{mark_lexeme, mark_fault}
use Rattle.v_lexer.proofs.lexeme.lexeme_at.Goals as goal

pub returns-in-0-clause-none : goal.returns-in-0-clause-none
returns-in-0-clause-none c = mark_fault c.args.text.now c.requires.some c.requires.bare (sym c.is_name_start.ensures ∙ c.if-is_name_start.false) (sym c.is_ascii_digit.ensures.value ∙ c.if-is_ascii_digit.false) (subst (λ (n : ℕ). IsMarkLen c.args.text.now n) c.in-0.is c.mark_len.ensures)

pub returns-in_default-clause-some : goal.returns-in_default-clause-some
returns-in_default-clause-some c = mark_lexeme c.mark_len.result c.args.text.now c.requires.bare (sym c.is_name_start.ensures ∙ c.if-is_name_start.false) (sym c.is_ascii_digit.ensures.value ∙ c.if-is_ascii_digit.false) (search rules) c.mark_len.ensures
