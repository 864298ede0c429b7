use Rattle.std.proofs.Common.{refl, sym, ◌∙◌}
use Rattle.rb_grammar_example.proofs.Classes.{longest_name, longest_value, longest_mark, no_lexeme_here, no_meaning_here, digits_pass, split_off}
use Rattle.rb_grammar_example.proofs.lexer.lexeme.Goals as goal

pub returns-then-is_start-clause-next : goal.returns-then-is_start-clause-next
returns-then-is_start-clause-next c = split_off _ c.split.ensures.text c.split.ensures.rest c.split.ensures.token.0
    (longest_name c.args.left.now c.name_len.result c.requires.some c.requires.bare (sym c.if-is_start.ensures) c.name_len.ensures)

pub number_value-requires : goal.number_value-requires
number_value-requires c = digits_pass c.args.left.now c.number_len-len.result c.number_len-len.ensures

pub returns-in-Some-clause-next : goal.returns-in-Some-clause-next
returns-in-Some-clause-next c = split_off _ c.split-in-Some.ensures.text c.split-in-Some.ensures.rest c.split-in-Some.ensures.token.0
    (longest_value c.args.left.now c.number_len-len.result c.in-Some.n c.requires.some c.requires.bare (sym c.is_ascii_digit.ensures.value ∙ c.if-is_ascii_digit.true) c.number_len-len.ensures c.in-Some.ensures)

pub returns-in-None-clause-fault : goal.returns-in-None-clause-fault
returns-in-None-clause-fault c = (_, no_meaning_here c.args.left.now c.number_len-len.result c.requires.some c.requires.bare (sym c.is_ascii_digit.ensures.value ∙ c.if-is_ascii_digit.true) c.number_len-len.ensures c.in-None.ensures, refl)

pub returns-in-Some-mark_at-clause-next : goal.returns-in-Some-mark_at-clause-next
returns-in-Some-mark_at-clause-next c = split_off _ c.split-in-Some-mark_at.ensures.text c.split-in-Some-mark_at.ensures.rest c.split-in-Some-mark_at.ensures.token.0
    (longest_mark c.args.left.now c.mark_len.result c.in-Some-mark_at.mark c.requires.some c.requires.bare (sym c.is_start.ensures ∙ c.if-is_start.false) (sym c.is_ascii_digit.ensures.value ∙ c.if-is_ascii_digit.false) c.in-Some-mark_at.ensures c.mark_len.ensures)

pub returns-in-None-mark_at-clause-fault : goal.returns-in-None-mark_at-clause-fault
returns-in-None-mark_at-clause-fault c =
    (_, no_lexeme_here c.args.left.now c.requires.some c.requires.bare (sym c.is_start.ensures ∙ c.if-is_start.false) (sym c.is_ascii_digit.ensures.value ∙ c.if-is_ascii_digit.false) c.in-None-mark_at.ensures, refl)
