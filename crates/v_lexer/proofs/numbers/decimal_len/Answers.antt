use Rattle.v_lexer.proofs.Digits.{decimal_run}
use Rattle.v_lexer.proofs.numbers.decimal_len.Goals as goal

pub returns-else-text-eq48 : goal.returns-else-text-eq48
returns-else-text-eq48 c = decimal_run c.digits_len.result c.args.text.now c.requires c.if-text-eq48.false c.digits_len.ensures
