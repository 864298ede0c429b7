use Rattle.std.proofs.Common.{rules}
use Rattle.v_lexer.proofs.Digits.{suffix_run}
use Rattle.v_lexer.proofs.numbers.suffix_len.Goals as goal

pub returns-in_default-numeral_len : goal.returns-in_default-numeral_len
returns-in_default-numeral_len c = suffix_run c.in-Some.base c.numeral_len.result c.args.text.now (search rules) (search rules) c.in-Some.ensures.value c.numeral_len.ensures (search rules)
