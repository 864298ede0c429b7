use Rattle.std.proofs.Common.{sym, ◌∙◌}
use Rattle.v_lexer.proofs.Digits.{behind_quote, no_quote}
use Rattle.v_lexer.proofs.numbers.constant_in.Goals as goal

pub returns-in-Some : goal.returns-in-Some
returns-in-Some c = c.unwrap_or.ensures ∙ behind_quote c.in-Some.at c.args.word.now c.constant.result (sym c.quote_in.ensures ∙ c.in-Some.is) c.constant.ensures

pub returns-in-None : goal.returns-in-None
returns-in-None c = no_quote c.args.word.now (sym c.quote_in.ensures ∙ c.in-None.is)
