use Rattle.replies.specs.declared.answer.Answer.{Answer}
use Rattle.replies.specs.Outcome.{Texts}

abbrev pub texts_of : Answer → Texts
texts_of answer = record { err = answer.err.items; out = answer.out.items }
