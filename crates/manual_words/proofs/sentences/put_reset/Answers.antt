use Rattle.html_text.proofs.Wrote.{wrote}
use Rattle.manual_words.proofs.sentences.put_reset.Goals as goal

pub returns : goal.returns
returns g c = wrote (wrote (wrote (wrote c.put.ensures c.put_reset_signal.ensures) c.put-2.ensures) c.put_kinds.ensures) c.put-3.ensures
