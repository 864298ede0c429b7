use Rattle.html_text.proofs.Wrote.{wrote}
use Rattle.manual_words.proofs.sentences.put_event.Goals as goal

pub returns : goal.returns
returns g c = wrote (wrote c.put.ensures c.put_event_words.ensures) c.put-2.ensures
