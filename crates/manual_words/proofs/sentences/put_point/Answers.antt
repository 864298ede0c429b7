use Rattle.html_text.proofs.Wrote.{wrote}
use Rattle.manual_words.proofs.sentences.put_point.Goals as goal

pub returns : goal.returns
returns g c = wrote (wrote c.put.ensures c.put_sentence.ensures) c.put-2.ensures
