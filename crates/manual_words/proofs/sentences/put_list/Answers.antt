use Rattle.html_text.proofs.Wrote.{wrote}
use Rattle.manual_words.proofs.sentences.put_list.Goals as goal

pub returns : goal.returns
returns g c = wrote (wrote c.put.ensures c.put_each.ensures) c.put-2.ensures
