use Rattle.html_text.proofs.Wrote.{wrote}
use Rattle.manual_words.proofs.sentences.put_with_item.Goals as goal

pub returns : goal.returns
returns g c = wrote c.put.ensures c.put_item.ensures
