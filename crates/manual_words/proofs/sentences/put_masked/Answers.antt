use Rattle.html_text.proofs.Wrote.{wrote}
use Rattle.manual_words.proofs.sentences.put_masked.Goals as goal

pub returns : goal.returns
returns g c = wrote c.put_mask.ensures c.put.ensures
