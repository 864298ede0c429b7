use Rattle.html_text.proofs.Wrote.{wrote}
use Rattle.manual_words.proofs.names.put_index.Goals as goal

pub returns : goal.returns
returns g c = wrote c.put.ensures c.put_number.ensures
