use Rattle.html_text.proofs.Wrote.{wrote}
use Rattle.html_text.proofs.tags.put_hex.Goals as goal

pub returns : goal.returns
returns g c = wrote c.put.ensures c.put_digits.ensures
