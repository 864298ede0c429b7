use Rattle.html_text.proofs.Wrote.{wrote}
use Rattle.html_text.proofs.tags.put_within.Goals as goal

pub returns : goal.returns
returns g c = wrote (wrote c.put.ensures c.put_escaped.ensures) c.put-2.ensures
