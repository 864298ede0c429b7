use Rattle.html_text.proofs.Wrote.{wrote}
use Rattle.html_text.proofs.pen.put_three.Goals as goal

pub returns : goal.returns
returns g c = wrote (wrote c.put.ensures c.put-2.ensures) c.put-3.ensures
