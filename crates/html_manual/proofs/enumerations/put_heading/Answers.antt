use Rattle.html_text.proofs.Wrote.{wrote}
use Rattle.html_manual.proofs.enumerations.put_heading.Goals as goal

pub returns : goal.returns
returns g c = wrote (wrote (wrote (wrote c.put.ensures c.put_place.ensures) c.put-2.ensures) c.put_code.ensures) c.put-3.ensures
