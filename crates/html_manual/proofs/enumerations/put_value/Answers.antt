use Rattle.html_text.proofs.Wrote.{wrote}
use Rattle.html_manual.proofs.enumerations.put_value.Goals as goal

pub returns : goal.returns
returns g c = wrote (wrote c.put.ensures c.put_hex.ensures) c.put-2.ensures
