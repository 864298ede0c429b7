use Rattle.html_text.proofs.Wrote.{wrote}
use Rattle.html_manual.proofs.enumerations.put_entry.Goals as goal

pub returns : goal.returns
returns g c = wrote (wrote (wrote c.put_value.ensures c.put_code.ensures) c.put_meaning.ensures) c.put.ensures
