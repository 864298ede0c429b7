use Rattle.html_text.proofs.Wrote.{wrote}
use Rattle.html_manual.proofs.enumerations.put_enumeration.Goals as goal

pub returns : goal.returns
returns g c = wrote (wrote (wrote c.put_name.ensures c.put_first_user.ensures) c.put_values_of.ensures) c.put.ensures
