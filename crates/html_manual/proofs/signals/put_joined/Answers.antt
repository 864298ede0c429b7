use Rattle.html_text.proofs.Wrote.{wrote}
use Rattle.html_manual.proofs.signals.put_joined.Goals as goal

pub returns : goal.returns
returns g c = wrote c.put_role.ensures c.put.ensures
