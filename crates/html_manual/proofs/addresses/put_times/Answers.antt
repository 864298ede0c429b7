use Rattle.html_text.proofs.Wrote.{wrote}
use Rattle.html_manual.proofs.addresses.put_times.Goals as goal

pub returns : goal.returns
returns g c = wrote c.put.ensures c.put_number.ensures
