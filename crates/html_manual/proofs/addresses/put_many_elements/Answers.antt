use Rattle.html_text.proofs.Wrote.{wrote}
use Rattle.html_manual.proofs.addresses.put_many_elements.Goals as goal

pub returns : goal.returns
returns g c = wrote c.put_number.ensures c.put_all_times.ensures
