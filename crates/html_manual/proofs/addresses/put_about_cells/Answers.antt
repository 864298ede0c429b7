use Rattle.html_text.proofs.Wrote.{wrote}
use Rattle.html_manual.proofs.addresses.put_about_cells.Goals as goal

pub returns : goal.returns
returns g c = wrote (wrote (wrote (wrote (wrote (wrote c.put.ensures c.put_entry_elements.ensures) c.put-2.ensures) c.put_entry_reset.ensures) c.put-3.ensures) c.put_entry_name.ensures) c.put-4.ensures
