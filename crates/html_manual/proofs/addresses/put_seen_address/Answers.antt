use Rattle.html_text.proofs.Wrote.{wrote}
use Rattle.html_manual.proofs.addresses.put_seen_address.Goals as goal

pub returns : goal.returns
returns g c = wrote (wrote c.put_place_cells.ensures c.put_unit_label.ensures) c.put_about_cells.ensures
