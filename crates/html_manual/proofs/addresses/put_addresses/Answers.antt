use Rattle.html_text.proofs.Wrote.{wrote}
use Rattle.html_manual.proofs.addresses.put_addresses.Goals as goal

pub returns : goal.returns
returns g c = wrote (wrote c.put_addresses_head.ensures c.put_rows.ensures) c.put.ensures
