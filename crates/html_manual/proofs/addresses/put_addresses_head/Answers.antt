use Rattle.html_manual.proofs.addresses.put_addresses_head.Goals as goal

pub returns : goal.returns
returns g c = c.put.ensures
