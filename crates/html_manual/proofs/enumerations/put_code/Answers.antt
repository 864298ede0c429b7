use Rattle.html_manual.proofs.enumerations.put_code.Goals as goal

pub returns : goal.returns
returns g c = c.put_three.ensures
