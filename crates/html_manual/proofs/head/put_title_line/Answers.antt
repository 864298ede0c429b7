use Rattle.html_manual.proofs.head.put_title_line.Goals as goal

pub returns : goal.returns
returns g c = c.put_three.ensures
