use Rattle.html_manual.proofs.head.put_top_heading.Goals as goal

pub returns : goal.returns
returns g c = c.put_three.ensures
