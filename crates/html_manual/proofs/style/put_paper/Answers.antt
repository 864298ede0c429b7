use Rattle.html_manual.specs.Style.{paper}
use Rattle.html_manual.proofs.style.put_paper.Goals as goal

pub returns : goal.returns
unfolding paper
returns g c = c.put_three.ensures
