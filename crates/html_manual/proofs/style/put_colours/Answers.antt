use Rattle.html_manual.specs.Style.{colours}
use Rattle.html_manual.proofs.style.put_colours.Goals as goal

pub returns : goal.returns
unfolding colours
returns g c = c.put_three.ensures
