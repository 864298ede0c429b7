use Rattle.html_manual.specs.Style.{lanes}
use Rattle.html_manual.proofs.style.put_lanes.Goals as goal

pub returns : goal.returns
unfolding lanes
returns g c = c.put_three.ensures
