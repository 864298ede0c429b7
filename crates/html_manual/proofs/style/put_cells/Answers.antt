use Rattle.html_manual.specs.Style.{cells}
use Rattle.html_manual.proofs.style.put_cells.Goals as goal

pub returns : goal.returns
unfolding cells
returns g c = c.put_three.ensures
