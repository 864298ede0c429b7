use Rattle.html_manual.specs.Style.{headings}
use Rattle.html_manual.proofs.style.put_headings.Goals as goal

pub returns : goal.returns
unfolding headings
returns g c = c.put_three.ensures
