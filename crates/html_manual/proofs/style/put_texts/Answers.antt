use Rattle.html_manual.specs.Style.{texts}
use Rattle.html_manual.proofs.style.put_texts.Goals as goal

pub returns : goal.returns
unfolding texts
returns g c = c.put_three.ensures
