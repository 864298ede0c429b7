use Rattle.html_text.proofs.Wrote.{wrote}
use Rattle.html_manual.proofs.head.put_style_lines.Goals as goal

pub returns : goal.returns
returns g c = wrote c.put_style.ensures c.put.ensures
