use Rattle.html_text.proofs.Wrote.{wrote}
use Rattle.html_manual.proofs.head.put_head.Goals as goal

pub returns : goal.returns
returns g c = wrote (wrote c.put_title_line.ensures c.put_style_lines.ensures) c.put_top_heading.ensures
