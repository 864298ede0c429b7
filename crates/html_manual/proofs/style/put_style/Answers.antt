use Rattle.html_text.proofs.Wrote.{wrote}
use Rattle.html_manual.specs.Style.{style}
use Rattle.html_manual.proofs.style.put_style.Goals as goal

pub returns : goal.returns
unfolding style
returns g c = wrote (wrote (wrote (wrote (wrote c.put_colours.ensures c.put_headings.ensures) c.put_texts.ensures) c.put_cells.ensures) c.put_lanes.ensures) c.put_paper.ensures
