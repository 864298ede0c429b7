use Rattle.std.proofs.Common.{ap}
use Rattle.html_text.proofs.Wrote.{of_bytes, wrote}
use Rattle.html_manual.specs.Page.{top_texts}
use Rattle.html_manual.proofs.head.put_top_texts.Goals as goal

pub returns : goal.returns
returns g c = of_bytes (ap top_texts c.note.view_is) (wrote c.put_title.ensures c.put_paragraph.ensures)
