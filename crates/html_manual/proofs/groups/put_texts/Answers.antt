use Rattle.std.proofs.Common.{ap}
use Rattle.html_text.proofs.Wrote.{of_bytes, wrote}
use Rattle.html_manual.specs.Groups.{texts}
use Rattle.html_manual.proofs.groups.put_texts.Goals as goal

pub returns : goal.returns
returns g c = of_bytes (ap texts c.note.view_is) (wrote c.put_paragraph.ensures c.put_paragraph-2.ensures)
