use Rattle.std.proofs.Common.{sym, ap}
use Rattle.html_text.proofs.Wrote.{of_bytes, wrote}
use Rattle.manual_sections.specs.Rows.{said_at}
use Rattle.html_manual.specs.Enumerations.{text_cell}
use Rattle.html_manual.proofs.enumerations.put_meaning.Goals as goal

pub returns-then-told : goal.returns-then-told
returns-then-told g c = of_bytes (ap (λ told. text_cell told (said_at c.args.notes.now c.args.number)) (sym c.if-told.true)) (wrote c.put.ensures c.put_texts.ensures)
