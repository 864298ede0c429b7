use Rattle.html_text.proofs.Wrote.{of_bytes, wrote}
use Rattle.html_manual.proofs.enumerations.put_values_head.Goals as goal

pub returns : goal.returns
returns g c = wrote (wrote c.put.ensures (of_bytes c.meaning_head.ensures c.put-2.ensures)) c.put-3.ensures
