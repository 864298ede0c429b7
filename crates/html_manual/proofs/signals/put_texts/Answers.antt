use Rattle.html_text.proofs.Wrote.{wrote}
use Rattle.html_manual.proofs.signals.put_texts.Goals as goal

pub returns : goal.returns
returns g c = wrote c.put_name_at.ensures c.put_desc_at.ensures
