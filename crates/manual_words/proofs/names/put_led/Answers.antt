use Rattle.html_text.proofs.Wrote.{wrote}
use Rattle.manual_words.proofs.names.put_led.Goals as goal

pub returns : goal.returns
returns g c = wrote c.put_lead.ensures c.put_name.ensures
