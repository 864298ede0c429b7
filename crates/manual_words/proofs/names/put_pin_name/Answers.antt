use Rattle.html_text.proofs.Wrote.{wrote}
use Rattle.manual_words.proofs.names.put_pin_name.Goals as goal

pub returns : goal.returns
returns g c = wrote (wrote (wrote c.put.ensures c.put-2.ensures) c.put_pin_path.ensures) c.put-3.ensures
