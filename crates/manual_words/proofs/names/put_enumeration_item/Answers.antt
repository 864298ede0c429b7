use Rattle.html_text.proofs.Wrote.{wrote}
use Rattle.manual_words.proofs.names.put_enumeration_item.Goals as goal

pub returns : goal.returns
returns g c = wrote (wrote (wrote (wrote c.put.ensures c.put_number.ensures) c.put-2.ensures) c.put_enumeration_name.ensures) c.put-3.ensures
