use Rattle.html_text.proofs.Wrote.{wrote}
use Rattle.manual_words.proofs.sentences.put_bits.Goals as goal

pub returns : goal.returns
returns g c = wrote (wrote (wrote (wrote (wrote (wrote c.put.ensures c.put_small.ensures) c.put-2.ensures) c.put_small-2.ensures) c.put-3.ensures) c.put_small-3.ensures) c.put-4.ensures
