use Rattle.html_text.proofs.Wrote.{wrote}
use Rattle.manual_words.proofs.sentences.put_count.Goals as goal

pub returns : goal.returns
returns g c = wrote (wrote (wrote (wrote c.put_three.ensures c.put_amount.ensures) c.put.ensures) c.put_feed.ensures) c.put-2.ensures
