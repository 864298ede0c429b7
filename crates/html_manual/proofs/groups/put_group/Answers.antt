use Rattle.html_text.proofs.Wrote.{wrote}
use Rattle.html_manual.proofs.groups.put_group.Goals as goal

pub returns : goal.returns
returns g c = wrote (wrote c.put_path_of.ensures c.put_texts_of.ensures) c.put.ensures
