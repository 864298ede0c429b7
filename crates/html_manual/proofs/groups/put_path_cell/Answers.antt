use Rattle.html_text.proofs.Wrote.{wrote}
use Rattle.html_manual.proofs.groups.put_path_cell.Goals as goal

pub returns : goal.returns
returns g c = wrote (wrote c.put.ensures c.put_path.ensures) c.put-2.ensures
