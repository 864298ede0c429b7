use Rattle.html_text.proofs.Wrote.{wrote}
use Rattle.manual_sections.proofs.sections.put_lane.Goals as goal

pub returns : goal.returns
returns g c = wrote (wrote c.put_lane_head.ensures c.put_cells.ensures) c.put.ensures
