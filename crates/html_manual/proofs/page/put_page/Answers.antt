use Rattle.html_text.proofs.Wrote.{wrote}
use Rattle.html_manual.specs.Page.{planned_page}
use Rattle.html_manual.proofs.page.put_page.Goals as goal

pub returns : goal.returns
unfolding planned_page
returns g c = wrote (wrote (wrote (wrote (wrote (wrote c.put_named_head.ensures c.put_about.ensures) c.put_registers.ensures) c.put_all_groups.ensures) c.put_outputs.ensures) c.put_all_enumerations.ensures) c.put.ensures
