use Rattle.html_text.proofs.Wrote.{wrote}
use Rattle.manual_sections.proofs.sections.put_seen_section.Goals as goal

pub returns : goal.returns
returns g c = wrote (wrote (wrote (wrote (wrote (wrote c.put_unit_heading.ensures c.put_reg_title.ensures) c.put_at.ensures) c.put_reg_desc.ensures) c.put_diagram.ensures) c.put_fields_table.ensures) c.put.ensures
