use Rattle.manual_sections.proofs.sections.put_fields_head.Goals as goal

pub returns : goal.returns
returns g c = c.put.ensures
