use Rattle.html_manual.proofs.groups.put_groups_head.Goals as goal

pub returns : goal.returns
returns g c = c.put.ensures
