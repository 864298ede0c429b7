use Rattle.std.proofs.Common.{ap, codes}
use Rattle.html_text.proofs.Wrote.{of_bytes}
use Rattle.html_manual.specs.Interrupts.{leads_list}
use Rattle.html_manual.proofs.interrupts.put_halt_leads.Goals as goal

pub returns : goal.returns
returns g c = of_bytes (ap (leads_list c.args.sight.now (codes "halt$") c.args.path.now) c.numbers_at.ensures) c.put_leads.ensures
