use Rattle.std.proofs.Common.{◌∙◌, ap, option_copied, sym}
use Rattle.html_text.proofs.Wrote.{of_bytes}
use Rattle.manual_sections.specs.Sections as spec
use Rattle.manual_sections.proofs.sections.put_cell.Goals as goal

pub returns-in-None : goal.returns-in-None
returns-in-None g c = of_bytes (ap (λ o. spec.cell_of c.args.write c.args.base c.args.end c.args.bit o) (ap option_copied (sym c.in-None.is) ∙ c.part_at.ensures)) c.put_bare_cell.ensures

pub returns-in-Some : goal.returns-in-Some
returns-in-Some g c = of_bytes (ap (λ o. spec.cell_of c.args.write c.args.base c.args.end c.args.bit o) (ap option_copied (sym c.in-Some.is) ∙ c.part_at.ensures)) c.put_part_cell.ensures
