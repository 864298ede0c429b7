use Rattle.std.proofs.Common.{ap}
use Rattle.html_text.proofs.Wrote.{of_bytes}
use Rattle.manual_sections.specs.Sections as spec
use Rattle.manual_sections.proofs.sections.put_section.Goals as goal

pub returns : goal.returns
returns g c = of_bytes (ap (λ x. spec.seen_section c.args.block.now c.args.notes.now x c.args.unit.now) c.sight_of.ensures) c.put_seen_section.ensures
