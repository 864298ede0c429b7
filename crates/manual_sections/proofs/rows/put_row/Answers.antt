use Rattle.std.proofs.Common.{◌∙◌, ap, option_copied, sym}
use Rattle.html_text.specs.Writing.{at}
use Rattle.html_text.proofs.Wrote.{nothing, of_bytes}
use Rattle.manual_sections.specs.Rows as spec
use Rattle.manual_sections.proofs.rows.put_row.Goals as goal

pub returns-in-None : goal.returns-in-None
returns-in-None g c = of_bytes (ap (λ o. spec.row_of c.args.block.now c.args.notes.now c.args.sight.now c.args.mark.now c.args.part.now o c.args.effects.now) (ap option_copied (sym c.in-None.is) ∙ c.view_at.ensures)) (nothing (at (g.K.Sink.told c.args.out.now) (g.K.Sink.faults c.args.out.now) c.args.pen.now))

pub returns-in-Some : goal.returns-in-Some
returns-in-Some g c = of_bytes (ap (λ o. spec.row_of c.args.block.now c.args.notes.now c.args.sight.now c.args.mark.now c.args.part.now o c.args.effects.now) (ap option_copied (sym c.in-Some.is) ∙ c.view_at.ensures)) c.put_viewed.ensures
