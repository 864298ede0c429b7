use Rattle.std.proofs.Common.{◌∙◌}
use Rattle.html_manual.proofs.Planning.{same_text}
use Rattle.html_manual.proofs.page.prepare.Goals as goal

pub returns : goal.returns
returns c =
    same_text c.args.block c.args.notes c.args.encodings _ _ _ _ _ _ _ (c.deref.ensures.value ∙ c.in_ok-lots.ensures) c.in_ok-fields.ensures (c.deref-2.ensures.value ∙ c.in_ok-lots.ensures) c.in_ok-regs.ensures
    (c.deref-3.ensures.value ∙ c.in_ok-lots.ensures) c.in_ok-units.ensures c.in_ok-tables.ensures
