use Rattle.std.proofs.Common.{◌∙◌, ap, map}
use Rattle.html_text.proofs.Wrote.{of_bytes}
use Rattle.html_manual.specs.Enumerations.{enumerations}
use Rattle.html_manual.proofs.page.put_all_enumerations.Goals as goal

pub returns : goal.returns
returns g c =
    let notes = ap (map (λ v. v.items)) c.deref.ensures.value ∙ (ap (λ m. m.notes.enums) c.manual-inside.view_is ∙ ap (λ m. m.notes.enums) c.manual.view_is) in
    of_bytes (λ i. enumerations (c.far_sight.ensures i) (notes i)) c.put_enumerations.ensures
