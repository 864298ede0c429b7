use Rattle.std.proofs.Common.{◌∙◌, ◌||◌}
use Rattle.rdl_props.specs.declared.prop.Prop.TheVariants as prop
use Rattle.rdl_layers.specs.Settings.{is_assigned}
use Rattle.rdl_facts.proofs.Parts.{in-list}
use Rattle.rdl_facts.proofs.unit_facts.has_parts.Goals as goal

pub returns : goal.returns
returns c = λ all n h.
    (λ i. (c.has_entry.ensures ∙ h.assigned prop.Sticky) i || (c.has_entry-2.ensures ∙ h.assigned prop.Stickybit) i || (c.has_entry-3.ensures ∙ h.assigned prop.Enable) i || (c.has_entry-4.ensures ∙ h.assigned prop.Mask) i || (c.has_entry-5.ensures ∙ h.assigned prop.Haltenable) i || (c.has_entry-6.ensures ∙ h.assigned prop.Haltmask) i)
    ∙ in-list (is_assigned n prop.Sticky) (is_assigned n prop.Stickybit) (is_assigned n prop.Enable) (is_assigned n prop.Mask) (is_assigned n prop.Haltenable) (is_assigned n prop.Haltmask)
