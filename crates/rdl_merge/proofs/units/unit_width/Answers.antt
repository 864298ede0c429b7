use Rattle.std.proofs.Common.{◌≡◌, ◌∙◌, ◌≤◌, ◌++◌, sym, ap, subst}
use Rattle.rdl_values.specs.Faults.{when}
use Rattle.rdl_layers.specs.Phase4.{first_or, number_at, width_of, width_prop}
use Rattle.rdl_layers.specs.Settings.{is_assigned}
use Rattle.rdl_merge.proofs.units.unit_width.Goals as goal

pub returns-clause-width : goal.returns-clause-width
returns-clause-width c = λ all n h e text shown low.
    let range = c.range_seen-range.ensures n text.range shown in
    let widths = c.deref.ensures.value ∙ c.in_ok-widths.ensures n text.dims range shown in
    let assigned = c.assigned_number-assigned.ensures all n h ∙ ap (λ q. when (is_assigned n q) (number_at n q)) (c.width_prop.ensures ∙ ap width_prop (sym e)) in
    let whole : c.first_width.result ≡ width_of n = c.first_width.ensures ∙ (λ i. first_or (widths i ++ assigned i) 1) in
    c.narrow.ensures.same (subst (λ k. k ≤ 64) (sym whole) low) ∙ whole
