use Rattle.std.proofs.Common.{◌∙◌, sym, ap}
use Rattle.rdl_values.specs.Faults.{when}
use Rattle.rdl_layers.specs.Phase4.{number_at, width_prop}
use Rattle.rdl_layers.specs.Settings.{is_assigned}
use Rattle.rdl_merge.proofs.Noted.{unit_noted}
use Rattle.rdl_merge.proofs.units.judge_unit.Goals as goal

pub returns : goal.returns
returns c = λ all n h e unit p text shown.
    let range = c.range_seen-range.ensures n text.range shown in
    let widths = c.deref.ensures.value ∙ c.in_ok-widths.ensures n text.dims range shown in
    let assigned = c.assigned_number-assigned.ensures all n h ∙ ap (λ q. when (is_assigned n q) (number_at n q)) (c.width_prop.ensures ∙ ap width_prop (sym e)) in
    unit_noted n c.args.kind c.args.place c.deref.result.now _ _ c.is_bad_width.result _ c.args.failures.now c.note.new.self e unit p widths range assigned c.is_bad_width.ensures c.in_ok-note.ensures
