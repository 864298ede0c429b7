use Rattle.std.proofs.Common.{◌∙◌, sym, ap}
use Rattle.std.specs.List.{list_any}
use Rattle.rdl_props.specs.Same.{same_prop}
use Rattle.rdl_dynamic.proofs.Marking.{again}
use Rattle.rdl_dynamic.proofs.marks.with_prop.Goals as goal

pub returns-then-is_among : goal.returns-then-is_among
returns-then-is_among c = again c.args.prop c.args.props.items (ap (list_any (same_prop c.args.prop)) (sym c.deref.ensures.value) ∙ sym c.is_among.ensures ∙ c.if-is_among.true)
