use Rattle.std.proofs.Common.{◌∙◌, ap, sym}
use Rattle.rdl_values.specs.Bodies.{around}
use Rattle.rdl_values.specs.Faults.{failures}
use Rattle.rdl_values.specs.Values.{bare_name}
use Rattle.rdl_layers.specs.Meanings.{from_path}
use Rattle.rdl_assignments.proofs.NamedAlike.{none_alike, same_enums}
use Rattle.rdl_assignments.proofs.SteadySets.{enum_name_alike, named_alike, path_alike}
use Rattle.rdl_assignments.proofs.steady.is_taken_alike.Goals as goal

pub returns-in-EnumName : goal.returns-in-EnumName
returns-in-EnumName c = λ q v shown path item is place u w a b.
    ap (λ f. failures (from_path f u place path item)) c.in-EnumName.is
    ∙ enum_name_alike u w place path item (named_alike u w place (same_enums c.args.text.now.same_enums v (around u) (around w) q a b))
    ∙ ap (λ f. failures (from_path f w place path item)) (sym c.in-EnumName.is)

pub returns-in_default : goal.returns-in_default
returns-in_default c = λ q v shown path item is place u w a b.
    let none = c.is_no_parameter.ensures q v shown path item is in
    path_alike c.args.form c.in_default.not-Side c.in_default.not-EnumName u w place path item (none_alike v (around u) (bare_name path item) a.parameters none) (none_alike v (around w) (bare_name path item) b.parameters none)
