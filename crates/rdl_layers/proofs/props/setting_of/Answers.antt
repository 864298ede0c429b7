use Rattle.std.proofs.Common.{◌≡◌, ◌∙◌, ap, sym}
use Rattle.rdl_props.specs.declared.prop.Prop.TheVariants as prop
use Rattle.rdl_layers.specs.Tables.{decided_in, default_in, setting_in}
use Rattle.rdl_layers.proofs.Entries.{other_property}
use Rattle.rdl_layers.proofs.props.setting_of.Goals as goal

pub returns-in_default : goal.returns-in_default
returns-in_default c = c.decided-in_default.ensures ∙ ap (λ d. decided_in c.args.prop d c.args.entries.now) c.default_of-in_default.ensures ∙ other_property c.args.prop c.args.entries.now c.in_default.not-Accesswidth

pub returns-in-Accesswidth : goal.returns-in-Accesswidth
returns-in-Accesswidth c =
    let es = c.args.entries.now in
    let width = c.decided-width.ensures ∙ ap (λ d. decided_in prop.Regwidth d es) c.default_of.ensures in
    c.decided.ensures ∙ ap (λ d. decided_in c.args.prop d es) width ∙ ap (λ q. decided_in q (decided_in prop.Regwidth (default_in prop.Regwidth) es) es) c.in-Accesswidth.is ∙ ap (λ q. setting_in q es) (sym c.in-Accesswidth.is)
