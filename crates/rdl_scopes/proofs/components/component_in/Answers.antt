use Rattle.std.proofs.Common.{◌∙◌, sym, ap, cond, Some, None}
use Rattle.rdl_values.specs.Bodies.{is_component}
use Rattle.rdl_values.specs.Views.{item_is, item_is-Def}
use Rattle.rdl_scopes.proofs.components.component_in.Goals as goal

pub returns-in-Def : goal.returns-in-Def
returns-in-Def c = ap (λ i. is_component c.args.name.now (item_is i)) c.in-Def.is ∙ ap (is_component c.args.name.now) (item_is-Def c.in-Def.def) ∙ ap (λ b. cond b (Some c.in-Def.def) None) (sym c.is_named.ensures ∙ c.if-is_named.true)
