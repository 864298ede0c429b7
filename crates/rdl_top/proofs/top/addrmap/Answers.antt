use Rattle.std.proofs.Common.{◌∙◌, sym, ap, cond, Some, None}
use Rattle.rdl_values.specs.Bodies.{component_of}
use Rattle.rdl_values.specs.Views.{item_is, item_is-Def}
use Rattle.rdl_top.specs.Topped.{named_def, with_name}
use Rattle.rdl_top.proofs.top.addrmap.Goals as goal

pub returns-in-Some : goal.returns-in-Some
returns-in-Some c =
    ap (λ i. named_def (component_of i)) (ap item_is c.in-Def.is ∙ item_is-Def c.in-Def.def) ∙ ap (with_name c.in-Def.def) c.in-Some.is ∙ ap (λ b. cond b (Some (c.in-Def.def, c.in-Some.name)) None) (sym c.is_addrmap.ensures ∙ c.if-is_addrmap.true)
