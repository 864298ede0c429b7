use Rattle.std.proofs.Common.{◌∙◌, ◌∷◌, [], sym, ap, None, Some, take}
use Rattle.rdl_base.specs.declared.rule.Rule.TheVariants as rules
use Rattle.rdl_values.specs.Bodies.{around}
use Rattle.rdl_values.specs.Parameters.{given}
use Rattle.rdl_values.specs.Values.{Around, fails}
use Rattle.rdl_values.specs.Overlaid.{overlaid}
use Rattle.rdl_uses.proofs.BoundValues.{value-free}
use Rattle.rdl_uses.proofs.binding.value_behind.Goals as goal

pub returns-in-Some : goal.returns-in-Some
returns-in-Some c = λ u k xs j t site h free.
    let p = c.args.param.now in
    c.typed.ensures (around u.scope) site.outside ∙ value-free u k.scope (overlaid (take j xs) t) p (Some c.in-Some.value) free (sym c.in-Some.is ∙ c.value.ensures k.def.params.now u.args site.arguments)

pub returns-in_ok-reads-in-Some-default : goal.returns-in_ok-reads-in-Some-default
returns-in_ok-reads-in-Some-default c = λ u k xs j t site h free.
    let p = c.args.param.now in
    let bound = overlaid (take j xs) t in
    let inside : Around = record { bound = bound; enums = [] } ∷ around k.scope in
    c.default_typed.ensures (around k.scope) site.inside ∙ c.in_ok-reads-in-Some-default.ensures xs j t h (around k.scope) p
    ∙ ap (given (around u.scope) inside u.type_place p None) (sym c.in-Some-default.is) ∙ value-free u k.scope bound p None free (sym c.in_default.is ∙ c.value.ensures k.def.params.now u.args site.arguments)

pub returns-in-None : goal.returns-in-None
returns-in-None c = λ u k xs j t site h free.
    let p = c.args.param.now in
    let bound = overlaid (take j xs) t in
    let inside : Around = record { bound = bound; enums = [] } ∷ around k.scope in
    ap (fails rules.E6) site.place ∙ ap (given (around u.scope) inside u.type_place p None) (sym c.in-None.is) ∙ value-free u k.scope bound p None free (sym c.in_default.is ∙ c.value.ensures k.def.params.now u.args site.arguments)
