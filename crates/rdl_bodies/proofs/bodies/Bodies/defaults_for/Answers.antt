use Rattle.std.proofs.Common.{◌∙◌, ap, refl, subst, sym, unwrap_or}
use Rattle.plain_lemmas.proofs.Results.{if_ok-map as if_ok}
use Rattle.rdl_scopes.specs.Scopes.{Stands}
use Rattle.rdl_scopes.specs.declared.scopes.Found.{Found}
use Rattle.rdl_bodies.proofs.Places.{stands_there}
use Rattle.rdl_bodies.proofs.bodies.Bodies.defaults_for.Goals as goal

pub returns : goal.returns
returns c =
    let of = c.args.of.now in
    let cs = c.args.self.now.components.items in
    let f : Found = record { level = 0; position = c.unwrap_or.result; def = of.def } in
    let at = ap (λ o. unwrap_or o 0) (sym c.first_of.ensures) ∙ sym c.unwrap_or.ensures in
    if_ok c.defaults_of.result _ _ (λ d h. h (subst (λ xs. Stands xs of.outer.now f) (sym c.deref.ensures.value) (stands_there cs of.outer.now of.uptos.now of.def.now f c.requires.defined refl at refl))) c.defaults_of.ensures
