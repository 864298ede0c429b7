use Rattle.std.proofs.Common.{◌≡◌, ◌∙◌, Some, slice_get, subst, sym}
use Rattle.rdl_scopes.specs.Scopes.{items_at}
use Rattle.rdl_scopes.proofs.scopes.known_defaults.Goals as goal

pub returns-in-Some : goal.returns-in-Some
returns-in-Some c = λ s.
    let both : Some s.number ≡ Some c.in-Some.number = sym s.body ∙ sym c.number_at.ensures ∙ c.in-Some.is in
    let same : s.number ≡ c.in-Some.number = cc in
    c.defaults_in.ensures s.item (subst (λ k. slice_get (items_at c.args.components.now k) c.args.found.now.position ≡ Some s.item) same s.there) s.is

pub returns-in-None : goal.returns-in-None
returns-in-None c = λ s. tt
