use Rattle.std.proofs.Common.{◌∙◌, ◌&&◌, Bool, true, false, ◌≡◌, refl, sym, ap}
use Rattle.rdl_members.specs.Covered.{covers}
use Rattle.rdl_members.proofs.over_views.over_if.Goals as goal

and-true : (b : Bool) → (b && true) ≡ b
and-true true = refl
and-true false = refl

pub returns-clause-covered : goal.returns-clause-covered
returns-clause-covered c = λ e i k g l r clean are members at row kept.
    c.over.ensures.covered e i k g l r clean are members at row kept ∙ sym (ap (λ b. covers r l.node g && b) c.if-not-has.false ∙ and-true (covers r l.node g))
