use Rattle.std.proofs.Common.{◌∷◌, subst, sym}
use Rattle.rdl_values.specs.Bodies.{around}
use Rattle.rdl_values.specs.Chained.{chained}
use Rattle.rdl_failures.specs.Shown.{IsAlike}
use Rattle.rdl_open_bodies.proofs.Staying.{open_alike}
use Rattle.rdl_open_settings.proofs.live.visible_in.Goals as goal

pub returns : goal.returns
returns c = λ b h. subst (λ ts. IsAlike (chained ts c.args.body.now.numbers.now) (b.names ∷ around b.outer)) (sym c.tables.ensures) (open_alike c.args.bodies.now c.args.body.now b h)
