use Rattle.std.proofs.Common.{sym, subst}
use Rattle.rdl_failures.specs.Shown.{IsAlike, IsShown}
use Rattle.rdl_layers.specs.NodeNames.{around_at}
use Rattle.rdl_layers.proofs.props.Props.visible_in.Goals as goal

pub returns : goal.returns
returns c =
    let shown = subst (λ these. IsAlike these (around_at c.self.inside.elab c.args.body)) (sym c.visible_in.ensures) (c.self.invariant.names_ c.args.body) in
    subst (λ e. IsShown c.visible_in.result (around_at e c.args.body)) c.self.view_is shown
