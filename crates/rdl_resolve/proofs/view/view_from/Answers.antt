use Rattle.std.proofs.Common.{refl, subst}
use Rattle.rdl_values.specs.Elaborated.{nodes_of}
use Rattle.rdl_failures.specs.Shown.{IsShown}
use Rattle.rdl_layers.specs.NodeNames.{around_at}
use Rattle.rdl_nodes.proofs.Members.{in-from}
use Rattle.rdl_resolve.proofs.Viewed.{of-setting, seen-from}
use Rattle.rdl_resolve.proofs.view.view_from.Goals as goal

pub returns-clause-seen : goal.returns-clause-seen
returns-clause-seen c = λ n p path item scope place among is number.
    let e = c.args.elab.now in
    let here = in-from (nodes_of e) n among in
    seen-from e _ c.args.body c.args.outers.now c.requires.outers n scope here (of-setting e n p path item scope place c.settings_in_bodies.ensures here is) number refl refl refl c.in_ok-env.ensures.visible (subst (λ m. IsShown c.visible_in.result (around_at m c.args.body)) c.requires.tree c.visible_in.ensures)
