use Rattle.std.proofs.Common.{◌≡◌, ◌∙◌, ◌++◌, Some, sym, subst, ap}
use Rattle.rdl_values.specs.Elaborated.{top_name}
use Rattle.rdl_nodes.specs.Rows.{AreRows}
use Rattle.rdl_nodes.proofs.Tied.{whole}
use Rattle.rdl_nodes.proofs.table.rows.Goals as goal

pub returns : goal.returns
returns c =
    let ours = c.in_ok-add_roots.ensures in
    let others = c.in_ok-add_node.ensures in
    let all = whole (Some (top_name c.args.elab.now)) c.args.elab.now ours.0 others.0 c.requires.elaborated.tree ours.1 others.1 in
    let is : c.add_node.new.rows.items ≡ ours.0 ++ others.0 = others.2 ∙ ap (λ o. o ++ others.0) (ours.2 ∙ ap (λ o. o ++ ours.0) c.new-rows.ensures.items) in
    subst (AreRows c.args.elab.now) (sym is) all
