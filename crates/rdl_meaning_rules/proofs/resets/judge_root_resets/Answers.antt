use Rattle.std.proofs.Common.{◌<◌, sym, subst}
use Rattle.std.specs.List.{All}
use Rattle.rdl_tree.specs.declared.node.Elab.{Elab}
use Rattle.rdl_tree.specs.declared.node.Node.{out-Node}
use Rattle.rdl_values.specs.Instances.{signals}
use Rattle.rdl_fields.proofs.Beside.{roots-of}
use Rattle.rdl_reset_rules.specs.Said.{AreSaid}
use Rattle.rdl_meaning_rules.proofs.Walk.{beside-said, said-below}
use Rattle.rdl_meaning_rules.proofs.resets.judge_root_resets.Goals as goal

pub judge_second_resets-requires : goal.judge_second_resets-requires
judge_second_resets-requires c =
    let e = c.args.elab.now in
    let rs = e.signals.now in
    subst (λ (m : Elab). All (λ r. (out-Node r).id < m.count) rs) (sym c.requires.props) (said-below e c.requires.clean rs (signals e.source.now) (beside-said e rs rs (signals e.source.now) (roots-of e c.requires.clean.elaborated.tree)))

pub returns : goal.returns
returns c =
    let e = c.args.elab.now in
    let rs = e.signals.now in
    c.in_ok-judge_second_resets.ensures (signals e.source.now) (subst (λ (m : Elab). AreSaid m rs (signals e.source.now)) (sym c.requires.props) (beside-said e rs rs (signals e.source.now) (roots-of e c.requires.clean.elaborated.tree)))
