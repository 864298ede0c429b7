use Rattle.std.proofs.Common.{◌∙◌, subst, sym}
use Rattle.rdl_values.specs.Bodies.{around}
use Rattle.rdl_values.specs.Chained.{chained}
use Rattle.rdl_values.specs.Elaborated.{nodes_of}
use Rattle.rdl_failures.specs.Shown.{IsAlike}
use Rattle.rdl_open_settings.proofs.Own.{of_text, use_sees}
use Rattle.rdl_open_settings.proofs.node.judge_unit_of.Goals as goal

pub returns : goal.returns
returns c = λ e n kinds node entries.
    let x = c.in-Some-body.body in
    let sees = use_sees e c.args.tree.now c.args.node.now c.args.spot.now n node x (sym c.body.ensures ∙ c.in-Some-body.is) in
    let shown = subst (λ ts. IsAlike (chained ts x.numbers.now) (around n.use_.scope)) (sym c.tables.ensures) sees in
    c.in_ok-judge_unit.ensures (nodes_of e) n entries (sym node.says.kind) kinds (sym node.says.place) (of_text e c.args.tree.now c.args.node.now c.args.spot.now n node c.in-Some.inst c.in-Some.is) shown
