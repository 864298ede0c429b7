use Rattle.std.proofs.Common.{◌≡◌, ◌∙◌, ◌∷◌, length, Some, sym, subst, arith}
use Rattle.rdl_tree.specs.declared.node.Node.{out-Node}
use Rattle.rdl_values.specs.Elaborated.{nodes_of}
use Rattle.rdl_values.specs.Instances.{children}
use Rattle.rdl_sizes.proofs.Facts.{node-at, nodes-many, row-at, rows-many}
use Rattle.rdl_sizes.proofs.Turns.{read-at}
use Rattle.rdl_ref_items.specs.InterruptOutputs.{AreMarksTo, IsInterruptOutputs}
use Rattle.rdl_ref_items.proofs.Bodies.{all-below}
use Rattle.rdl_ref_items.proofs.Marked.{one-mark}
use Rattle.rdl_ref_items.proofs.interrupt_outputs.marks.Goals as goal

pub mark_of-requires : goal.mark_of-requires
mark_of-requires c = λ k d low.
    let e = c.args.props.now in
    let r = row-at e c.args.rows.now c.requires.rows c.loop-at.at c.index-rows-at.result (read-at c.args.rows.now c.loop-at.at c.index-rows-at.result c.loop-at-test.true c.index-rows-at.is) in
    all-below e c.requires.clean (r.0.node ∷ r.0.ancestors) (out-Node c.index-rows-at.result.node.now).children.now (children r.0.node) r.2.inside k d low

pub loop-at-preserved : goal.loop-at-preserved
loop-at-preserved c =
    let e = c.args.props.now in
    let r = row-at e c.args.rows.now c.requires.rows c.loop-at.at c.index-rows-at.result (read-at c.args.rows.now c.loop-at.at c.index-rows-at.result c.loop-at-test.true c.index-rows-at.is) in
    one-mark e c.loop-at.marks.items c.push.new.self.items c.loop-at.at c.mark_of.result c.loop-at.invariant c.in_ok-push.ensures.items
    (λ n at. let p : Some r.0.node ≡ Some n = sym (node-at e c.loop-at.at r.0 r.1) ∙ at in let same : r.0.node ≡ n = cc p in subst (IsInterruptOutputs c.mark_of.result) same (c.mark_of.ensures r.0.node (r.0.node ∷ r.0.ancestors) r.2.inside))

pub returns : goal.returns
returns c =
    let e = c.args.props.now in
    let rows = rows-many e c.args.rows.now c.requires.rows in
    let many = nodes-many e in
    let whole : c.loop-at.at ≡ length (nodes_of e) = (let end = c.loop-at.auto.at-end in omega (arith, rows, many, end, c.loop-at-test.false)) in
    subst (AreMarksTo e c.loop-at.marks.items) whole c.loop-at.invariant
