use Rattle.std.proofs.Common.{◌≡◌, ◌∙◌, Some, true, filter, is_none, map, sym, ap, arith}
use Rattle.std.proofs.lemmas.List.{take_all}
use Rattle.rdl_tree.specs.declared.item.Kind.TheVariants as kinds
use Rattle.rdl_tree.specs.declared.node.Node.{out-Node}
use Rattle.rdl_tree.specs.Kinds.{same_kind}
use Rattle.rdl_values.specs.Elaborated.{nodes_of}
use Rattle.rdl_values.specs.Instances.{kind_of}
use Rattle.rdl_values.specs.Uses.{path_text}
use Rattle.rdl_layers.specs.Fields.{is_a}
use Rattle.rdl_sizes.proofs.Facts.{count-is, node-at, nodes-many, row-at, rows-many}
use Rattle.rdl_sizes.proofs.Turns.{read-at}
use Rattle.rdl_rules.specs.Block.{signal_of}
use Rattle.rdl_block_lists.proofs.Rooted.{one-signal, rooted, unit-signal}
use Rattle.rdl_block_lists.proofs.signal_list.signals.Goals as goal

pub bounds-facts-at : goal.bounds-facts-at
bounds-facts-at c = let many = rows-many c.args.elab.now c.args.rows.now c.requires.rows in let count = count-is c.args.elab.now c.requires.clean in omega (arith, many, count, c.requires.facts.all_nodes, c.loop-at-test.true)

pub text-text-requires : goal.text-text-requires
text-text-requires c = let many = rows-many c.args.elab.now c.args.rows.now c.requires.rows in let count = count-is c.args.elab.now c.requires.clean in omega (arith, many, count, c.requires.texts.many, c.loop-at-test.true)

pub narrow-width-requires : goal.narrow-width-requires
narrow-width-requires c =
    let many = rows-many c.args.elab.now c.args.rows.now c.requires.rows in
    let count = count-is c.args.elab.now c.requires.clean in
    c.requires.facts.narrow c.loop-at.at _ (omega (arith, many, count, c.requires.facts.all_nodes, c.loop-at-test.true))

pub loop-at-preserved : goal.loop-at-preserved
loop-at-preserved c =
    let e = c.args.elab.now in
    let at = c.loop-at.at in
    let x = c.index-rows-at.result in
    let r = row-at e c.args.rows.now c.requires.rows at x (read-at c.args.rows.now at x c.loop-at-test.true c.index-rows-at.is) in
    let n = r.0.node in
    let here = node-at e at r.0 r.1 in
    let many = rows-many e c.args.rows.now c.requires.rows in
    let count = count-is e c.requires.clean in
    let is = ap (same_kind kinds.Signal) r.2.says.kind in
    let read : Some c.text-text.result.now ≡ Some (path_text n.path) = sym c.text-text.ensures ∙ c.requires.texts.each at n (omega (arith, many, count, c.loop-at-test.true)) here in
    let text : c.text-text.result.now ≡ path_text n.path = cc read in
    one-signal (nodes_of e) at n here (same_kind kinds.Signal (out-Node x.node.now).kind) is (record { path = c.text-text.result.now; width = c.narrow-width.result; root = is_none x.parent })
    (λ t. let signal : same_kind kinds.Signal (kind_of n) ≡ true = sym is ∙ t in
    let width = c.narrow-width.ensures ∙ (c.requires.facts.of_each at n here (unit-signal (kind_of n) signal)).width_ in
    let root = rooted e at r.0 r.1 signal x.parent r.2.parent in
    (λ i. record { path = text i; width = width i; root = root i }))
    c.loop-at.items.items c.add_signal.new.list.items c.loop-at.invariant c.in_ok-add_signal.ensures

pub returns : goal.returns
returns c =
    let e = c.args.elab.now in
    let many = rows-many e c.args.rows.now c.requires.rows in
    let all = nodes-many e in
    c.loop-at.invariant ∙ ap (λ ns. map signal_of (filter (is_a kinds.Signal) ns)) (take_all c.loop-at.at (nodes_of e) (omega (arith, many, all, c.loop-at-test.false)))
