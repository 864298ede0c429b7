use Rattle.std.proofs.Common.{◌∙◌, ◌∷◌, ◌++◌, sym, ap}
use Rattle.rdl_tree.specs.declared.node.Node.{out-Node}
use Rattle.rdl_values.specs.Elaborated.{nodes_of}
use Rattle.rdl_values.specs.Instances.{Instance, children}
use Rattle.rdl_values.specs.Lineages.{lineages_of}
use Rattle.rdl_failures.specs.Noted.{with_all}
use Rattle.rdl_failures.proofs.Sets.{with_all-append}
use Rattle.rdl_rules.specs.ReferenceRules.{second_reset, wide_reset}
use Rattle.rdl_sizes.proofs.Facts.{node-at}
use Rattle.rdl_meaning_rules.proofs.Walk.{all-nodes, inside-said, known, one-more, said-below, said-by}
use Rattle.rdl_meaning_rules.proofs.resets.judge_all_resets.Goals as goal

pub judge_wide_resets-requires-clause-node : goal.judge_wide_resets-requires-clause-node
judge_wide_resets-requires-clause-node c =
    let k = known c.args.props.now c.args.rows.now c.requires.rows c.loop-at.at c.index-rows-at.result c.loop-at-test.true c.index-rows-at.is in
    (k.of.node, said-by c.args.props.now c.loop-at.at c.index-rows-at.result k)

pub judge_second_resets-requires : goal.judge_second_resets-requires
judge_second_resets-requires c =
    let e = c.args.props.now in
    let k = known e c.args.rows.now c.requires.rows c.loop-at.at c.index-rows-at.result c.loop-at-test.true c.index-rows-at.is in
    let rs = (out-Node c.index-rows-at.result.node.now).children.now in
    said-below e c.requires.clean rs (children k.of.node) (inside-said e (k.of.node ∷ k.of.ancestors) rs rs (children k.of.node) k.row.inside)

pub loop-at-preserved : goal.loop-at-preserved
loop-at-preserved c =
    let e = c.args.props.now in
    let k = known e c.args.rows.now c.requires.rows c.loop-at.at c.index-rows-at.result c.loop-at-test.true c.index-rows-at.is in
    let n = k.of.node in
    let rs = (out-Node c.index-rows-at.result.node.now).children.now in
    let wide = c.in_ok-judge_wide_resets.ensures n (said-by e c.loop-at.at c.index-rows-at.result k) in
    let second = c.in_ok-judge_second_resets.ensures (children n) (inside-said e (n ∷ k.of.ancestors) rs rs (children n) k.row.inside) in
    one-more (λ (m : Instance). wide_reset (lineages_of e) m ++ second_reset (children m)) (nodes_of e) c.loop-at.at n c.args.failures.now c.loop-at.failures c.judge_second_resets.new.failures (node-at e c.loop-at.at k.of k.here) c.loop-at.invariant
    (second ∙ (ap (with_all (second_reset (children n))) wide ∙ sym (with_all-append (wide_reset (lineages_of e) n) (second_reset (children n)) c.loop-at.failures)))

pub returns : goal.returns
returns c =
    let e = c.args.props.now in
    all-nodes e c.args.rows.now c.requires.rows (λ (m : Instance). wide_reset (lineages_of e) m ++ second_reset (children m)) c.loop-at.at c.loop-at-test.false c.args.failures.now c.loop-at.failures c.loop-at.invariant
