use Rattle.std.proofs.Common.{◌∙◌, [], cond, flat_map, ap}
use Rattle.rdl_tree.specs.declared.item.Kind.TheVariants as kinds
use Rattle.rdl_props.specs.Table.{reference_props}
use Rattle.rdl_values.specs.Elaborated.{nodes_of}
use Rattle.rdl_values.specs.Instances.{Instance}
use Rattle.rdl_values.specs.Lineages.{lineages_of}
use Rattle.rdl_failures.specs.Noted.{with_all}
use Rattle.rdl_layers.specs.Fields.{is_a}
use Rattle.rdl_rules.specs.ReferenceRules.{bad_target}
use Rattle.rdl_sizes.proofs.Facts.{node-at}
use Rattle.rdl_meaning_rules.proofs.Walk.{all-nodes, known, one-more, said-by, those-alone}
use Rattle.rdl_meaning_rules.proofs.references.judge_all_references.Goals as goal

pub judge_one-requires-clause-node : goal.judge_one-requires-clause-node
judge_one-requires-clause-node c =
    let k = known c.args.props.now c.args.rows.now c.requires.known.rows_ c.loop-at.at c.index-rows-at.result c.loop-at-test.true c.index-rows-at.is in
    (k.of.node, said-by c.args.props.now c.loop-at.at c.index-rows-at.result k)

pub loop-at-preserved : goal.loop-at-preserved
loop-at-preserved c =
    let e = c.args.props.now in
    let k = known e c.args.rows.now c.requires.known.rows_ c.loop-at.at c.index-rows-at.result c.loop-at-test.true c.index-rows-at.is in
    one-more (λ (n : Instance). cond (is_a kinds.Field n) (flat_map (bad_target (lineages_of e) n) reference_props) []) (nodes_of e) c.loop-at.at k.of.node c.args.failures.now c.loop-at.failures c.judge_one.new.failures (node-at e c.loop-at.at k.of k.here) c.loop-at.invariant
    (c.in_ok-judge_one.ensures k.of.node (said-by e c.loop-at.at c.index-rows-at.result k))

pub returns : goal.returns
returns c =
    let e = c.args.props.now in
    all-nodes e c.args.rows.now c.requires.known.rows_ (λ (n : Instance). cond (is_a kinds.Field n) (flat_map (bad_target (lineages_of e) n) reference_props) []) c.loop-at.at c.loop-at-test.false c.args.failures.now c.loop-at.failures c.loop-at.invariant
    ∙ ap (λ fs. with_all fs c.args.failures.now) (those-alone (is_a kinds.Field) (λ n. flat_map (bad_target (lineages_of e) n) reference_props) (nodes_of e))
