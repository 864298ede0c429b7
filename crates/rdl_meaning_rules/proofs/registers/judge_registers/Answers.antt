use Rattle.std.proofs.Common.{◌∙◌, ◌<◌, [], cond, length, sym, ap, subst}
use Rattle.rdl_tree.specs.declared.item.Kind.TheVariants as kinds
use Rattle.rdl_values.specs.Elaborated.{nodes_of}
use Rattle.rdl_values.specs.Instances.{Instance}
use Rattle.rdl_failures.specs.Noted.{with_all}
use Rattle.rdl_layers.specs.Fields.{is_a}
use Rattle.rdl_sizes.proofs.Facts.{node-at}
use Rattle.rdl_field_rules.specs.Judged.{register_failures}
use Rattle.rdl_meaning_rules.proofs.Walk.{all-nodes, known, one-more, said-by, those-alone}
use Rattle.rdl_meaning_rules.proofs.registers.judge_registers.Goals as goal

pub judge_one-requires-clause-within : goal.judge_one-requires-clause-within
judge_one-requires-clause-within c =
    let k = known c.args.props.now c.args.rows.now c.requires.rows c.loop-at.at c.index-rows-at.result c.loop-at-test.true c.index-rows-at.is in
    subst (λ j. j < length c.args.rows.now) (sym k.row.number) c.loop-at-test.true

pub loop-at-preserved : goal.loop-at-preserved
loop-at-preserved c =
    let e = c.args.props.now in
    let k = known e c.args.rows.now c.requires.rows c.loop-at.at c.index-rows-at.result c.loop-at-test.true c.index-rows-at.is in
    one-more (λ (n : Instance). cond (is_a kinds.Reg n) (register_failures (nodes_of e) n) []) (nodes_of e) c.loop-at.at k.of.node c.args.failures.now c.loop-at.failures c.judge_one.new.failures (node-at e c.loop-at.at k.of k.here) c.loop-at.invariant
    (c.in_ok-judge_one.ensures k.of.node (said-by e c.loop-at.at c.index-rows-at.result k).here)

pub returns : goal.returns
returns c =
    let e = c.args.props.now in
    all-nodes e c.args.rows.now c.requires.rows (λ (n : Instance). cond (is_a kinds.Reg n) (register_failures (nodes_of e) n) []) c.loop-at.at c.loop-at-test.false c.args.failures.now c.loop-at.failures c.loop-at.invariant
    ∙ ap (λ fs. with_all fs c.args.failures.now) (those-alone (is_a kinds.Reg) (register_failures (nodes_of e)) (nodes_of e))
