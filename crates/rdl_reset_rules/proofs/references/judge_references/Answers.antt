use Rattle.rdl_props.specs.Table as table
use Rattle.rdl_values.specs.Lineages.{lineages_of}
use Rattle.rdl_rules.specs.ReferenceRules.{bad_target}
use Rattle.rdl_reset_rules.proofs.Turns.{one-more-of, within-list}
use Rattle.rdl_reset_rules.proofs.references.judge_references.Goals as goal

pub loop-prop-preserved : goal.loop-prop-preserved
loop-prop-preserved c = λ n at.
    one-more-of (bad_target (lineages_of c.args.props.now) n) c.reference_props-list.result table.reference_props c.reference_props-list.ensures c.loop-prop.prop-index _ c.args.failures.now c.loop-prop.failures c.judge_prop.new.failures (within-list c.loop-prop.prop-index c.loop-prop-test.true) (c.loop-prop.invariant n at) (c.in_ok-judge_prop.ensures n at)
