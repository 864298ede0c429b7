use Rattle.std.proofs.Common.{◌∙◌, ap, sym}
use Rattle.rdl_values.specs.Lineages.{lineages_of}
use Rattle.rdl_failures.specs.Noted.{with_all}
use Rattle.rdl_failures.proofs.Sets.{with_all-append}
use Rattle.rdl_reset_rules.specs.Said.{wide_named, wide_own}
use Rattle.rdl_reset_rules.proofs.Items.{number-below}
use Rattle.rdl_reset_rules.proofs.wide.judge_wide_resets.Goals as goal

pub judge_own-requires-clause-number : goal.judge_own-requires-clause-number
judge_own-requires-clause-number c = number-below c.args.props.now c.requires.clean _ c.requires.node.0 c.requires.node.1.here

pub judge_named-requires-clause-node : goal.judge_named-requires-clause-node
judge_named-requires-clause-node c = (c.requires.node.0, c.requires.node.1.here)

pub returns : goal.returns
returns c = λ n said.
    c.in_ok-judge_named.ensures n said.here
    ∙ (ap (with_all (wide_named (lineages_of c.args.props.now) n)) (c.in_ok-judge_own.ensures n said) ∙ sym (with_all-append (wide_own n) (wide_named (lineages_of c.args.props.now) n) c.args.failures.now))
