use Rattle.std.proofs.Common.{◌∙◌, arith}
use Rattle.rdl_base.specs.declared.rule.Rule.TheVariants as rule
use Rattle.rdl_values.specs.Faults.{at_, when}
use Rattle.rdl_failures.specs.Noted.{with_all}
use Rattle.rdl_reset_rules.proofs.Said.{own-fails}
use Rattle.rdl_reset_rules.proofs.wide.judge_own.Goals as goal

pub bounds-facts-node : goal.bounds-facts-node
bounds-facts-node c = let low = c.requires.number in let all = c.requires.facts.all_nodes in omega (arith, low, all)

pub returns : goal.returns
returns c = λ n said.
    let fails = own-fails c.args.props.now c.args.facts.now c.requires.facts c.args.node.now n said c.is_field_reset-resets.result (c.is_field_reset-resets.ensures n said) in
    c.in_ok-note.ensures.put ∙ (λ j. with_all (when (fails j) (at_ rule.R6 (said.place_ j))) c.args.failures.now)
