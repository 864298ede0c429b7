use Rattle.rdl_meaning_rules.specs.Collected.{of_fields, of_resets}
use Rattle.rdl_meaning_rules.proofs.Put.{more}
use Rattle.rdl_meaning_rules.proofs.list.judge_settings.Goals as goal

pub judge_all_references-requires-clause-known : goal.judge_all_references-requires-clause-known
judge_all_references-requires-clause-known c = record { clean = c.requires.clean; rows_ = c.requires.rows; facts_ = c.requires.facts; marks_ = c.requires.marks }

pub returns : goal.returns
returns c =
    let e = c.args.props.now in
    more (of_fields e) (of_resets e) c.args.failures.now c.judge_all_references.new.failures c.judge_all_resets.new.failures c.in_ok-judge_all_references.ensures c.in_ok-judge_all_resets.ensures
