use Rattle.rdl_field_rules.proofs.Turns.{fact-below, id-below}
use Rattle.rdl_field_rules.proofs.fields.judge_one_view.Goals as goal

pub bounds-facts-node : goal.bounds-facts-node
bounds-facts-node c = fact-below c.args.props.now c.requires.clean c.args.facts.now c.requires.facts c.args.view.now c.requires.view.0 c.requires.view.1

pub judge_view-requires-clause-number : goal.judge_view-requires-clause-number
judge_view-requires-clause-number c = id-below c.args.props.now c.requires.clean c.args.view.now c.requires.view.0 c.requires.view.1
