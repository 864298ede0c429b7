use Rattle.rdl_field_rules.proofs.Turns.{id-below}
use Rattle.rdl_field_rules.proofs.likes.judge_named.Goals as goal

pub judge_once-requires-clause-of_field : goal.judge_once-requires-clause-of_field
judge_once-requires-clause-of_field c = id-below c.args.props.now c.requires.clean c.args.other.now c.requires.other.0 c.requires.other.1

pub judge_once-requires-clause-of_view : goal.judge_once-requires-clause-of_view
judge_once-requires-clause-of_view c = id-below c.args.props.now c.requires.clean c.args.view.now c.requires.view.0 c.requires.view.1
