use Rattle.rdl_field_rules.proofs.Noted.{once_noted}
use Rattle.rdl_field_rules.proofs.views.judge_once.Goals as goal

pub returns : goal.returns
returns c = λ f v at_f at_v p. once_noted f v c.args.place p (c.lacks_reset.ensures f v at_f at_v) c.in_ok-note.ensures
