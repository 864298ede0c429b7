use Rattle.rdl_parser.proofs.OneVerdict.{one_error, accepted_has_none}
use Rattle.rdl_parser.proofs.laws.one_verdict.Goals as goal

pub returns-clause-error : goal.returns-clause-error
returns-clause-error c = one_error

pub returns-clause-none : goal.returns-clause-none
returns-clause-none c = accepted_has_none
