use Rattle.rdl_verdict.proofs.Later.{late-on, late6}
use Rattle.rdl_verdict.proofs.judging.describe.Goals as goal

pub returns-in_err-block-clause-error : goal.returns-in_err-block-clause-error
returns-in_err-block-clause-error c =
    late-on c.args.elab _ _ c.from_residual-in_err-block.ensures.1 (late6 c.args.elab _ c.in_ok-settled.ensures.settled c.in_ok-map.ensures.placed c.in_ok-refs.ensures.bound c.in_err-block.ensures.error)
