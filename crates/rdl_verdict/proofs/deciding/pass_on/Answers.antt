use Rattle.rdl_verdict.proofs.Later.{late-on, late6}
use Rattle.rdl_verdict.proofs.deciding.pass_on.Goals as goal

pub returns-in_err-pass-clause-error : goal.returns-in_err-pass-clause-error
returns-in_err-pass-clause-error c =
    late-on c.args.elab.now _ _ c.from_residual-in_err-pass.ensures.1 (late6 c.args.elab.now _ c.requires.settled c.in_ok-map.ensures.placed c.in_ok-refs.ensures.bound c.in_err-pass.ensures.error)
