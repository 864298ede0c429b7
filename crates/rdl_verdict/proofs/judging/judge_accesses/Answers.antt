use Rattle.rdl_verdict.proofs.Same.{phase7}
use Rattle.rdl_verdict.proofs.judging.judge_accesses.Goals as goal

pub access_failures-requires-clause-clean : goal.access_failures-requires-clause-clean
access_failures-requires-clause-clean c = c.requires.1.1.clean

pub access_failures-requires-clause-props : goal.access_failures-requires-clause-props
access_failures-requires-clause-props c = c.requires.1.1.props

pub returns : goal.returns
returns c = λ wanted text is.
    let e = c.args.judged.now.elab in
    phase7 wanted _ e.source.now (c.name_decides_the_top.ensures.top wanted e.source.now e is.tree) c.in_ok-list.list.items c.in_ok-list.ensures
