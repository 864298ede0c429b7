use Rattle.std.proofs.Common.{option_copied}
use Rattle.rdl_verdict.proofs.Later.{decided-on, faultless-own, refused-own}
use Rattle.rdl_verdict.proofs.deciding.verdict.Goals as goal

pub returns-in_err-elab : goal.returns-in_err-elab
returns-in_err-elab c = decided-on _ _ _ _ c.from_residual.ensures.1 c.in_err-elab.ensures.error

pub returns-in_err-pass_later : goal.returns-in_err-pass_later
returns-in_err-pass_later c =
    let e = c.in_ok-elab.elab in
    let g = c.in_ok-elab.ensures.grown in
    decided-on _ _ _ _ c.from_residual-in_err-pass_later.ensures.1 (refused-own _ c.args.text.now e g.reads g.tree g.top _ c.in_err-pass_later.ensures.error)

pub returns : goal.returns
returns c = faultless-own (option_copied c.args.top) c.args.text.now c.in_ok-elab.elab c.in_ok-elab.ensures.grown c.in_ok-pass_later.ensures.none
