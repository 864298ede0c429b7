use Rattle.std.proofs.Common.{◌≡◌, option_copied, sym, subst}
use Rattle.rdl_verdict.specs.Answers.{IsJudged}
use Rattle.rdl_verdict.specs.declared.judging.Judged.{Judged}
use Rattle.rdl_verdict.proofs.Later.{judged-own, passed-on, refused-own}
use Rattle.rdl_verdict.proofs.judging.judge.Goals as goal

pub returns-in_err-elab : goal.returns-in_err-elab
returns-in_err-elab c = passed-on _ _ _ _ c.from_residual.ensures.1 c.in_err-elab.ensures.error

pub returns-in_err-judged : goal.returns-in_err-judged
returns-in_err-judged c =
    let e = c.in_ok-elab.elab in
    let g = c.in_ok-elab.ensures.grown in
    passed-on _ _ _ _ c.from_residual-in_err-judged.ensures.1 (refused-own _ c.args.text.now e g.reads g.tree g.top _ c.in_err-judged.ensures.error)

pub returns : goal.returns
returns c =
    let e = c.in_ok-elab.elab in
    let g = c.in_ok-elab.ensures.grown in
    let j = c.in_ok-judged.judged in
    let is = c.in_ok-judged.ensures in
    let same : record j { elab = e } ≡ j = λ i. record j { elab = sym is.tree i } in
    subst (λ (x : Judged). IsJudged (option_copied c.args.top) c.args.text.now x) same (judged-own _ c.args.text.now e j.settled j.block is.props is.encodings g.reads g.tree g.top g.clean is.clear)
