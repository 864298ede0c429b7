use Rattle.std.proofs.Common.{arith, ◌∙◌}
use Rattle.v_design.specs.WellFormed.{names}
use Rattle.v_syntax.specs.Tokens.{placed}
use Rattle.v_check.specs.Nets.{IsUndeclared, nets_seen, token_places}
use Rattle.v_check.proofs.Finding.{finds_next, finds_all, token-place, token-within, undeclared-late, undeclared-early}
use Rattle.v_check.proofs.undeclared.undeclared.Goals as goal
use Rattle.v_check.proofs.undeclared.undeclared.Goals.{then-index-before, else-index-before}

pub loop-index-preserved : goal.loop-index-preserved
loop-index-preserved c = λ ns h.
    let wrong = c.if-index-before.wrong in
    let declared = names (nets_seen ns) in
    finds_next (IsUndeclared declared c.args.before (placed c.args.bytes.now c.args.tokens.now)) (token_places (placed c.args.bytes.now c.args.tokens.now)) c.loop-index.found c.note-found.result wrong _ c.loop-index.index
    c.note-found.ensures (token-place c.args.bytes.now c.args.tokens.now c.loop-index.index _ c.loop-index-test.true)
    (elim c.if-index-before.branch [
      | then-index-before w ↦ undeclared-late c.args.bytes.now declared c.args.before c.args.tokens.now c.loop-index.index _ wrong c.loop-index-test.true w.if-index-before.true (w.wrong-is ∙ w.is_unknown-wrong.ensures ns h)
      | else-index-before w ↦ undeclared-early c.args.bytes.now declared c.args.before c.args.tokens.now c.loop-index.index wrong w.if-index-before.false w.wrong-is
    ])
    (c.loop-index.invariant ns h)

pub returns : goal.returns
returns c = λ ns h.
    finds_all (IsUndeclared (names (nets_seen ns)) c.args.before (placed c.args.bytes.now c.args.tokens.now)) (token_places (placed c.args.bytes.now c.args.tokens.now)) c.loop-index.found c.loop-index.index
    (λ i q. let l = token-within c.args.bytes.now c.args.tokens.now i q.0 q.2 in omega (arith, l)) (c.loop-index.invariant ns h)
