use Rattle.std.proofs.Common.{◌≡◌, ◌∙◌, None, is_some, ap, sym, arith}
use Rattle.plain_lemmas.proofs.Lists.{any-default}
use Rattle.topological_order.specs.Levels.{rank_at}
use Rattle.v_check.specs.Loops.{IsUnranked}
use Rattle.v_check.specs.Sizes.{stmt_places}
use Rattle.v_check.proofs.Finding.{finds_next, finds_all, stmt-place}
use Rattle.v_check.proofs.Looping.{unranked-test}
use Rattle.v_check.proofs.loops.unranked.Goals as goal

pub loop-index-preserved : goal.loop-index-preserved
loop-index-preserved c =
    let i = c.loop-index.index in
    let is : rank_at c.args.ranks.now i ≡ c.index-ranks-index.result
    = any-default c.args.ranks.now i None c.index-ranks-index.result (let l = c.loop-index-test.true in let s = c.requires in omega (arith, l, s)) ∙ sym c.index-ranks-index.is in
    finds_next (IsUnranked c.args.ranks.now) (stmt_places c.args.stmts.now) c.loop-index.found c.note-found.result c.is_none.result c.index-stmts-index.result.place i
    c.note-found.ensures (stmt-place c.args.stmts.now i c.index-stmts-index.result c.loop-index-test.true c.index-stmts-index.is)
    (unranked-test c.args.ranks.now i c.is_none.result (omega arith) (ap is_some is ∙ c.is_none.ensures)) c.loop-index.invariant

pub returns : goal.returns
returns c =
    finds_all (IsUnranked c.args.ranks.now) (stmt_places c.args.stmts.now) c.loop-index.found c.loop-index.index
    (λ i h. let l = h.0 in omega (arith, l)) c.loop-index.invariant
