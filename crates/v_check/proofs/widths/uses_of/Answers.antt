use Rattle.std.proofs.Common.{◌≡◌, ◌++◌, ◌∷◌, [], map, not, take, ap, sym, ◌∙◌, arith}
use Rattle.v_design.specs.Seen.{step_seen}
use Rattle.v_check.specs.Nets.{nets_seen, number_of, width_in}
use Rattle.v_check.specs.Uses.{stmt_reads}
use Rattle.v_check.specs.Sizes.{IsMisfit, step_fits, stmt_places}
use Rattle.v_check.proofs.Finding.{finds_next, finds_all, map-more, stmt-place, element-test}
use Rattle.plain_lemmas.proofs.Lists.{get-within as element-within}
use Rattle.v_check.proofs.widths.uses_of.Goals as goal

pub loop-stmt-preserved : goal.loop-stmt-preserved
loop-stmt-preserved c =
    let nets = c.args.nets.now in
    let stmts = c.args.stmts.now in
    let number = number_of nets in
    let ws = width_in (nets_seen nets) in
    let i = c.loop-stmt.stmt-index in
    let stmt = c.stmt-item.result in
    let front = take i stmts in
    let target : c.number-target.result ≡ number stmt.to = c.number-target.ensures ∙ ap number c.bytes_of.ensures in
    let list : c.deref.result.now ≡ stmt_reads number stmt
    = c.deref.ensures.value ∙ (c.in_ok-width.ensures.uses ∙ ap (λ l. l ++ stmt_reads number stmt) c.clear.ensures.items) in
    record {
      targets = c.in_ok-push.ensures.items
          ∙ (ap (λ l. l ++ c.number-target.result ∷ []) c.loop-stmt.invariant.targets
          ∙ (ap (λ k. map (λ s. number s.to) front ++ k ∷ []) target ∙ sym (map-more (λ s. number s.to) stmts i stmt c.loop-stmt-test.true c.stmt-item.is)));
      reads = c.in_ok-add.ensures.ok
          ∙ (ap (λ l. l ++ c.deref.result.now ∷ []) c.loop-stmt.invariant.reads
          ∙ (ap (λ k. map (stmt_reads number) front ++ k ∷ []) list ∙ sym (map-more (stmt_reads number) stmts i stmt c.loop-stmt-test.true c.stmt-item.is)));
      found = finds_next (IsMisfit ws stmts) (stmt_places stmts) c.loop-stmt.found c.note-found.result (not c.fits.result) stmt.place i
          c.note-found.ensures (stmt-place stmts i stmt c.loop-stmt-test.true c.stmt-item.is)
          (element-test stmts i stmt (λ s. step_fits ws (step_seen s)) (not c.fits.result) c.loop-stmt-test.true c.stmt-item.is (ap not c.fits.ensures)) c.loop-stmt.invariant.found;
    }

pub returns-clause-found : goal.returns-clause-found
returns-clause-found c =
    finds_all (IsMisfit (width_in (nets_seen c.args.nets.now)) c.args.stmts.now) (stmt_places c.args.stmts.now) c.loop-stmt.found c.loop-stmt.stmt-index
    (λ i h. let l = element-within c.args.stmts.now i h.0 h.1 in omega (arith, l)) c.loop-stmt.invariant.found
