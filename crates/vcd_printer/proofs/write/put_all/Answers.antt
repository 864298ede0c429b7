use Rattle.std.proofs.Common.{ℕ, List, [], get_or, Bor}
use Rattle.rb_edge.proofs.Flowing.{and_then, stopped, nothing, of_bytes}
use Rattle.plain_lemmas.proofs.Lists.{get-at}
use Rattle.vcd_printer.proofs.Each.{more, left, all, last}
use Rattle.vcd_printer.proofs.write.put_all.Goals as goal

abbrev none : Bor (List ℕ)
none = record { ref_ptr = (0, 0); now = [] }

abbrev bytes : Bor (List ℕ) → List ℕ
bytes p = p.now

pub loop-piece-init : goal.loop-piece-init
loop-piece-init g c = nothing _ _ _ tt

pub returns-in_err-put : goal.returns-in_err-put
returns-in_err-put g c =
    let pieces = c.args.pieces.now in
    let at = c.loop-piece.piece-index in
    of_bytes _ _ (all bytes pieces at (get_or pieces at none) (get-at pieces at none c.loop-piece-test.true))
    (and_then c.loop-piece.invariant (stopped {xs = (get_or pieces at none).now} (left bytes pieces at) c.from_residual.result c.from_residual.ensures.0 c.in_err-put.ensures.flows))

pub loop-piece-preserved : goal.loop-piece-preserved
loop-piece-preserved g c =
    let pieces = c.args.pieces.now in
    let at = c.loop-piece.piece-index in
    of_bytes _ _ (more bytes pieces at (get_or pieces at none) (get-at pieces at none c.loop-piece-test.true)) (and_then c.loop-piece.invariant c.in_ok-put.ensures.flows)

pub returns : goal.returns
returns g c = of_bytes _ _ (last bytes c.args.pieces.now c.loop-piece.piece-index c.loop-piece-test.false) c.loop-piece.invariant
