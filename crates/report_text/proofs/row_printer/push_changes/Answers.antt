use Rattle.std.proofs.Common.{◌+◌, ◌∙◌, ap, arith}
use Rattle.report_text.proofs.Kept.{Progress, number_moves, number_stays, place_fits}
use Rattle.report_text.proofs.row_printer.push_changes.Goals.{then-numbers-index+in_ok-extend_from_slice+in_ok-lengths, else-numbers-index}
use Rattle.report_text.proofs.row_printer.push_changes.Goals as goal

pub overflow_add-end : goal.overflow_add-end
overflow_add-end c =
    let v = c.loop-index.invariant in
    let p : Progress c.args.kept.now c.args.numbers.now c.args.next.now.items c.loop-index.index c.loop-index.moved c.loop-index.from c.loop-index.to c.loop-index.kept c.loop-index.lengths c.loop-index.next.items
    = record { few = v.moved; order = v.from; place = v.to; taken = v.kept; measured = v.lengths; printed = v.next } in
    let fits = place_fits _ _ _ _ _ _ _ c.from.result _ _ _ c.requires.many c.loop-index-test.true p (omega (arith, c.from.ensures)) c.args.cells.now c.requires.cells.printed in
    omega arith

pub slice_bounds-extend_from_slice-end : goal.slice_bounds-extend_from_slice-end
slice_bounds-extend_from_slice-end c =
    let v = c.loop-index.invariant in
    let p : Progress c.args.kept.now c.args.numbers.now c.args.next.now.items c.loop-index.index c.loop-index.moved c.loop-index.from c.loop-index.to c.loop-index.kept c.loop-index.lengths c.loop-index.next.items
    = record { few = v.moved; order = v.from; place = v.to; taken = v.kept; measured = v.lengths; printed = v.next } in
    let fits = place_fits _ _ _ _ _ _ _ c.from.result _ _ _ c.requires.many c.loop-index-test.true p (omega (arith, c.from.ensures)) c.args.cells.now c.requires.cells.printed in
    omega arith

pub loop-index-preserved : goal.loop-index-preserved
loop-index-preserved c =
    let v = c.loop-index.invariant in
    let p : Progress c.args.kept.now c.args.numbers.now c.args.next.now.items c.loop-index.index c.loop-index.moved c.loop-index.from c.loop-index.to c.loop-index.kept c.loop-index.lengths c.loop-index.next.items
    = record { few = v.moved; order = v.from; place = v.to; taken = v.kept; measured = v.lengths; printed = v.next } in
    let i = c.if-numbers-index in
    let q : Progress c.args.kept.now c.args.numbers.now c.args.next.now.items (c.loop-index.index + 1) i.moved i.from (c.loop-index.to + c.from.result) i.kept i.lengths i.next.items
    = elim i.branch [
      | then-numbers-index+in_ok-extend_from_slice+in_ok-lengths w ↦
          number_moves _ _ _ _ _ _ _ c.from.result _ _ _ c.requires.many c.loop-index-test.true p (omega (arith, c.from.ensures)) c.args.cells.now _ _ _ _ _ _ _ c.requires.cells.printed w.kept-is w.lengths-is
          w.in_ok-lengths.ensures.length w.in_ok-extend_from_slice.ensures.items (ap (λ t. t.items) w.next-is ∙ w.in_ok-lengths.ensures.cell) w.moved-is w.from-is
      | else-numbers-index w ↦
          number_stays _ _ _ _ _ _ _ c.from.result _ _ _ c.requires.many c.loop-index-test.true p (omega (arith, c.from.ensures)) _ _ _ _ _ (omega (arith, w.if-numbers-index.false)) w.kept-is w.lengths-is
          (ap (λ t. t.items) w.next-is) w.moved-is w.from-is
    ] in
    record { moved = q.few; from = q.order; to = q.place; kept = q.taken; lengths = q.measured; next = q.printed }
