use Rattle.std.proofs.Common.{◌≡◌, ◌+◌, ◌*◌, length, map, slice_index, ap, sym, ◌∙◌, arith}
use Rattle.std.proofs.lemmas.List.{take_all}
use Rattle.stim_csv.specs.Columns.{picked}
use Rattle.stim_csv.specs.Vectors.{cut}
use Rattle.stim_csv.proofs.Cutting.{length-cut}
use Rattle.stim_csv.proofs.Picking.{all_in_order, rows_more, none_yet, whole_more}
use Rattle.stim_csv.proofs.ordering.by_pins.Goals as goal

pub returns-then-are_in_order-clause-rows : goal.returns-then-are_in_order-clause-rows
returns-then-are_in_order-clause-rows c = all_in_order c.args.columns.now c.args.cells c.args.width c.args.rows (c.are_in_order.ensures.count c.if-are_in_order.true) (c.are_in_order.ensures.places c.if-are_in_order.true) c.requires.whole

pub loop-row-init : goal.loop-row-init
loop-row-init c = none_yet (length c.args.columns.now) c.new-vectors.result c.new-vectors.ensures

pub loop-row-preserved : goal.loop-row-preserved
loop-row-preserved c =
    let l = c.loop-row in
    let columns = c.args.columns.now in
    record {
      rows = rows_more columns c.args.cells l.vectors c.push_picked.new.vectors c.args.width c.args.rows l.row c.requires.columns c.loop-row-test.true l.invariant.rows l.invariant.whole c.in_ok-push_picked.ensures;
      whole = whole_more columns l.vectors c.push_picked.new.vectors (λ k. slice_index c.args.cells (l.row * c.args.width + k)) l.row l.invariant.whole c.in_ok-push_picked.ensures;
    }

pub returns-clause-rows : goal.returns-clause-rows
returns-clause-rows c =
    let rows = cut c.args.width c.args.rows c.args.cells in
    let all : c.loop-row.row ≡ c.args.rows = omega (arith, c.loop-row-test.false, c.loop-row.auto.row-end) in
    ap (λ n. cut (length c.args.columns.now) n c.loop-row.vectors) (sym all)
    ∙ (c.loop-row.invariant.rows ∙ ap (map (picked c.args.columns.now)) (take_all c.loop-row.row rows (omega (arith, all, length-cut c.args.width c.args.rows c.args.cells))))
