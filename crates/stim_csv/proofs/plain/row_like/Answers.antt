use Rattle.std.proofs.Common.{◌+◌, ◌-◌, ◌++◌, ◌∷◌, [], refl, sym, subst, take, drop, length, append-nil, arith}
use Rattle.stim_csv.proofs.LikeRows.{LikeSoFar, last_row, like_none, stretch, room, repeated, like_all, like_cell, number_more}
use Rattle.stim_csv.proofs.plain.row_like.Goals as goal

pub overflow_sub-from : goal.overflow_sub-from
overflow_sub-from c =
    let a = c.args in
    omega (arith, c.len.ensures, (last_row a.widths.now a.lengths.now (drop a.before a.text.now) (drop a.start a.text.now) a.numbers.now c.requires.row).0)

pub loop-patience-init : goal.loop-patience-init
loop-patience-init c =
    let a = c.args in
    record {
      row = [];
      added = sym (append-nil a.numbers.now);
      like = subst (λ n. LikeSoFar a.widths.now a.lengths.now (drop (n - length a.widths.now) a.numbers.now) a.text.now 0 a.before a.start a.start []) (sym c.len.ensures)
          (like_none a.widths.now a.lengths.now a.text.now a.numbers.now a.before a.start c.requires.before c.requires.within c.requires.lengths c.requires.row);
    }

pub repeat-requires : goal.repeat-requires
repeat-requires c =
    let a = c.args in
    let l = c.loop-patience in
    let from = c.len.result - length a.widths.now in
    let e = c.cells_within-count.ensures in
    let b = c.bytes_alike-alike.ensures in
    let more = stretch a.widths.now l.lengths (drop from a.numbers.now) a.text.now l.invariant.row l.column l.was l.at a.start c.cells_within-count.result.0 c.cells_within-count.result.1 c.bytes_alike-alike.result l.invariant.like
    e.count e.bytes e.within b.one b.other b.alike in
    (room a.widths.now a.lengths.now (drop a.before a.text.now) (drop a.start a.text.now) a.numbers.now l.numbers l.invariant.row from l.column c.cells_within-count.result.0 c.len.result c.requires.row c.len.ensures refl more.low l.invariant.added).1

pub returns-then-column-widths-clause-cells : goal.returns-then-column-widths-clause-cells
returns-then-column-widths-clause-cells c =
    let a = c.args in
    let l = c.loop-patience in
    let from = c.len.result - length a.widths.now in
    let e = c.cells_within-count.ensures in
    let b = c.bytes_alike-alike.ensures in
    let count = c.cells_within-count.result.0 in
    let more = stretch a.widths.now l.lengths (drop from a.numbers.now) a.text.now l.invariant.row l.column l.was l.at a.start count c.cells_within-count.result.1 c.bytes_alike-alike.result l.invariant.like
    e.count e.bytes e.within b.one b.other b.alike in
    let there = (room a.widths.now a.lengths.now (drop a.before a.text.now) (drop a.start a.text.now) a.numbers.now l.numbers l.invariant.row from l.column count c.len.result c.requires.row c.len.ensures refl more.low l.invariant.added).0 in
    like_all a.widths.now l.lengths a.lengths.now (drop from a.numbers.now) a.text.now (l.invariant.row ++ take count (drop l.column (drop from a.numbers.now))) a.numbers.now c.repeat.new.self (l.column + count) (l.was + c.cells_within-count.result.1) (l.at + c.cells_within-count.result.1) a.start
    more c.if-column-widths.true (repeated a.numbers.now l.invariant.row c.repeat.new.self l.numbers from l.column count l.invariant.added there c.in_ok-repeat.ensures)

pub overflow_add-was-in-loop-patience : goal.overflow_add-was-in-loop-patience
overflow_add-was-in-loop-patience c =
    let a = c.args in
    let l = c.loop-patience in
    let from = c.len.result - length a.widths.now in
    let e = c.cells_within-count.ensures in
    let b = c.bytes_alike-alike.ensures in
    let count = c.cells_within-count.result.0 in
    let bytes = c.cells_within-count.result.1 in
    let more = stretch a.widths.now l.lengths (drop from a.numbers.now) a.text.now l.invariant.row l.column l.was l.at a.start count bytes c.bytes_alike-alike.result l.invariant.like
    e.count e.bytes e.within b.one b.other b.alike in
    let cell = like_cell a.widths.now l.lengths (drop from a.numbers.now) a.text.now (l.invariant.row ++ take count (drop l.column (drop from a.numbers.now))) (l.column + count) (l.was + bytes) (l.at + bytes) a.start c.in-Some.end c.separator_of-separator.result _ c.in-Some.number more
    (omega (arith, more.low, c.if-column-widths.false)) refl c.separator_of-separator.ensures.comma c.separator_of-separator.ensures.line_feed c.in-Some.ensures.past c.in-Some.ensures.within c.in-Some.ensures.cell in
    let passed = cell.passed in
    omega arith

pub loop-patience-preserved : goal.loop-patience-preserved
loop-patience-preserved c =
    let a = c.args in
    let l = c.loop-patience in
    let from = c.len.result - length a.widths.now in
    let e = c.cells_within-count.ensures in
    let b = c.bytes_alike-alike.ensures in
    let count = c.cells_within-count.result.0 in
    let bytes = c.cells_within-count.result.1 in
    let row = l.invariant.row ++ take count (drop l.column (drop from a.numbers.now)) in
    let more = stretch a.widths.now l.lengths (drop from a.numbers.now) a.text.now l.invariant.row l.column l.was l.at a.start count bytes c.bytes_alike-alike.result l.invariant.like
    e.count e.bytes e.within b.one b.other b.alike in
    let there = (room a.widths.now a.lengths.now (drop a.before a.text.now) (drop a.start a.text.now) a.numbers.now l.numbers l.invariant.row from l.column count c.len.result c.requires.row c.len.ensures refl more.low l.invariant.added).0 in
    record {
      row = row ++ c.in-Some.number ∷ [];
      added = number_more a.numbers.now row c.push.new.self c.repeat.new.self c.in-Some.number c.from.result
          (repeated a.numbers.now l.invariant.row c.repeat.new.self l.numbers from l.column count l.invariant.added there c.in_ok-repeat.ensures) c.in_ok-push.ensures c.from.ensures;
      like = like_cell a.widths.now l.lengths (drop from a.numbers.now) a.text.now row (l.column + count) (l.was + bytes) (l.at + bytes) a.start c.in-Some.end c.separator_of-separator.result _ c.in-Some.number more
          (omega (arith, more.low, c.if-column-widths.false)) refl c.separator_of-separator.ensures.comma c.separator_of-separator.ensures.line_feed c.in-Some.ensures.past c.in-Some.ensures.within c.in-Some.ensures.cell;
    }
