use Rattle.std.proofs.Common.{◌∙◌, ◌++◌, ◌∷◌, [], ◌-◌, refl, sym, drop, take, length-set, append-nil, arith}
use Rattle.stim_csv.proofs.LikeRows.{none_read, cell_read, measured_more, number_more, all_read}
use Rattle.stim_csv.proofs.plain.cells_from.Goals as goal

pub loop-column-init : goal.loop-column-init
loop-column-init c = record {
  within = c.requires.within;
  long = c.requires.lengths;
  measured = [];
  lengths_are = sym (append-nil (take c.args.first c.args.lengths.now));
  row = [];
  added = sym (append-nil c.args.numbers.now);
  read = none_read c.args.widths.now c.args.first (drop c.args.start c.args.text.now);
}

pub loop-column-preserved : goal.loop-column-preserved
loop-column-preserved c =
    let l = c.loop-column in
    let i = l.invariant in
    let n = c.in-Some.number in
    let length = c.in-Some.end - l.at in
    record {
      within = c.in-Some.ensures.within;
      long = length-set l.lengths l.column length ∙ i.long;
      measured = i.measured ++ length ∷ [];
      lengths_are = measured_more l.lengths (take c.args.first c.args.lengths.now) i.measured l.column length (omega (arith, i.long, c.loop-column-test.true)) i.lengths_are;
      row = i.row ++ n ∷ [];
      added = number_more c.args.numbers.now i.row c.push.new.self l.numbers n c.from.result i.added c.in_ok-push.ensures c.from.ensures;
      read = cell_read c.args.widths.now c.args.first l.column l.at c.in-Some.end c.args.text.now (drop c.args.start c.args.text.now) i.measured i.row c.separator_of-separator.result
          _ n i.read c.loop-column-test.true refl c.separator_of-separator.ensures.comma c.separator_of-separator.ensures.line_feed c.in-Some.ensures.past c.in-Some.ensures.within c.in-Some.ensures.cell;
    }

pub returns-clause-cells : goal.returns-clause-cells
returns-clause-cells c =
    let l = c.loop-column in
    let i = l.invariant in
    all_read c.args.widths.now c.args.lengths.now l.lengths c.args.numbers.now l.numbers i.measured i.row (drop c.args.start c.args.text.now) (drop l.at c.args.text.now) c.args.first l.column i.read
    (omega (arith, c.loop-column-test.false)) i.long i.lengths_are i.added
