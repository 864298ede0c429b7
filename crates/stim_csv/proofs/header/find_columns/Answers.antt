use Rattle.std.proofs.Common.{Some, None, refl, ◌∙◌, get_or, [], arith, rules}
use Rattle.csv.specs.Records.{fields_of}
use Rattle.stim_csv.specs.PinTable.{column_problem}
use Rattle.stim_csv.proofs.FirstProblem.{problem_after, problem_here, problem_past}
use Rattle.stim_csv.proofs.Headers.{no_pin, placed, nowhere, seen_before, unknown_pin, twice_pin, new_pin, columns-start, columns-after, widths-after}
use Rattle.stim_csv.proofs.header.find_columns.Goals as goal

pub loop-column-init : goal.loop-column-init
loop-column-init c = record {
  problem = refl;
  columns = columns-start c.args.pins.now c.in_ok-columns.columns.items (c.in_ok-columns.ensures.items_if_clones_equal (search rules));
  widths = c.new-widths.ensures.items;
}

pub returns-in_default-clause-problem : goal.returns-in_default-clause-problem
returns-in_default-clause-problem c = λ other.
    let names = fields_of c.args.names.now in
    let column = c.loop-column.column in
    let at = placed c.args.pins.now (get_or names column []) _ _ None c.cell_at.ensures c.place_in.ensures.value (nowhere c.place_in.result c.in_default.not-Some) in
    c.loop-column.invariant.problem ∙ problem_here (column_problem c.args.pins.now names) names column [] _ (omega arith) (unknown_pin c.args.pins.now names column (get_or names column []) at)

pub returns-then-is_some-clause-problem : goal.returns-then-is_some-clause-problem
returns-then-is_some-clause-problem c = λ other.
    let names = fields_of c.args.names.now in
    let column = c.loop-column.column in
    let at = placed c.args.pins.now (get_or names column []) _ _ (Some c.in-Some.place) c.cell_at.ensures c.place_in.ensures.value c.in-Some.is in
    let seen = seen_before c.args.pins.now names column c.in-Some.place no_pin c.loop-column.columns.items c.index.result.now _ _ c.loop-column.invariant.columns at c.index.ensures c.is_some.ensures c.if-is_some.true in
    c.loop-column.invariant.problem ∙ problem_here (column_problem c.args.pins.now names) names column [] _ (omega arith) (twice_pin c.args.pins.now names column (get_or names column []) c.in-Some.place at seen.0)

pub loop-column-preserved : goal.loop-column-preserved
loop-column-preserved c =
    let names = fields_of c.args.names.now in
    let column = c.loop-column.column in
    let pin = c.index-pins-place.result in
    let at = placed c.args.pins.now (get_or names column []) _ _ (Some c.in-Some.place) c.cell_at.ensures c.place_in.ensures.value c.in-Some.is in
    let seen = seen_before c.args.pins.now names column c.in-Some.place pin c.loop-column.columns.items c.index.result.now _ _ c.loop-column.invariant.columns at c.index.ensures c.is_some.ensures c.if-is_some.false in
    record {
      problem = c.loop-column.invariant.problem
          ∙ problem_after (column_problem c.args.pins.now names) names column [] (omega arith) (new_pin c.args.pins.now names column (get_or names column []) c.in-Some.place at seen.0);
      columns = columns-after c.args.pins.now names column c.in-Some.place pin c.loop-column.columns.items c.requires (omega arith) c.loop-column.invariant.columns at seen.1;
      widths = widths-after c.args.pins.now names column c.in-Some.place pin c.loop-column.widths.items c.push.new.self.items (omega arith) c.loop-column.invariant.widths at c.in_ok-push.ensures.items;
    }

pub returns-clause-sound : goal.returns-clause-sound
returns-clause-sound c = c.loop-column.invariant.problem ∙ problem_past (column_problem c.args.pins.now (fields_of c.args.names.now)) (fields_of c.args.names.now) c.loop-column.column (omega arith)
