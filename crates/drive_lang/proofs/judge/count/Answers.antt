use Rattle.std.proofs.Common.{ap, sym, ◌∙◌, arith}
use Rattle.stim_csv.specs.Numeral.{cell_of, numeral_value}
use Rattle.drive_lang.proofs.Counts.{above, counted, form, many, plain}
use Rattle.drive_lang.proofs.judge.count.Goals as goal

pub returns-in-Bad-clause-count : goal.returns-in-Bad-clause-count
returns-in-Bad-clause-count c = form c.args.line c.args.room (numeral_value 10 c.args.digits.now) (sym c.in-Bad.is ∙ c.cell.ensures ∙ ap cell_of (plain c.args.digits.now (sym c.starts_with.ensures.value ∙ c.if-starts_with.false)))

pub returns-in-Number-clause-count : goal.returns-in-Number-clause-count
returns-in-Number-clause-count c =
    counted c.args.line c.args.room (numeral_value 10 c.args.digits.now) c.in-Number.count
    (sym c.in-Number.is ∙ c.cell.ensures ∙ ap cell_of (plain c.args.digits.now (sym c.starts_with.ensures.value ∙ c.if-starts_with.false)))
    (let t = c.if-count-from.true in omega (arith, c.from.ensures, t))

pub returns-in_default-clause-count : goal.returns-in_default-clause-count
returns-in_default-clause-count c =
    many c.args.line c.args.room (numeral_value 10 c.args.digits.now) c.in-Number.count
    (sym c.in-Number.is ∙ c.cell.ensures ∙ ap cell_of (plain c.args.digits.now (sym c.starts_with.ensures.value ∙ c.if-starts_with.false)))
    (let t = c.if-count-from.false in omega (arith, c.from.ensures, t))

pub returns-in_default-2-clause-count : goal.returns-in_default-2-clause-count
returns-in_default-2-clause-count c =
    above c.args.line c.args.room (numeral_value 10 c.args.digits.now)
    (sym c.in_default.is ∙ c.cell.ensures ∙ ap cell_of (plain c.args.digits.now (sym c.starts_with.ensures.value ∙ c.if-starts_with.false))) (omega arith)
