use Rattle.std.proofs.Common.{◌∷◌, [], ◌++◌, ap, sym, subst, ◌∙◌}
use Rattle.stim_csv.specs.Numbers.{AreCells}
use Rattle.stim_csv.proofs.NumberCells.{kept_cells, pushed}
use Rattle.stim_csv.proofs.numbers.Numbers.push.Goals as goal

pub invariant_of-self : goal.invariant_of-self
invariant_of-self c = kept_cells c.self.inside.wide.items c.cell_for.new.wide.items c.self.inside.cells.items c.self.invariant c.in_err-cell.ensures.more

pub invariant_of-self-in_err-push : goal.invariant_of-self-in_err-push
invariant_of-self-in_err-push c = subst (AreCells c.cell_for.new.wide.items) (sym c.in_err-push.ensures.items) (kept_cells c.self.inside.wide.items c.cell_for.new.wide.items c.self.inside.cells.items c.self.invariant c.in_ok-cell.ensures.more)

pub invariant_of-self-2 : goal.invariant_of-self-2
invariant_of-self-2 c = (pushed c.self.inside.wide.items c.cell_for.new.wide.items c.self.inside.cells.items c.push.new.self.items c.in_ok-cell.cell c.args.number c.self.invariant c.in_ok-cell.ensures.more c.in_ok-cell.ensures.cell c.in_ok-push.ensures.items).0

pub returns : goal.returns
returns c = (pushed c.self.inside.wide.items c.cell_for.new.wide.items c.self.inside.cells.items c.push.new.self.items c.in_ok-cell.cell c.args.number c.self.invariant c.in_ok-cell.ensures.more c.in_ok-cell.ensures.cell c.in_ok-push.ensures.items).1 ∙ ap (λ v. v ++ (c.args.number ∷ [])) c.self.view_is
