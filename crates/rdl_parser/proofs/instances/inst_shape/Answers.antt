use Rattle.std.proofs.Common.{refl, ap, Err}
use Rattle.rb_grammar.proofs.Following.{◌⟫◌, ◌⟫|◌}
use Rattle.rb_grammar.proofs.Steps.{taking, missing, calling, calling_stops, halting, passed}
use Rattle.rdl_tree.specs.Tree as tree
use Rattle.rdl_expressions.proofs.Firsts.{right}
use Rattle.rdl_parser.proofs.Phrases.{shape_step, shape_expr, shape_stops}
use Rattle.rdl_parser.proofs.instances.inst_shape.Goals as goal

pub returns-in_default-clause-tree : goal.returns-in_default-clause-tree
returns-in_default-clause-tree c = rw c.no_dims-none.ensures (rw c.in_default.ensures.list (tree.dims tree.no_index))

pub returns-in_default-clause-reads : goal.returns-in_default-clause-reads
returns-in_default-clause-reads c = missing right c.in_default.ensures refl

pub returns-in_err-first-clause-stops : goal.returns-in_err-first-clause-stops
returns-in_err-first-clause-stops c = λ h. shape_step c.in-Some.ensures ⟫| shape_stops (c.in_err-first.ensures.stops (ap Err (passed _ _ c.from_residual.ensures.1 h)))

pub returns-in_err-dims-clause-stops : goal.returns-in_err-dims-clause-stops
returns-in_err-dims-clause-stops c = λ h. shape_step c.in-Some.ensures ⟫ shape_expr c.in_ok-first.ensures.reads ⟫ missing right c.in_default-mark.ensures refl ⟫| c.in_err-dims.ensures.stops (ap Err (passed _ _ c.from_residual-in_err-dims.ensures.1 h))

pub returns-in_default-mark-clause-tree : goal.returns-in_default-mark-clause-tree
returns-in_default-mark-clause-tree c = tree.dims (c.in_ok-dims.ensures.tree _ _ _ c.in-Some.ensures (rw c.in_default-mark.ensures.list c.in_ok-first.ensures.tree))

pub returns-in_default-mark-clause-reads : goal.returns-in_default-mark-clause-reads
returns-in_default-mark-clause-reads c = shape_step c.in-Some.ensures ⟫ shape_expr c.in_ok-first.ensures.reads ⟫ missing right c.in_default-mark.ensures refl ⟫ c.in_ok-dims.ensures.reads

pub returns-in_err-low-clause-stops : goal.returns-in_err-low-clause-stops
returns-in_err-low-clause-stops c = λ h. shape_step c.in-Some.ensures ⟫ shape_expr c.in_ok-first.ensures.reads ⟫ taking right c.in-Some-mark.ensures refl ⟫| calling_stops right (c.in_err-low.ensures.stops (ap Err (passed _ _ c.from_residual-in_err-low.ensures.1 h))) refl

pub returns-in_err-_close-clause-stops : goal.returns-in_err-_close-clause-stops
returns-in_err-_close-clause-stops c = λ h. shape_step c.in-Some.ensures ⟫ shape_expr c.in_ok-first.ensures.reads ⟫ taking right c.in-Some-mark.ensures refl ⟫ calling right c.in_ok-low.ensures.reads refl ⟫| halting right c.in_err-_close.ensures.err refl

pub returns-clause-tree : goal.returns-clause-tree
returns-clause-tree c = rw c.no_dims-none.ensures (rw c.in_ok-range.ensures.is (tree.range c.in-Some.ensures c.in_ok-first.ensures.tree c.in-Some-mark.ensures c.in_ok-low.ensures.tree c.in_ok-_close.ensures.ok))

pub returns-clause-reads : goal.returns-clause-reads
returns-clause-reads c = shape_step c.in-Some.ensures ⟫ shape_expr c.in_ok-first.ensures.reads ⟫ taking right c.in-Some-mark.ensures refl ⟫ calling right c.in_ok-low.ensures.reads refl ⟫ taking right c.in_ok-_close.ensures.ok refl
