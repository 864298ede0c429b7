use Rattle.std.proofs.Common.{refl, ap, Err}
use Rattle.rb_grammar.proofs.Following.{◌⟫◌, ◌⟫|◌}
use Rattle.rb_grammar.proofs.Steps.{taking, missing, calling, calling_stops, halting, passed}
use Rattle.rdl_tree.specs.Tree as tree
use Rattle.rdl_expressions.proofs.Firsts.{right}
use Rattle.rb_grammar.proofs.Factoring.{reading}
use Rattle.rdl_parser.proofs.components.end_of_def.Goals as goal

pub returns-in-Some-clause-tree : goal.returns-in-Some-clause-tree
returns-in-Some-clause-tree c = record { end = c.in-Some.field-0; middle = c.args.parser.now; made = tree.none; ends = c.in-Some.ensures }

pub returns-in-Some-clause-reads : goal.returns-in-Some-clause-reads
returns-in-Some-clause-reads c = taking right c.in-Some.ensures refl

pub returns-in_err-insts-clause-stops : goal.returns-in_err-insts-clause-stops
returns-in_err-insts-clause-stops c = λ h. missing right c.in_default.ensures refl ⟫ reading right _ c.skip_internal.ensures.reads refl ⟫| calling_stops right (c.in_err-insts.ensures.stops (ap Err (passed _ _ c.from_residual.ensures.1 h))) refl

pub returns-in_err-_end-clause-stops : goal.returns-in_err-_end-clause-stops
returns-in_err-_end-clause-stops c = λ h. missing right c.in_default.ensures refl ⟫ reading right _ c.skip_internal.ensures.reads refl ⟫ calling right c.in_ok-insts.ensures.reads refl ⟫| halting right c.in_err-_end.ensures.err refl

pub returns-clause-tree : goal.returns-clause-tree
returns-clause-tree c = record { end = c.in_ok-_end._end; middle = c.insts.new.parser; made = rw (← c.in_default.ensures.list) (tree.some c.skip_internal.ensures.tree c.in_ok-insts.ensures.tree); ends = c.in_ok-_end.ensures.ok }

pub returns-clause-reads : goal.returns-clause-reads
returns-clause-reads c = missing right c.in_default.ensures refl ⟫ reading right _ c.skip_internal.ensures.reads refl ⟫ calling right c.in_ok-insts.ensures.reads refl ⟫ taking right c.in_ok-_end.ensures.ok refl
