use Rattle.std.proofs.Common.{refl, ap, Err}
use Rattle.rb_grammar.proofs.Following.{◌⟫◌, ◌⟫|◌}
use Rattle.rb_grammar.proofs.Steps.{taking, calling, calling_stops, halting, passed}
use Rattle.rdl_tree.specs.Tree as tree
use Rattle.rdl_expressions.proofs.Firsts.{right}
use Rattle.rdl_parser.proofs.components.made_from.Goals as goal

pub returns-in_err-insts-clause-stops : goal.returns-in_err-insts-clause-stops
returns-in_err-insts-clause-stops c = λ h. calling_stops right (c.in_err-insts.ensures.stops (ap Err (passed _ _ c.from_residual.ensures.1 h))) refl

pub returns-in_err-_end-clause-stops : goal.returns-in_err-_end-clause-stops
returns-in_err-_end-clause-stops c = λ h. calling right c.in_ok-insts.ensures.reads refl ⟫| halting right c.in_err-_end.ensures.err refl

pub returns-clause-tree : goal.returns-clause-tree
returns-clause-tree c = λ ts us vs s a n. tree.made s a n c.in_ok-insts.ensures.tree c.in_ok-_end.ensures.ok

pub returns-clause-reads : goal.returns-clause-reads
returns-clause-reads c = calling right c.in_ok-insts.ensures.reads refl ⟫ taking right c.in_ok-_end.ensures.ok refl
