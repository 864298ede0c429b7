use Rattle.std.proofs.Common.{◌≡◌, refl, ap, Err}
use Rattle.rb_grammar.specs.declared.stop.Stop.TheVariants.{Syntax}
use Rattle.rb_grammar.proofs.Following.{◌⟫◌, ◌⟫|◌}
use Rattle.rb_grammar.proofs.Steps.{taking, calling, calling_stops, halting, passed}
use Rattle.rdl_expressions.proofs.Firsts.{right}
use Rattle.rb_grammar.proofs.Factoring.{reading, reading_stops}
use Rattle.rdl_parser.proofs.Items.{starts, dynamic_tree}
use Rattle.rdl_parser.proofs.components.dynamic_from.Goals as goal

pub returns-in_err-target-clause-stops : goal.returns-in_err-target-clause-stops
returns-in_err-target-clause-stops c = λ h. reading_stops right _ (c.in_err-target.ensures.stops (ap Err (passed _ _ c.from_residual.ensures.1 h))) refl

pub returns-in_err-_arrow-clause-stops : goal.returns-in_err-_arrow-clause-stops
returns-in_err-_arrow-clause-stops c = λ h. reading right _ c.in_ok-target.ensures.reads refl ⟫| halting right c.in_err-_arrow.ensures.err refl

pub returns-in_err-prop-clause-stops : goal.returns-in_err-prop-clause-stops
returns-in_err-prop-clause-stops c = λ h. reading right _ c.in_ok-target.ensures.reads refl ⟫ taking right c.in_ok-_arrow.ensures.ok refl ⟫| calling_stops right (c.in_err-prop.ensures.stops (ap Err (passed _ _ c.from_residual-in_err-prop.ensures.1 h))) refl

pub returns-in-Err-clause-stops : goal.returns-in-Err-clause-stops
returns-in-Err-clause-stops c = λ h. let e : c.in-Err.stop ≡ Syntax = cc in
    reading right _ c.in_ok-target.ensures.reads refl ⟫ taking right c.in_ok-_arrow.ensures.ok refl ⟫ calling right c.in_ok-prop.ensures.reads refl
    ⟫| c.in-Err.ensures.stops (ap Err e)

pub returns-in-Ok-clause-tree : goal.returns-in-Ok-clause-tree
returns-in-Ok-clause-tree c = λ ts n. dynamic_tree (starts n) (c.in_ok-target.ensures.tree ts n) c.in_ok-_arrow.ensures.ok c.in_ok-prop.ensures.tree c.in-Ok.ensures.tree

pub returns-in-Ok-clause-reads : goal.returns-in-Ok-clause-reads
returns-in-Ok-clause-reads c = reading right _ c.in_ok-target.ensures.reads refl ⟫ taking right c.in_ok-_arrow.ensures.ok refl ⟫ calling right c.in_ok-prop.ensures.reads refl ⟫ c.in-Ok.ensures.reads
