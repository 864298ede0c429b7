use Rattle.std.proofs.Common.{refl, ap, Err, length, arith}
use Rattle.rb_grammar.proofs.Following.{◌⟫◌, ◌⟫|◌}
use Rattle.rb_grammar.proofs.Barring.{Without}
use Rattle.rb_grammar.proofs.Steps.{entering, staying, opening, taking, calling, calling_stops, halting, passed}
use Rattle.rdl_tree.specs.Tree as tree
use Rattle.rdl_expressions.proofs.Firsts.{right}
use Rattle.rb_grammar.proofs.Returning.{then_reads, then_shorter, if_ok}
use Rattle.rdl_expressions.specs.Following.{triggers}
use Rattle.rdl_expressions.proofs.Words.{no_trigger, trigger_step}
use Rattle.rdl_parser.proofs.Phrases.{set_is_local, set_place}
use Rattle.rdl_parser.proofs.properties.local.Goals as goal

pub returns-in_err-prop-clause-stops : goal.returns-in_err-prop-clause-stops
returns-in_err-prop-clause-stops c = λ h. trigger_step _ c.in-Some.ensures.of_sort c.in-Some.ensures.stands ⟫| calling_stops right (c.in_err-prop.ensures.stops (ap Err (passed _ _ c.from_residual.ensures.1 h))) refl

pub returns-in_err-_end-clause-stops : goal.returns-in_err-_end-clause-stops
returns-in_err-_end-clause-stops c = λ h. trigger_step _ c.in-Some.ensures.of_sort c.in-Some.ensures.stands ⟫ calling right c.in_ok-prop.ensures.reads refl ⟫| halting right c.in_err-_end.ensures.err refl

pub returns-in-Some-clause-tree : goal.returns-in-Some-clause-tree
returns-in-Some-clause-tree c = tree.triggered c.trigger_of.ensures c.in-Some.ensures.stands c.in_ok-prop.ensures.tree c.in_ok-_end.ensures.ok

pub returns-in-Some-clause-reads : goal.returns-in-Some-clause-reads
returns-in-Some-clause-reads c = trigger_step _ c.in-Some.ensures.of_sort c.in-Some.ensures.stands ⟫ calling right c.in_ok-prop.ensures.reads refl ⟫ taking right c.in_ok-_end.ensures.ok refl

pub returns-in_err-prop-2-clause-stops : goal.returns-in_err-prop-2-clause-stops
returns-in_err-prop-2-clause-stops c = λ h. entering ⟫ opening right (Without triggers) refl (no_trigger c.in_default.ensures) ⟫ staying c.in_default.ensures.list ⟫| calling_stops right (c.in_err-prop-2.ensures.stops (ap Err (passed _ _ c.from_residual-in_err-prop-2.ensures.1 h))) refl

pub returns-clause-tree : goal.returns-clause-tree
returns-clause-tree c = if_ok _ (λ s h. set_is_local (rw c.in_default.ensures.list at c.in_ok-prop-2.ensures.tree) h) c.set_from.ensures.tree

pub returns-clause-place : goal.returns-clause-place
returns-clause-place c = set_place _ _ _ _ _ c.set_from.ensures.tree

pub returns-clause-shorter : goal.returns-clause-shorter
returns-clause-shorter c = then_shorter _ _ _ _ (omega (arith, ap length c.in_default.ensures.list, c.in_ok-prop-2.ensures.reads.on)) c.set_from.ensures.shorter

pub returns-clause-reads : goal.returns-clause-reads
returns-clause-reads c = then_reads _ _ (entering ⟫ opening right (Without triggers) refl (no_trigger c.in_default.ensures) ⟫ staying c.in_default.ensures.list ⟫ calling right c.in_ok-prop-2.ensures.reads refl) c.set_from.ensures.reads

pub returns-clause-stops : goal.returns-clause-stops
returns-clause-stops c = λ h. entering ⟫ opening right (Without triggers) refl (no_trigger c.in_default.ensures) ⟫ staying c.in_default.ensures.list ⟫ calling right c.in_ok-prop-2.ensures.reads refl ⟫| c.set_from.ensures.stops h
