use Rattle.std.proofs.Common.{refl, ap, Err}
use Rattle.rb_grammar.proofs.Following.{◌⟫◌, ◌⟫|◌}
use Rattle.rb_grammar.proofs.Barring.{Here}
use Rattle.rb_grammar.proofs.Steps.{entering, opening, taking, missing, halting, passed, seen}
use Rattle.rdl_tree.specs.declared.token.Mark.TheVariants as marks
use Rattle.rdl_tree.specs.declared.token.Terminal.TheVariants as terminals
use Rattle.rdl_tree.specs.Tree as tree
use Rattle.rdl_expressions.proofs.Firsts.{right}
use Rattle.rb_grammar.proofs.Factoring.{reading, reading_stops}
use Rattle.rdl_parser.proofs.instances.params.Goals as goal

pub returns-in_default-clause-tree : goal.returns-in_default-clause-tree
returns-in_default-clause-tree c = rw c.no_parameters.ensures (rw c.in_default.ensures.list tree.none)

pub returns-in_default-clause-reads : goal.returns-in_default-clause-reads
returns-in_default-clause-reads c = missing right c.in_default.ensures refl

pub returns-in_err-_open-clause-stops : goal.returns-in_err-_open-clause-stops
returns-in_err-_open-clause-stops c = λ h. opening right (Here (terminals.Mark marks.Hash)) refl (seen c.in-Some.ensures) ⟫ entering ⟫ taking right c.in-Some.ensures refl ⟫| halting right c.in_err-_open.ensures.err refl

pub returns-in_err-params-clause-stops : goal.returns-in_err-params-clause-stops
returns-in_err-params-clause-stops c = λ h.
    opening right (Here (terminals.Mark marks.Hash)) refl (seen c.in-Some.ensures) ⟫ entering ⟫ taking right c.in-Some.ensures refl ⟫ taking right c.in_ok-_open.ensures.ok refl
    ⟫| reading_stops right _ (c.in_err-params.ensures.stops (ap Err (passed _ _ c.from_residual-in_err-params.ensures.1 h))) refl

pub returns-in_err-_close-clause-stops : goal.returns-in_err-_close-clause-stops
returns-in_err-_close-clause-stops c = λ h.
    opening right (Here (terminals.Mark marks.Hash)) refl (seen c.in-Some.ensures) ⟫ entering ⟫ taking right c.in-Some.ensures refl ⟫ taking right c.in_ok-_open.ensures.ok refl
    ⟫ reading right _ c.in_ok-params.ensures.reads refl ⟫| halting right c.in_err-_close.ensures.err refl

pub returns-clause-tree : goal.returns-clause-tree
returns-clause-tree c = tree.some c.in-Some.ensures c.in_ok-_open.ensures.ok c.in_ok-params.ensures.tree c.in_ok-_close.ensures.ok

pub returns-clause-reads : goal.returns-clause-reads
returns-clause-reads c =
    opening right (Here (terminals.Mark marks.Hash)) refl (seen c.in-Some.ensures) ⟫ entering ⟫ taking right c.in-Some.ensures refl ⟫ taking right c.in_ok-_open.ensures.ok refl
    ⟫ reading right _ c.in_ok-params.ensures.reads refl ⟫ taking right c.in_ok-_close.ensures.ok refl
