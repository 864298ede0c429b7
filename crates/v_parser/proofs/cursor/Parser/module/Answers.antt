use Rattle.std.proofs.Common.{refl, ap, ◌∙◌, Err, [], ◌∷◌, ◌++◌, arith}
use Rattle.rb_grammar.proofs.Following.{◌⟫◌, ◌⟫|◌}
use Rattle.rb_grammar.proofs.Steps.{entering, taking, calling, calling_stops, halting, passed}
use Rattle.v_parser.proofs.Firsts.{right}
use Rattle.v_parser.proofs.Trees.{module_read, ports_to, statements_to}
use Rattle.v_parser.proofs.cursor.Parser.module.Goals as goal

pub returns-in_err-_module-clause-stops : goal.returns-in_err-_module-clause-stops
returns-in_err-_module-clause-stops c = λ h.
    entering ⟫| halting right c.in_err-_module.ensures.err refl

pub returns-in_err-name-clause-stops : goal.returns-in_err-name-clause-stops
returns-in_err-name-clause-stops c = λ h.
    entering ⟫ taking right c.in_ok-_module.ensures.ok refl ⟫| halting right c.in_err-name.ensures.err refl

pub returns-in_err-_open-clause-stops : goal.returns-in_err-_open-clause-stops
returns-in_err-_open-clause-stops c = λ h.
    entering ⟫ taking right c.in_ok-_module.ensures.ok refl ⟫ taking right c.in_ok-name.ensures.ok refl ⟫| halting right c.in_err-_open.ensures.err refl

pub returns-in_err-port-clause-stops : goal.returns-in_err-port-clause-stops
returns-in_err-port-clause-stops c = λ h.
    entering ⟫ taking right c.in_ok-_module.ensures.ok refl ⟫ taking right c.in_ok-name.ensures.ok refl ⟫ taking right c.in_ok-_open.ensures.ok refl ⟫| calling_stops right (c.in_err-port.ensures.stops (ap Err (passed _ _ c.from_residual-in_err-port.ensures.1 h))) refl

pub returns-in_err-more_ports-clause-stops : goal.returns-in_err-more_ports-clause-stops
returns-in_err-more_ports-clause-stops c = λ h.
    entering ⟫ taking right c.in_ok-_module.ensures.ok refl ⟫ taking right c.in_ok-name.ensures.ok refl ⟫ taking right c.in_ok-_open.ensures.ok refl ⟫ calling right c.in_ok-port.ensures.reads refl ⟫| calling_stops right (c.in_err-more_ports.ensures.stops (ap Err (passed _ _ c.from_residual-in_err-more_ports.ensures.1 h))) refl

pub returns-in_err-_close-clause-stops : goal.returns-in_err-_close-clause-stops
returns-in_err-_close-clause-stops c = λ h.
    entering ⟫ taking right c.in_ok-_module.ensures.ok refl ⟫ taking right c.in_ok-name.ensures.ok refl ⟫ taking right c.in_ok-_open.ensures.ok refl ⟫ calling right c.in_ok-port.ensures.reads refl ⟫ calling right c.in_ok-more_ports.ensures.reads refl ⟫| halting right c.in_err-_close.ensures.err refl

pub returns-in_err-_header-clause-stops : goal.returns-in_err-_header-clause-stops
returns-in_err-_header-clause-stops c = λ h.
    entering ⟫ taking right c.in_ok-_module.ensures.ok refl ⟫ taking right c.in_ok-name.ensures.ok refl ⟫ taking right c.in_ok-_open.ensures.ok refl ⟫ calling right c.in_ok-port.ensures.reads refl ⟫ calling right c.in_ok-more_ports.ensures.reads refl ⟫ taking right c.in_ok-_close.ensures.ok refl ⟫| halting right c.in_err-_header.ensures.err refl

pub returns-in_err-decls-clause-stops : goal.returns-in_err-decls-clause-stops
returns-in_err-decls-clause-stops c = λ h.
    entering ⟫ taking right c.in_ok-_module.ensures.ok refl ⟫ taking right c.in_ok-name.ensures.ok refl ⟫ taking right c.in_ok-_open.ensures.ok refl ⟫ calling right c.in_ok-port.ensures.reads refl ⟫ calling right c.in_ok-more_ports.ensures.reads refl ⟫ taking right c.in_ok-_close.ensures.ok refl ⟫ taking right c.in_ok-_header.ensures.ok refl ⟫| calling_stops right (c.in_err-decls.ensures.stops (ap Err (passed _ _ c.from_residual-in_err-decls.ensures.1 h))) refl

pub returns-in_err-stmts-clause-stops : goal.returns-in_err-stmts-clause-stops
returns-in_err-stmts-clause-stops c = λ h.
    entering ⟫ taking right c.in_ok-_module.ensures.ok refl ⟫ taking right c.in_ok-name.ensures.ok refl ⟫ taking right c.in_ok-_open.ensures.ok refl ⟫ calling right c.in_ok-port.ensures.reads refl ⟫ calling right c.in_ok-more_ports.ensures.reads refl ⟫ taking right c.in_ok-_close.ensures.ok refl ⟫ taking right c.in_ok-_header.ensures.ok refl ⟫ calling right c.in_ok-decls.ensures.reads refl ⟫| calling_stops right (c.in_err-stmts.ensures.stops (ap Err (passed _ _ c.from_residual-in_err-stmts.ensures.1 h))) refl

pub returns-in_err-_end-clause-stops : goal.returns-in_err-_end-clause-stops
returns-in_err-_end-clause-stops c = λ h.
    entering ⟫ taking right c.in_ok-_module.ensures.ok refl ⟫ taking right c.in_ok-name.ensures.ok refl ⟫ taking right c.in_ok-_open.ensures.ok refl ⟫ calling right c.in_ok-port.ensures.reads refl ⟫ calling right c.in_ok-more_ports.ensures.reads refl ⟫ taking right c.in_ok-_close.ensures.ok refl ⟫ taking right c.in_ok-_header.ensures.ok refl ⟫ calling right c.in_ok-decls.ensures.reads refl ⟫ calling right c.in_ok-stmts.ensures.reads refl ⟫| halting right c.in_err-_end.ensures.err refl

pub returns-clause-reads : goal.returns-clause-reads
returns-clause-reads c =
    entering ⟫ taking right c.in_ok-_module.ensures.ok refl ⟫ taking right c.in_ok-name.ensures.ok refl ⟫ taking right c.in_ok-_open.ensures.ok refl ⟫ calling right c.in_ok-port.ensures.reads refl ⟫ calling right c.in_ok-more_ports.ensures.reads refl ⟫ taking right c.in_ok-_close.ensures.ok refl ⟫ taking right c.in_ok-_header.ensures.ok refl ⟫ calling right c.in_ok-decls.ensures.reads refl ⟫ calling right c.in_ok-stmts.ensures.reads refl ⟫ taking right c.in_ok-_end.ensures.ok refl

pub returns-clause-tree : goal.returns-clause-tree
returns-clause-tree c = λ last. module_read _ c.in_ok-name.name.text.now c.in_ok-name.name.place.0 c.in_ok-port.port c.in_ok-port.place c.more_ports.new.declared.items refl (omega (arith, c.count-size.ensures, c.count.ensures)) c.in_ok-_module.ensures.ok c.in_ok-name.ensures.ok c.in_ok-_open.ensures.ok c.in_ok-port.ensures.tree
    (ports_to c.push.new.self.items (c.in_ok-port.port ∷ []) c.more_ports.new.ports.items c.push-2.new.self.items (c.in_ok-port.place ∷ []) c.more_ports.new.declared.items (c.in_ok-push.ensures.items ∙ ap (λ z. z ++ c.in_ok-port.port ∷ []) c.new-ports.ensures.items)
    (c.in_ok-push-2.ensures.items ∙ ap (λ z. z ++ c.in_ok-port.place ∷ []) c.new-declared.ensures.items) c.in_ok-more_ports.ensures.tree) c.in_ok-_close.ensures.ok c.in_ok-_header.ensures.ok
    c.in_ok-decls.ensures.tree (statements_to c.in_ok-stmts.stmts.items c.new-events.result.items [] c.statements.new.events.items c.new-events.ensures.items c.in_ok-stmts.ensures.tree) c.in_ok-_end.ensures.ok refl refl refl refl refl last
