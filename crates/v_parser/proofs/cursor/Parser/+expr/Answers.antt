use Rattle.std.proofs.Common.{refl, ap, Err, [], ◌∷◌, append_assoc, append-nil}
use Rattle.rb_grammar.proofs.Following.{◌⟫◌, ◌⟫|◌}
use Rattle.rb_grammar.proofs.Steps.{entering, taking, missing, calling, calling_stops, halting, passed}
use Rattle.v_parser.proofs.Firsts.{right}
use Rattle.rb_grammar.proofs.Returning.{if_ok, on_ok, then_reads, in_any_case, no_syntax}
use Rattle.v_parser.proofs.Marks.{prefix_step, operand_step, infix_step, plain_step, choice_step}
use Rattle.v_parser.proofs.Terms.{term_prefixed, term_plain, term_joined, term_chosen, operand_stays, operand_named, operand_constant, operand_grouped, operand_braced, parts_begun, rest_more, rest_none}
use Rattle.v_parser.proofs.cursor.Parser.+expr.Goals as goal

pub expr-returns-in_err-of-clause-stops : goal.expr-returns-in_err-of-clause-stops
expr-returns-in_err-of-clause-stops t c = λ h. prefix_step c.in-Some.op c.in-Some.ensures ⟫| calling_stops right (c.in_err-of.ensures.stops (ap Err (passed _ _ c.from_residual.ensures.1 h))) refl

pub expr-returns-in-Some-clause-tree : goal.expr-returns-in-Some-clause-tree
expr-returns-in-Some-clause-tree t c = term_prefixed c.in-Some.op c.in_ok-of.of c.in_ok-new.field-0.value c.in_ok-new.ensures.ok c.in-Some.ensures c.in_ok-of.ensures.tree

pub expr-returns-in-Some-clause-reads : goal.expr-returns-in-Some-clause-reads
expr-returns-in-Some-clause-reads t c = prefix_step c.in-Some.op c.in-Some.ensures ⟫ calling right c.in_ok-of.ensures.reads refl

pub expr-returns-in_err-first-clause-stops : goal.expr-returns-in_err-first-clause-stops
expr-returns-in_err-first-clause-stops t c = λ h. operand_step c.in_default.ensures ⟫| calling_stops right (c.in_err-first.ensures.stops (ap Err (passed _ _ c.from_residual-in_err-first.ensures.1 h))) refl

pub expr-returns-in_err-second-clause-stops : goal.expr-returns-in_err-second-clause-stops
expr-returns-in_err-second-clause-stops t c = λ h. operand_step c.in_default.ensures ⟫ calling right c.in_ok-first.ensures.reads refl ⟫ infix_step c.in-Some-infix.op c.in-Some-infix.ensures ⟫| calling_stops right (c.in_err-second.ensures.stops (ap Err (passed _ _ c.from_residual-in_err-second.ensures.1 h))) refl

pub expr-returns-in-Some-infix-clause-tree : goal.expr-returns-in-Some-infix-clause-tree
expr-returns-in-Some-infix-clause-tree t c = term_joined c.in-Some-infix.op c.in_ok-first.first c.in_ok-second.second c.two.result c.two.ensures.seen c.in_default.ensures.1 c.in_ok-first.ensures.tree c.in-Some-infix.ensures c.in_ok-second.ensures.tree

pub expr-returns-in-Some-infix-clause-reads : goal.expr-returns-in-Some-infix-clause-reads
expr-returns-in-Some-infix-clause-reads t c = in_any_case c.two.result (operand_step c.in_default.ensures ⟫ calling right c.in_ok-first.ensures.reads refl ⟫ infix_step c.in-Some-infix.op c.in-Some-infix.ensures ⟫ calling right c.in_ok-second.ensures.reads refl)

pub expr-returns-in-Some-infix-clause-stops : goal.expr-returns-in-Some-infix-clause-stops
expr-returns-in-Some-infix-clause-stops t c = λ h. absurd (no_syntax c.two.result c.two.ensures.memory h)

pub expr-returns-in_default-eat-clause-tree : goal.expr-returns-in_default-eat-clause-tree
expr-returns-in_default-eat-clause-tree t c = term_plain c.in_ok-first.first c.in_default.ensures.1 c.in_ok-first.ensures.tree c.in_default-infix.ensures.1 c.in_default-eat.ensures.list

pub expr-returns-in_default-eat-clause-reads : goal.expr-returns-in_default-eat-clause-reads
expr-returns-in_default-eat-clause-reads t c = operand_step c.in_default.ensures ⟫ calling right c.in_ok-first.ensures.reads refl ⟫ plain_step c.in_default-infix.ensures c.in_default-eat.ensures

pub expr-returns-clause-tree : goal.expr-returns-clause-tree
expr-returns-clause-tree t c = c.choice.ensures.tree _ _ _ (operand_stays c.in_ok-first.first c.in_default.ensures.1 c.in_ok-first.ensures.tree (c.in_default-infix.ensures.1)) c.in-Some-eat.ensures refl

pub expr-returns-clause-reads : goal.expr-returns-clause-reads
expr-returns-clause-reads t c = then_reads _ c.choice.result (operand_step c.in_default.ensures ⟫ calling right c.in_ok-first.ensures.reads refl ⟫ choice_step c.in_default-infix.ensures c.in-Some-eat.ensures) c.choice.ensures.reads

pub expr-returns-clause-stops : goal.expr-returns-clause-stops
expr-returns-clause-stops t c = λ h. operand_step c.in_default.ensures ⟫ calling right c.in_ok-first.ensures.reads refl ⟫ choice_step c.in_default-infix.ensures c.in-Some-eat.ensures ⟫| c.choice.ensures.stops h

pub choice-returns-in_err-second-clause-stops : goal.choice-returns-in_err-second-clause-stops
choice-returns-in_err-second-clause-stops t c = λ h. calling_stops right (c.in_err-second.ensures.stops (ap Err (passed _ _ c.from_residual.ensures.1 h))) refl

pub choice-returns-in_err-_colon-clause-stops : goal.choice-returns-in_err-_colon-clause-stops
choice-returns-in_err-_colon-clause-stops t c = λ h. calling right c.in_ok-second.ensures.reads refl ⟫| halting right c.in_err-_colon.ensures.err refl

pub choice-returns-in_err-third-clause-stops : goal.choice-returns-in_err-third-clause-stops
choice-returns-in_err-third-clause-stops t c = λ h. calling right c.in_ok-second.ensures.reads refl ⟫ taking right c.in_ok-_colon.ensures.ok refl ⟫| calling_stops right (c.in_err-third.ensures.stops (ap Err (passed _ _ c.from_residual-in_err-third.ensures.1 h))) refl

pub choice-returns-clause-tree : goal.choice-returns-clause-tree
choice-returns-clause-tree t c = λ m ts us a k e. term_chosen c.args.first c.in_ok-second.second c.in_ok-third.third c.pick.result c.pick.ensures.seen a k c.in_ok-second.ensures.tree c.in_ok-_colon.ensures.ok c.in_ok-third.ensures.tree e refl

pub choice-returns-clause-reads : goal.choice-returns-clause-reads
choice-returns-clause-reads t c = in_any_case c.pick.result (calling right c.in_ok-second.ensures.reads refl ⟫ taking right c.in_ok-_colon.ensures.ok refl ⟫ calling right c.in_ok-third.ensures.reads refl)

pub choice-returns-clause-stops : goal.choice-returns-clause-stops
choice-returns-clause-stops t c = λ h. absurd (no_syntax c.pick.result c.pick.ensures.memory h)

pub operand-returns-in-Some-clause-tree : goal.operand-returns-in-Some-clause-tree
operand-returns-in-Some-clause-tree t c = if_ok c.select.result (λ x s. operand_named c.in-Some.name.text.now c.in-Some.name.place.0 x c.in-Some.ensures s) c.select.ensures.tree

pub operand-returns-in-Some-clause-reads : goal.operand-returns-in-Some-clause-reads
operand-returns-in-Some-clause-reads t c = on_ok c.select.result (λ s. entering ⟫ taking right c.in-Some.ensures refl ⟫ s) c.select.ensures.reads

pub operand-returns-in-Some-clause-stops : goal.operand-returns-in-Some-clause-stops
operand-returns-in-Some-clause-stops t c = λ h. entering ⟫ taking right c.in-Some.ensures refl ⟫| c.select.ensures.stops h

pub operand-returns-in-Some-eat_constant-clause-tree : goal.operand-returns-in-Some-eat_constant-clause-tree
operand-returns-in-Some-eat_constant-clause-tree t c = operand_constant c.in-Some-eat_constant.width c.in-Some-eat_constant.value c.in_default.ensures.list c.in-Some-eat_constant.ensures

pub operand-returns-in-Some-eat_constant-clause-reads : goal.operand-returns-in-Some-eat_constant-clause-reads
operand-returns-in-Some-eat_constant-clause-reads t c = entering ⟫ missing right c.in_default.ensures refl ⟫ taking right c.in-Some-eat_constant.ensures.1 refl

pub operand-returns-in_err-first-clause-stops : goal.operand-returns-in_err-first-clause-stops
operand-returns-in_err-first-clause-stops t c = λ h. entering ⟫ missing right c.in_default.ensures refl ⟫ missing right c.in_default-eat_constant.ensures refl ⟫ taking right c.in-Some-eat.ensures refl ⟫| calling_stops right (c.in_err-first.ensures.stops (ap Err (passed _ _ c.from_residual.ensures.1 h))) refl

pub operand-more-init : goal.operand-more-init
operand-more-init t c = record {
  tree = λ us xs d. rw (c.in_ok-push.ensures.items, c.new-parts.ensures.items) (parts_begun c.in_ok-first.first xs c.in_default.ensures.list c.in_default-eat_constant.ensures.list c.in-Some-eat.ensures refl c.in_ok-first.ensures.tree d);
  reads = entering ⟫ missing right c.in_default.ensures refl ⟫ missing right c.in_default-eat_constant.ensures refl ⟫ taking right c.in-Some-eat.ensures refl ⟫ calling right c.in_ok-first.ensures.reads refl;
}

pub operand-returns-in_err-next-clause-stops : goal.operand-returns-in_err-next-clause-stops
operand-returns-in_err-next-clause-stops t c = λ h. c.more.invariant.reads ⟫ taking right c.in-Some-eat-2.ensures refl ⟫| calling_stops right (c.in_err-next.ensures.stops (ap Err (passed _ _ c.from_residual-in_err-next.ensures.1 h))) refl

pub operand-more-preserved : goal.operand-more-preserved
operand-more-preserved t c = record {
  tree = λ us xs d. rw (c.in_ok-push-2.ensures.items, append_assoc) (c.more.invariant.tree us (c.in_ok-next.next ∷ xs) (rest_more c.in_ok-next.next xs c.in-Some-eat-2.ensures refl c.in_ok-next.ensures.tree d));
  reads = c.more.invariant.reads ⟫ taking right c.in-Some-eat-2.ensures refl ⟫ calling right c.in_ok-next.ensures.reads refl;
}

pub operand-returns-in_err-_close-clause-stops : goal.operand-returns-in_err-_close-clause-stops
operand-returns-in_err-_close-clause-stops t c = λ h. c.more.invariant.reads ⟫ missing right c.in_default-eat-2.ensures refl ⟫| halting right c.in_err-_close.ensures.err refl

pub operand-returns-in-Some-eat-clause-tree : goal.operand-returns-in-Some-eat-clause-tree
operand-returns-in-Some-eat-clause-tree t c = operand_braced c.more.parts (rw append-nil at (c.more.invariant.tree _ [] (rest_none _))) c.in_default-eat-2.ensures.list c.in_ok-_close.ensures.ok refl

pub operand-returns-in-Some-eat-clause-reads : goal.operand-returns-in-Some-eat-clause-reads
operand-returns-in-Some-eat-clause-reads t c = c.more.invariant.reads ⟫ missing right c.in_default-eat-2.ensures refl ⟫ taking right c.in_ok-_close.ensures.ok refl

pub operand-returns-in_err-_open-clause-stops : goal.operand-returns-in_err-_open-clause-stops
operand-returns-in_err-_open-clause-stops t c = λ h. entering ⟫ missing right c.in_default.ensures refl ⟫ missing right c.in_default-eat_constant.ensures refl ⟫ missing right c.in_default-eat.ensures refl ⟫| halting right c.in_err-_open.ensures.err refl

pub operand-returns-in_err-inner-clause-stops : goal.operand-returns-in_err-inner-clause-stops
operand-returns-in_err-inner-clause-stops t c = λ h. entering ⟫ missing right c.in_default.ensures refl ⟫ missing right c.in_default-eat_constant.ensures refl ⟫ missing right c.in_default-eat.ensures refl ⟫ taking right c.in_ok-_open.ensures.ok refl ⟫| calling_stops right (c.in_err-inner.ensures.stops (ap Err (passed _ _ c.from_residual-in_err-inner.ensures.1 h))) refl

pub operand-returns-in_err-_close-2-clause-stops : goal.operand-returns-in_err-_close-2-clause-stops
operand-returns-in_err-_close-2-clause-stops t c = λ h. entering ⟫ missing right c.in_default.ensures refl ⟫ missing right c.in_default-eat_constant.ensures refl ⟫ missing right c.in_default-eat.ensures refl ⟫ taking right c.in_ok-_open.ensures.ok refl ⟫ calling right c.in_ok-inner.ensures.reads refl ⟫| halting right c.in_err-_close-2.ensures.err refl

pub operand-returns-clause-tree : goal.operand-returns-clause-tree
operand-returns-clause-tree t c = operand_grouped c.in_ok-inner.inner c.in_default.ensures.list c.in_default-eat_constant.ensures.list c.in_default-eat.ensures.list c.in_ok-_open.ensures.ok c.in_ok-inner.ensures.tree c.in_ok-_close-2.ensures.ok refl refl

pub operand-returns-clause-reads : goal.operand-returns-clause-reads
operand-returns-clause-reads t c = entering ⟫ missing right c.in_default.ensures refl ⟫ missing right c.in_default-eat_constant.ensures refl ⟫ missing right c.in_default-eat.ensures refl ⟫ taking right c.in_ok-_open.ensures.ok refl ⟫ calling right c.in_ok-inner.ensures.reads refl ⟫ taking right c.in_ok-_close-2.ensures.ok refl
