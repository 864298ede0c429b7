use Rattle.std.proofs.Common.{[], ◌∷◌, refl, ap, arith, Err, append-nil, append_assoc}
use Rattle.rb_grammar.proofs.Following.{◌⟫◌, ◌⟫|◌}
use Rattle.rb_grammar.proofs.Steps.{entering, taking, missing, calling, calling_stops, halting, passed}
use Rattle.rdl_tree.specs.Tree as tree
use Rattle.rdl_expressions.specs.Following.{more_steps, item_of, ClosesIndex}
use Rattle.rdl_expressions.proofs.Firsts.{right}
use Rattle.rb_grammar.proofs.Factoring.{reading, reading_stops}
use Rattle.rb_grammar.proofs.Returning.{then_reads, if_ok, in_any_case, no_syntax}
use Rattle.rdl_expressions.proofs.Operators.{operator_step, binary_returns, looser_all, loosen, join}
use Rattle.rdl_expressions.proofs.Phrases.{name_step, index_step, index_more, pick_tree, plain_returns, not_tree, path_start, path_more, path_end, adding, adding_step}
use Rattle.rdl_expressions.proofs.parser.Parser.+expr.Goals as goal

-- expr

pub expr-returns-in_err-test-clause-stops : goal.expr-returns-in_err-test-clause-stops
expr-returns-in_err-test-clause-stops t c = λ h. entering ⟫| calling_stops right (c.in_err-test.ensures.stops (ap Err (passed _ _ c.from_residual.ensures.1 h))) refl

pub expr-returns-in_default-clause-tree : goal.expr-returns-in_default-clause-tree
expr-returns-in_default-clause-tree t c = rw c.in_default.ensures.list (tree.binary c.in_ok-test.ensures.tree)

pub expr-returns-in_default-clause-reads : goal.expr-returns-in_default-clause-reads
expr-returns-in_default-clause-reads t c = entering ⟫ calling right c.in_ok-test.ensures.reads refl ⟫ missing right c.in_default.ensures refl

pub expr-returns-clause-tree : goal.expr-returns-clause-tree
expr-returns-clause-tree t c = c.choice.ensures.tree _ _ _ c.in_ok-test.ensures.tree c.in-Some.ensures refl

pub expr-returns-clause-reads : goal.expr-returns-clause-reads
expr-returns-clause-reads t c = then_reads _ _ (entering ⟫ calling right c.in_ok-test.ensures.reads refl ⟫ taking right c.in-Some.ensures refl) c.choice.ensures.reads

pub expr-returns-clause-stops : goal.expr-returns-clause-stops
expr-returns-clause-stops t c = λ h. entering ⟫ calling right c.in_ok-test.ensures.reads refl ⟫ taking right c.in-Some.ensures refl ⟫| c.choice.ensures.stops h

-- choice

pub choice-returns-in_err-yes-clause-stops : goal.choice-returns-in_err-yes-clause-stops
choice-returns-in_err-yes-clause-stops t c = λ h. calling_stops right (c.in_err-yes.ensures.stops (ap Err (passed _ _ c.from_residual.ensures.1 h))) refl

pub choice-returns-in_err-_colon-clause-stops : goal.choice-returns-in_err-_colon-clause-stops
choice-returns-in_err-_colon-clause-stops t c = λ h. calling right c.in_ok-yes.ensures.reads refl ⟫| halting right c.in_err-_colon.ensures.err refl

pub choice-returns-in_err-no-clause-stops : goal.choice-returns-in_err-no-clause-stops
choice-returns-in_err-no-clause-stops t c = λ h.
    calling right c.in_ok-yes.ensures.reads refl ⟫ taking right c.in_ok-_colon.ensures.ok refl ⟫| calling_stops right (c.in_err-no.ensures.stops (ap Err (passed _ _ c.from_residual-in_err-no.ensures.1 h))) refl

pub choice-returns-clause-tree : goal.choice-returns-clause-tree
choice-returns-clause-tree t c = λ u ts us d i at. if_ok _ (λ e p. pick_tree p at d i c.in_ok-yes.ensures.tree c.in_ok-_colon.ensures.ok c.in_ok-no.ensures.tree) c.pick.ensures.is

pub choice-returns-clause-reads : goal.choice-returns-clause-reads
choice-returns-clause-reads t c = in_any_case _ (calling right c.in_ok-yes.ensures.reads refl ⟫ taking right c.in_ok-_colon.ensures.ok refl ⟫ calling right c.in_ok-no.ensures.reads refl)

pub choice-returns-clause-stops : goal.choice-returns-clause-stops
choice-returns-clause-stops t c = λ h. absurd (no_syntax _ c.pick.ensures.memory h)

-- binary

pub binary-returns-clause-reads : goal.binary-returns-clause-reads
binary-returns-clause-reads t c = binary_returns _ _ _ c.joined.ensures.reads c.joined.ensures.looser

pub binary-returns-clause-stops : goal.binary-returns-clause-stops
binary-returns-clause-stops t c = λ h. entering ⟫| c.joined.ensures.stops h

-- joined

pub joined-returns-in_err-left-clause-stops : goal.joined-returns-in_err-left-clause-stops
joined-returns-in_err-left-clause-stops t c = λ h. calling_stops right (c.in_err-left.ensures.stops (ap Err (passed _ _ c.from_residual.ensures.1 h))) refl

pub joined-more-init : goal.joined-more-init
joined-more-init t c = record {
  tree = (11, c.requires, tree.operand c.in_ok-left.ensures.tree, looser_all 12 _ (omega arith));
  reads = calling right c.in_ok-left.ensures.reads refl;
}

pub joined-returns-in_err-right-clause-stops : goal.joined-returns-in_err-right-clause-stops
joined-returns-in_err-right-clause-stops t c = λ h.
    c.more.invariant.reads ⟫ operator_step c.in-Some.ensures ⟫| c.in_err-right.ensures.stops (ap Err (passed _ _ c.from_residual-in_err-right.ensures.1 h))

pub joined-more-preserved : goal.joined-more-preserved
joined-more-preserved t c = record {
  tree = join _ _ _ _ _ _ _ _ _ _ _ c.more.invariant.tree c.in-Some.ensures c.level.ensures.is c.in_ok-left-2.ensures.is c.in_ok-right.ensures.tree c.in_ok-right.ensures.looser;
  reads = c.more.invariant.reads ⟫ operator_step c.in-Some.ensures ⟫ c.in_ok-right.ensures.reads;
}

pub joined-returns-clause-tree : goal.joined-returns-clause-tree
joined-returns-clause-tree t c = rw c.in_default.ensures.0 (loosen c.more.invariant.tree.1 c.more.invariant.tree.2)

-- prefix

pub prefix-returns-in_default-clause-tree : goal.prefix-returns-in_default-clause-tree
prefix-returns-in_default-clause-tree t c = plain_returns _ _ c.in_default.ensures.list c.primary.ensures.tree

pub prefix-returns-in_default-clause-reads : goal.prefix-returns-in_default-clause-reads
prefix-returns-in_default-clause-reads t c = then_reads _ _ (entering ⟫ missing right c.in_default.ensures refl) c.primary.ensures.reads

pub prefix-returns-in_default-clause-stops : goal.prefix-returns-in_default-clause-stops
prefix-returns-in_default-clause-stops t c = λ h. entering ⟫ missing right c.in_default.ensures refl ⟫| c.primary.ensures.stops h

pub prefix-returns-in_err-operand-clause-stops : goal.prefix-returns-in_err-operand-clause-stops
prefix-returns-in_err-operand-clause-stops t c = λ h.
    entering ⟫ taking right c.in-Some.ensures refl ⟫| calling_stops right (c.in_err-operand.ensures.stops (ap Err (passed _ _ c.from_residual.ensures.1 h))) refl

pub prefix-returns-clause-tree : goal.prefix-returns-clause-tree
prefix-returns-clause-tree t c = not_tree c.in_ok-lodged.ensures.is c.in-Some.ensures c.in_ok-operand.ensures.tree

pub prefix-returns-clause-reads : goal.prefix-returns-clause-reads
prefix-returns-clause-reads t c = entering ⟫ taking right c.in-Some.ensures refl ⟫ calling right c.in_ok-operand.ensures.reads refl

-- primary

pub primary-returns-in-Some-mark-clause-tree : goal.primary-returns-in-Some-mark-clause-tree
primary-returns-in-Some-mark-clause-tree t c = c.bracketed.ensures.tree _ _ (rw c.in_default.ensures.0 at c.in-Some-mark.ensures)

pub primary-returns-in-Some-mark-clause-reads : goal.primary-returns-in-Some-mark-clause-reads
primary-returns-in-Some-mark-clause-reads t c = then_reads _ _ (c.in_default.ensures.1 ⟫ taking right c.in-Some-mark.ensures refl) c.bracketed.ensures.reads

pub primary-returns-in-Some-mark-clause-stops : goal.primary-returns-in-Some-mark-clause-stops
primary-returns-in-Some-mark-clause-stops t c = λ h. c.in_default.ensures.1 ⟫ taking right c.in-Some-mark.ensures refl ⟫| c.bracketed.ensures.stops h

pub primary-returns-in_err-name-clause-stops : goal.primary-returns-in_err-name-clause-stops
primary-returns-in_err-name-clause-stops t c = λ h. c.in_default.ensures.1 ⟫ missing right c.in_default-mark.ensures refl ⟫| halting right c.in_err-name.ensures.err refl

pub primary-returns-clause-tree : goal.primary-returns-clause-tree
primary-returns-clause-tree t c = c.named.ensures.tree _ (rw (← c.in_default.ensures.0, ← c.in_default-mark.ensures.list) c.in_ok-name.ensures.ok)

pub primary-returns-clause-reads : goal.primary-returns-clause-reads
primary-returns-clause-reads t c = then_reads _ _ (c.in_default.ensures.1 ⟫ missing right c.in_default-mark.ensures refl ⟫ name_step c.in_ok-name.ensures.ok.1) c.named.ensures.reads

pub primary-returns-clause-stops : goal.primary-returns-clause-stops
primary-returns-clause-stops t c = λ h. c.in_default.ensures.1 ⟫ missing right c.in_default-mark.ensures refl ⟫ name_step c.in_ok-name.ensures.ok.1 ⟫| c.named.ensures.stops h

-- bracketed

pub bracketed-returns-in_err-inner-clause-stops : goal.bracketed-returns-in_err-inner-clause-stops
bracketed-returns-in_err-inner-clause-stops t c = λ h. calling_stops right (c.in_err-inner.ensures.stops (ap Err (passed _ _ c.from_residual.ensures.1 h))) refl

pub bracketed-returns-in_err-_close-clause-stops : goal.bracketed-returns-in_err-_close-clause-stops
bracketed-returns-in_err-_close-clause-stops t c = λ h. calling right c.in_ok-inner.ensures.reads refl ⟫| halting right c.in_err-_close.ensures.err refl

pub bracketed-returns-clause-tree : goal.bracketed-returns-clause-tree
bracketed-returns-clause-tree t c = λ u ts i. tree.brackets i c.in_ok-inner.ensures.tree c.in_ok-_close.ensures.ok

pub bracketed-returns-clause-reads : goal.bracketed-returns-clause-reads
bracketed-returns-clause-reads t c = calling right c.in_ok-inner.ensures.reads refl ⟫ taking right c.in_ok-_close.ensures.ok refl

-- named

pub named-returns-in_err-entry-clause-stops : goal.named-returns-in_err-entry-clause-stops
named-returns-in_err-entry-clause-stops t c = λ h. taking right c.in-Some.ensures refl ⟫| halting right c.in_err-entry.ensures.err refl

pub named-returns-in-Some-clause-tree : goal.named-returns-in-Some-clause-tree
named-returns-in-Some-clause-tree t c = λ ts n. tree.entry n c.in-Some.ensures c.in_ok-entry.ensures.ok

pub named-returns-in-Some-clause-reads : goal.named-returns-in-Some-clause-reads
named-returns-in-Some-clause-reads t c = taking right c.in-Some.ensures refl ⟫ taking right c.in_ok-entry.ensures.ok.1 refl

pub named-returns-in_err-path-clause-stops : goal.named-returns-in_err-path-clause-stops
named-returns-in_err-path-clause-stops t c = λ h.
    missing right c.in_default.ensures refl ⟫| reading_stops right (item_of ∷ []) (c.in_err-path.ensures.stops (ap Err (passed _ _ c.from_residual-in_err-path.ensures.1 h))) refl

pub named-returns-in_default-mark-clause-tree : goal.named-returns-in_default-mark-clause-tree
named-returns-in_default-mark-clause-tree t c = λ ts n. rw c.in_default-mark.ensures.list (tree.path (c.in_ok-path.ensures.tree ts (rw c.in_default.ensures.list n)))

pub named-returns-in_default-mark-clause-reads : goal.named-returns-in_default-mark-clause-reads
named-returns-in_default-mark-clause-reads t c = missing right c.in_default.ensures refl ⟫ reading right (item_of ∷ []) c.in_ok-path.ensures.reads refl ⟫ missing right c.in_default-mark.ensures refl

pub named-returns-in_err-item-clause-stops : goal.named-returns-in_err-item-clause-stops
named-returns-in_err-item-clause-stops t c = λ h.
    missing right c.in_default.ensures refl ⟫ reading right (item_of ∷ []) c.in_ok-path.ensures.reads refl ⟫ taking right c.in-Some-mark.ensures refl
    ⟫| calling_stops right (c.in_err-item.ensures.stops (ap Err (passed _ _ c.from_residual-in_err-item.ensures.1 h))) refl

pub named-returns-clause-tree : goal.named-returns-clause-tree
named-returns-clause-tree t c = λ ts n. tree.item (c.in_ok-path.ensures.tree ts (rw c.in_default.ensures.list n)) c.in-Some-mark.ensures c.in_ok-item.ensures.tree

pub named-returns-clause-reads : goal.named-returns-clause-reads
named-returns-clause-reads t c =
    missing right c.in_default.ensures refl ⟫ reading right (item_of ∷ []) c.in_ok-path.ensures.reads refl ⟫ taking right c.in-Some-mark.ensures refl ⟫ calling right c.in_ok-item.ensures.reads refl

-- path_from

pub path_from-returns-in_err-add_step-clause-stops : goal.path_from-returns-in_err-add_step-clause-stops
path_from-returns-in_err-add_step-clause-stops t c = λ h. reading_stops right (more_steps ∷ []) (c.in_err-add_step.ensures.stops (ap Err (passed _ _ c.from_residual.ensures.1 h))) refl

pub path_from-more-init : goal.path_from-more-init
path_from-more-init t c = record {
  tree = λ ts us ss p n d e. path_start c.room-steps.ensures c.in_ok-add_step.ensures.tree n d e;
  reads = reading right (more_steps ∷ []) c.in_ok-add_step.ensures.reads refl;
}

pub path_from-returns-in_err-name-clause-stops : goal.path_from-returns-in_err-name-clause-stops
path_from-returns-in_err-name-clause-stops t c = λ h. c.more.invariant.reads ⟫ taking right c.in-Some.ensures refl ⟫ entering ⟫| halting right c.in_err-name.ensures.err refl

pub path_from-returns-in_err-add_step-2-clause-stops : goal.path_from-returns-in_err-add_step-2-clause-stops
path_from-returns-in_err-add_step-2-clause-stops t c = λ h.
    c.more.invariant.reads ⟫ taking right c.in-Some.ensures refl ⟫ entering ⟫ taking right c.in_ok-name.ensures.ok.1 refl
    ⟫| reading_stops right (more_steps ∷ []) (c.in_err-add_step-2.ensures.stops (ap Err (passed _ _ c.from_residual-in_err-add_step-2.ensures.1 h))) refl

pub path_from-more-preserved : goal.path_from-more-preserved
path_from-more-preserved t c = record {
  tree = λ ts us ss p n d e. let m = path_more c.in_ok-add_step-2.ensures.tree c.in-Some.ensures c.in_ok-name.ensures.ok d e in c.more.invariant.tree ts us _ p n m.0 m.1;
  reads = c.more.invariant.reads ⟫ taking right c.in-Some.ensures refl ⟫ entering ⟫ taking right c.in_ok-name.ensures.ok.1 refl ⟫ reading right (more_steps ∷ []) c.in_ok-add_step-2.ensures.reads refl;
}

pub path_from-returns-clause-tree : goal.path_from-returns-clause-tree
path_from-returns-clause-tree t c = λ ts n. c.more.invariant.tree ts _ [] _ n (rw c.in_default.ensures.list tree.no_step) (path_end _ _ c.into_bump_slice.ensures)

pub path_from-returns-clause-reads : goal.path_from-returns-clause-reads
path_from-returns-clause-reads t c = c.more.invariant.reads ⟫ missing right c.in_default.ensures refl

-- add_step

pub add_step-returns-in_err-index-clause-stops : goal.add_step-returns-in_err-index-clause-stops
add_step-returns-in_err-index-clause-stops t c = λ h. c.in_err-index.ensures.stops (ap Err (passed _ _ c.from_residual.ensures.1 h))

pub add_step-returns-clause-tree : goal.add_step-returns-clause-tree
add_step-returns-clause-tree t c = adding_step _ _ _ _ _ c.in_ok-index.ensures.tree c.add.ensures.items

pub add_step-returns-clause-reads : goal.add_step-returns-clause-reads
add_step-returns-clause-reads t c = in_any_case _ c.in_ok-index.ensures.reads

pub add_step-returns-clause-stops : goal.add_step-returns-clause-stops
add_step-returns-clause-stops t c = λ h. absurd (no_syntax _ c.add.ensures.memory h)

-- indices

pub indices-returns-in_err-add_index-clause-stops : goal.indices-returns-in_err-add_index-clause-stops
indices-returns-in_err-add_index-clause-stops t c = λ h.
    c.more.invariant.reads ⟫ index_step c.in-Some.ensures ⟫| reading_stops right _ (c.in_err-add_index.ensures.stops (ap Err (passed _ _ c.from_residual.ensures.1 h))) refl

pub indices-more-preserved : goal.indices-more-preserved
indices-more-preserved t c = let a = c.in_ok-add_index.ensures.tree in record {
  tree = λ us es d. rw (a.list, append_assoc) (c.more.invariant.tree us (a.one ∷ es) (index_more c.in-Some.ensures a.derives d));
  reads = c.more.invariant.reads ⟫ index_step c.in-Some.ensures ⟫ reading right _ c.in_ok-add_index.ensures.reads refl;
}

pub indices-returns-clause-tree : goal.indices-returns-clause-tree
indices-returns-clause-tree t c = rw c.into_bump_slice.ensures (rw append-nil at (c.more.invariant.tree c.mark.new.self [] (rw c.in_default.ensures.list tree.no_index)))

pub indices-returns-clause-reads : goal.indices-returns-clause-reads
indices-returns-clause-reads t c = c.more.invariant.reads ⟫ missing right c.in_default.ensures refl

-- add_index

pub add_index-returns-in_err-at-clause-stops : goal.add_index-returns-in_err-at-clause-stops
add_index-returns-in_err-at-clause-stops t c = λ h. calling_stops right (c.in_err-at.ensures.stops (ap Err (passed _ _ c.from_residual.ensures.1 h))) refl

pub add_index-returns-in_err-_close-clause-stops : goal.add_index-returns-in_err-_close-clause-stops
add_index-returns-in_err-_close-clause-stops t c = λ h. calling right c.in_ok-at.ensures.reads refl ⟫| halting right c.in_err-_close.ensures.err refl

pub add_index-returns-clause-tree : goal.add_index-returns-clause-tree
add_index-returns-clause-tree t c = adding ClosesIndex _ _ _ (record { middle = c.expr.new.self; close = c.in_ok-_close._close; index = c.in_ok-at.ensures.tree; closes = c.in_ok-_close.ensures.ok }) c.add.ensures.items

pub add_index-returns-clause-reads : goal.add_index-returns-clause-reads
add_index-returns-clause-reads t c = in_any_case _ (calling right c.in_ok-at.ensures.reads refl ⟫ taking right c.in_ok-_close.ensures.ok refl)

pub add_index-returns-clause-stops : goal.add_index-returns-clause-stops
add_index-returns-clause-stops t c = λ h. absurd (no_syntax _ c.add.ensures.memory h)
