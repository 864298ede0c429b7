use Rattle.std.proofs.Common.{[], ◌∷◌, refl, ap, Err, append-nil, append_assoc}
use Rattle.rb_grammar.proofs.Following.{◌⟫◌, ◌⟫|◌}
use Rattle.rb_grammar.proofs.Steps.{entering, taking, missing, calling, calling_stops, halting, passed}
use Rattle.rb_grammar_example.specs.Tree.{number, range, name, list, none, some, close, next}
use Rattle.rb_grammar_example.proofs.Firsts.{right}
use Rattle.rb_grammar_example.proofs.parser.Parser.+value.Goals as goal

-- value

pub value-returns-in_default-number-clause-stops : goal.value-returns-in_default-number-clause-stops
value-returns-in_default-number-clause-stops t c = λ h.
    entering ⟫ taking right c.in-Some.ensures.1 refl ⟫ taking right c.in-Some-eat.ensures refl ⟫| halting right c.in_default-number.ensures refl

pub value-returns-in-Some-eat-clause-tree : goal.value-returns-in-Some-eat-clause-tree
value-returns-in-Some-eat-clause-tree t c = range c.in-Some.ensures c.in-Some-eat.ensures c.in-Some-number.ensures

pub value-returns-in-Some-eat-clause-reads : goal.value-returns-in-Some-eat-clause-reads
value-returns-in-Some-eat-clause-reads t c = entering ⟫ taking right c.in-Some.ensures.1 refl ⟫ taking right c.in-Some-eat.ensures refl ⟫ taking right c.in-Some-number.ensures.1 refl

pub value-returns-in-Some-clause-tree : goal.value-returns-in-Some-clause-tree
value-returns-in-Some-clause-tree t c = rw c.in_default-eat.ensures.list (number c.in-Some.ensures)

pub value-returns-in-Some-clause-reads : goal.value-returns-in-Some-clause-reads
value-returns-in-Some-clause-reads t c = entering ⟫ taking right c.in-Some.ensures.1 refl ⟫ missing right c.in_default-eat.ensures refl

pub value-returns-in-Some-name-clause-tree : goal.value-returns-in-Some-name-clause-tree
value-returns-in-Some-name-clause-tree t c = rw (← c.in_default.ensures.list) (name c.in-Some-name.ensures)

pub value-returns-in-Some-name-clause-reads : goal.value-returns-in-Some-name-clause-reads
value-returns-in-Some-name-clause-reads t c = entering ⟫ missing right c.in_default.ensures refl ⟫ taking right c.in-Some-name.ensures.1 refl

pub value-returns-in_err-values-clause-stops : goal.value-returns-in_err-values-clause-stops
value-returns-in_err-values-clause-stops t c = λ h.
    entering ⟫ missing right c.in_default.ensures refl ⟫ missing right c.in_default-name.ensures refl ⟫| calling_stops right (c.in_err-values.ensures.stops (ap Err (passed _ _ c.from_residual.ensures.1 h))) refl

pub value-returns-clause-tree : goal.value-returns-clause-tree
value-returns-clause-tree t c = rw (← c.in_default.ensures.list, ← c.in_default-name.ensures.list) (list c.in_ok-values.ensures.tree)

pub value-returns-clause-reads : goal.value-returns-clause-reads
value-returns-clause-reads t c = entering ⟫ missing right c.in_default.ensures refl ⟫ missing right c.in_default-name.ensures refl ⟫ calling right c.in_ok-values.ensures.reads refl

-- values

pub values-returns-in_err-_open-clause-stops : goal.values-returns-in_err-_open-clause-stops
values-returns-in_err-_open-clause-stops t c = λ h. entering ⟫| halting right c.in_err-_open.ensures.err refl

pub values-returns-in-Some-clause-tree : goal.values-returns-in-Some-clause-tree
values-returns-in-Some-clause-tree t c = rw (c.into_bump_slice.ensures, c.new-values.ensures.items) (none c.in_ok-_open.ensures.ok c.in-Some.ensures)

pub values-returns-in-Some-clause-reads : goal.values-returns-in-Some-clause-reads
values-returns-in-Some-clause-reads t c = entering ⟫ taking right c.in_ok-_open.ensures.ok refl ⟫ taking right c.in-Some.ensures refl

pub values-returns-in_err-first-clause-stops : goal.values-returns-in_err-first-clause-stops
values-returns-in_err-first-clause-stops t c = λ h.
    entering ⟫ taking right c.in_ok-_open.ensures.ok refl ⟫ missing right c.in_default.ensures refl ⟫| calling_stops right (c.in_err-first.ensures.stops (ap Err (passed _ _ c.from_residual-in_err-first.ensures.1 h))) refl

pub values-more-init : goal.values-more-init
values-more-init t c = record {
  tree = λ us xs d. rw (c.in_ok-push.ensures.items, c.new-values.ensures.items) (some c.in_ok-_open.ensures.ok (rw c.in_default.ensures.list at c.in_ok-first.ensures.tree) d);
  reads = entering ⟫ taking right c.in_ok-_open.ensures.ok refl ⟫ missing right c.in_default.ensures refl ⟫ calling right c.in_ok-first.ensures.reads refl;
}

pub values-returns-in_err-next-clause-stops : goal.values-returns-in_err-next-clause-stops
values-returns-in_err-next-clause-stops t c = λ h.
    c.more.invariant.reads ⟫ taking right c.in-Some-eat.ensures refl ⟫| calling_stops right (c.in_err-next.ensures.stops (ap Err (passed _ _ c.from_residual-in_err-next.ensures.1 h))) refl

pub values-more-preserved : goal.values-more-preserved
values-more-preserved t c = record {
  tree = λ us xs d. rw (c.in_ok-push-2.ensures.items, append_assoc) (c.more.invariant.tree us (c.in_ok-next.next ∷ xs) (next c.in-Some-eat.ensures c.in_ok-next.ensures.tree d));
  reads = c.more.invariant.reads ⟫ taking right c.in-Some-eat.ensures refl ⟫ calling right c.in_ok-next.ensures.reads refl;
}

pub values-returns-in_err-_close-clause-stops : goal.values-returns-in_err-_close-clause-stops
values-returns-in_err-_close-clause-stops t c = λ h. c.more.invariant.reads ⟫ missing right c.in_default-eat.ensures refl ⟫| halting right c.in_err-_close.ensures.err refl

pub values-returns-clause-tree : goal.values-returns-clause-tree
values-returns-clause-tree t c = rw c.into_bump_slice-2.ensures (rw append-nil at (c.more.invariant.tree _ [] (rw c.in_default-eat.ensures.list at (close c.in_ok-_close.ensures.ok))))

pub values-returns-clause-reads : goal.values-returns-clause-reads
values-returns-clause-reads t c = c.more.invariant.reads ⟫ missing right c.in_default-eat.ensures refl ⟫ taking right c.in_ok-_close.ensures.ok refl
