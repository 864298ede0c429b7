use Rattle.std.proofs.Common.{[], ◌∷◌, refl, ap, Err, append-nil, append_assoc}
use Rattle.rb_grammar.proofs.Following.{◌⟫◌, ◌⟫|◌}
use Rattle.rb_grammar.proofs.Steps.{taking, missing, calling, calling_stops, passed}
use Rattle.rdl_tree.specs.Tree as tree
use Rattle.rdl_expressions.proofs.Firsts.{right}
use Rattle.rdl_parser.proofs.properties.sets.Goals as goal

pub returns-in_default-clause-tree : goal.returns-in_default-clause-tree
returns-in_default-clause-tree c = rw c.no_sets.ensures (rw c.in_default.ensures.list tree.none)

pub returns-in_default-clause-reads : goal.returns-in_default-clause-reads
returns-in_default-clause-reads c = missing right c.in_default.ensures refl

pub more-init : goal.more-init
more-init c = record {
  tree = λ us vs t ss d i. rw c.room-sets.ensures (tree.some c.in-Some.ensures d i);
  reads = taking right c.in-Some.ensures refl;
}

pub returns-in-Some-mark-clause-tree : goal.returns-in-Some-mark-clause-tree
returns-in-Some-mark-clause-tree c = rw c.into_bump_slice.ensures (rw append-nil at (c.more.invariant.tree _ _ _ [] tree.no_more c.in-Some-mark.ensures))

pub returns-in-Some-mark-clause-reads : goal.returns-in-Some-mark-clause-reads
returns-in-Some-mark-clause-reads c = c.more.invariant.reads ⟫ taking right c.in-Some-mark.ensures refl

pub returns-in_err-add_set-clause-stops : goal.returns-in_err-add_set-clause-stops
returns-in_err-add_set-clause-stops c = λ h. c.more.invariant.reads ⟫ missing right c.in_default-mark.ensures refl ⟫| calling_stops right (c.in_err-add_set.ensures.stops (ap Err (passed _ _ c.from_residual.ensures.1 h))) refl

pub more-preserved : goal.more-preserved
more-preserved c = let a = c.in_ok-add_set.ensures.tree in record {
  tree = λ us vs t ss d i. rw (a.list, append_assoc) (c.more.invariant.tree us vs t (a.one ∷ ss) (tree.one_more (rw c.in_default-mark.ensures.list at a.derives) d) i);
  reads = c.more.invariant.reads ⟫ missing right c.in_default-mark.ensures refl ⟫ calling right c.in_ok-add_set.ensures.reads refl;
}
