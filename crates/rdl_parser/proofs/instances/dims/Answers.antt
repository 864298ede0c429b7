use Rattle.std.proofs.Common.{[], ◌∷◌, refl, ap, Err, append-nil, append_assoc}
use Rattle.rb_grammar.proofs.Following.{◌⟫◌, ◌⟫|◌}
use Rattle.rb_grammar.proofs.Steps.{taking, missing, halting, passed}
use Rattle.rdl_tree.specs.Tree as tree
use Rattle.rdl_expressions.proofs.Firsts.{right}
use Rattle.rb_grammar.proofs.Factoring.{reading, reading_stops}
use Rattle.rdl_expressions.proofs.Phrases.{index_step, index_more}
use Rattle.rdl_parser.proofs.instances.dims.Goals as goal

pub returns-in_err-_end-clause-stops : goal.returns-in_err-_end-clause-stops
returns-in_err-_end-clause-stops c = λ h. halting right c.in_err-_end.ensures.err refl

pub more-init : goal.more-init
more-init c = record {
  tree = λ t ts us vs es i d r. rw (c.in_ok-add.ensures.items, c.room-dims.ensures) (tree.next_index i d c.in_ok-_end.ensures.ok r);
  reads = taking right c.in_ok-_end.ensures.ok refl;
}

pub returns-in_err-add_index-clause-stops : goal.returns-in_err-add_index-clause-stops
returns-in_err-add_index-clause-stops c = λ h. c.more.invariant.reads ⟫ index_step c.in-Some.ensures ⟫| reading_stops right _ (c.in_err-add_index.ensures.stops (ap Err (passed _ _ c.from_residual-in_err-add_index.ensures.1 h))) refl

pub more-preserved : goal.more-preserved
more-preserved c = let a = c.in_ok-add_index.ensures.tree in record {
  tree = λ t ts us vs es i d r. rw (a.list, append_assoc) (c.more.invariant.tree t ts us vs (a.one ∷ es) i d (index_more c.in-Some.ensures a.derives r));
  reads = c.more.invariant.reads ⟫ index_step c.in-Some.ensures ⟫ reading right _ c.in_ok-add_index.ensures.reads refl;
}

pub returns-clause-tree : goal.returns-clause-tree
returns-clause-tree c = λ t ts us i d. rw c.into_bump_slice.ensures (rw append-nil at (c.more.invariant.tree t ts us c.mark.new.self [] i d (rw c.in_default.ensures.list tree.no_index)))

pub returns-clause-reads : goal.returns-clause-reads
returns-clause-reads c = c.more.invariant.reads ⟫ missing right c.in_default.ensures refl
