use Rattle.std.proofs.Common.{[], ◌∷◌, refl, ap, Err, append-nil, append_assoc}
use Rattle.rb_grammar.proofs.Following.{◌⟫◌, ◌⟫|◌}
use Rattle.rb_grammar.proofs.Steps.{entering, taking, missing, calling, calling_stops, passed}
use Rattle.rdl_expressions.proofs.Firsts.{right}
use Rattle.rdl_parser.proofs.Lists.{no_more, more, listed_from}
use Rattle.rdl_parser.proofs.instances.inst_list.Goals as goal

pub returns-in_err-add_inst-clause-stops : goal.returns-in_err-add_inst-clause-stops
returns-in_err-add_inst-clause-stops c = λ h. entering ⟫| calling_stops right (c.in_err-add_inst.ensures.stops (ap Err (passed _ _ c.from_residual.ensures.1 h))) refl

pub more-init : goal.more-init
more-init c = let a = c.in_ok-add_inst.ensures.tree in record {
  tree = λ us xs d. rw (a.list, c.room-list.ensures) (listed_from a.derives d);
  reads = entering ⟫ calling right c.in_ok-add_inst.ensures.reads refl;
}

pub returns-in_err-add_inst-2-clause-stops : goal.returns-in_err-add_inst-2-clause-stops
returns-in_err-add_inst-2-clause-stops c = λ h. c.more.invariant.reads ⟫ taking right c.in-Some.ensures refl ⟫| calling_stops right (c.in_err-add_inst-2.ensures.stops (ap Err (passed _ _ c.from_residual-in_err-add_inst-2.ensures.1 h))) refl

pub more-preserved : goal.more-preserved
more-preserved c = let a = c.in_ok-add_inst-2.ensures.tree in record {
  tree = λ us xs d. rw (a.list, append_assoc) (c.more.invariant.tree us (a.one ∷ xs) (more c.in-Some.ensures a.derives d));
  reads = c.more.invariant.reads ⟫ taking right c.in-Some.ensures refl ⟫ calling right c.in_ok-add_inst-2.ensures.reads refl;
}

pub returns-clause-tree : goal.returns-clause-tree
returns-clause-tree c = rw c.into_bump_slice.ensures (rw append-nil at (c.more.invariant.tree c.mark.new.self [] (rw c.in_default.ensures.list no_more)))

pub returns-clause-reads : goal.returns-clause-reads
returns-clause-reads c = c.more.invariant.reads ⟫ missing right c.in_default.ensures refl
