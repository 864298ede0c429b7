use Rattle.std.proofs.Common.{[], ◌∷◌, refl, ap, Err, append-nil, append_assoc}
use Rattle.rb_grammar.proofs.Following.{◌⟫◌, ◌⟫|◌}
use Rattle.rb_grammar.proofs.Steps.{staying, taking, missing, calling, calling_stops, halting, passed}
use Rattle.rdl_tree.specs.Tree as tree
use Rattle.rdl_expressions.proofs.Firsts.{right}
use Rattle.rdl_parser.proofs.properties.entries.Goals as goal

pub more-init : goal.more-init
more-init c = record {
  tree = λ us es d. rw c.room-entries.ensures d;
  reads = staying refl;
}

pub returns-in_err-_end-clause-stops : goal.returns-in_err-_end-clause-stops
returns-in_err-_end-clause-stops c = λ h. c.more.invariant.reads ⟫ taking right c.in-Some.ensures refl ⟫| halting right c.in_err-_end.ensures.err refl

pub returns-in-Some-clause-tree : goal.returns-in-Some-clause-tree
returns-in-Some-clause-tree c = record {
  middle = c.more.parser;
  behind = c.mark.new.self;
  close = c.in-Some.field-0;
  end = c.in_ok-_end._end;
  each = rw c.into_bump_slice.ensures (rw append-nil at (c.more.invariant.tree _ [] tree.no_more));
  closes = c.in-Some.ensures;
  ends = c.in_ok-_end.ensures.ok;
}

pub returns-in-Some-clause-reads : goal.returns-in-Some-clause-reads
returns-in-Some-clause-reads c = c.more.invariant.reads ⟫ taking right c.in-Some.ensures refl ⟫ taking right c.in_ok-_end.ensures.ok refl

pub returns-in_err-add_entry-clause-stops : goal.returns-in_err-add_entry-clause-stops
returns-in_err-add_entry-clause-stops c = λ h. c.more.invariant.reads ⟫ missing right c.in_default.ensures refl ⟫| calling_stops right (c.in_err-add_entry.ensures.stops (ap Err (passed _ _ c.from_residual-in_err-add_entry.ensures.1 h))) refl

pub more-preserved : goal.more-preserved
more-preserved c = let a = c.in_ok-add_entry.ensures.tree in record {
  tree = λ us es d. rw (a.list, append_assoc) (c.more.invariant.tree us (a.one ∷ es) (tree.one_more (rw c.in_default.ensures.list at a.derives) d));
  reads = c.more.invariant.reads ⟫ missing right c.in_default.ensures refl ⟫ calling right c.in_ok-add_entry.ensures.reads refl;
}
