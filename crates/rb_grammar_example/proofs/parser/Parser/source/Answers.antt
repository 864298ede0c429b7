use Rattle.std.proofs.Common.{[], ◌∷◌, refl, ap, sym, Err, append-nil, append_assoc}
use Rattle.rb_grammar.proofs.Following.{◌⟫◌, ◌⟫|◌}
use Rattle.rb_grammar.proofs.Barring.{Here, Without}
use Rattle.rb_grammar.proofs.Steps.{entering, opening, calling, calling_stops, passed}
use Rattle.rb_grammar_example.specs.declared.token.Terminal.TheVariants.{Name}
use Rattle.rb_grammar_example.specs.Tree.{no_entry, one_more}
use Rattle.rb_grammar_example.proofs.Firsts.{right}
use Rattle.rb_grammar_example.proofs.parser.Parser.source.Goals as goal

pub more-init : goal.more-init
more-init c = record {
  tree = λ us es d. rw c.new-entries.ensures.items d;
  reads = entering;
}

pub returns-in_err-entry-clause-stops : goal.returns-in_err-entry-clause-stops
returns-in_err-entry-clause-stops c = λ h.
    c.more.invariant.reads ⟫ opening right (Here Name) refl (sym c.more-test.ensures) ⟫| calling_stops right (c.in_err-entry.ensures.stops (ap Err (passed _ _ c.from_residual.ensures.1 h))) refl

pub more-preserved : goal.more-preserved
more-preserved c = record {
  tree = λ us es d. rw (c.in_ok-push.ensures.items, append_assoc) (c.more.invariant.tree us (c.in_ok-entry.entry ∷ es) (one_more c.in_ok-entry.ensures.tree d));
  reads = c.more.invariant.reads ⟫ opening right (Here Name) refl (sym c.more-test.ensures) ⟫ calling right c.in_ok-entry.ensures.reads refl;
}

pub returns-clause-tree : goal.returns-clause-tree
returns-clause-tree c = rw c.into_bump_slice.ensures (rw append-nil at (c.more.invariant.tree _ [] no_entry))

pub returns-clause-reads : goal.returns-clause-reads
returns-clause-reads c = c.more.invariant.reads ⟫ opening right (Without (Name ∷ [])) refl (sym c.more-test.ensures, tt)
