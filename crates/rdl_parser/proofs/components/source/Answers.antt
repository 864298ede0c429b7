use Rattle.std.proofs.Common.{[], ◌∷◌, ap, Err, append-nil, append_assoc}
use Rattle.rb_grammar.proofs.Steps.{passed}
use Rattle.rdl_tree.specs.Tree as tree
use Rattle.rdl_parser.proofs.Sources.{leads_on, leads_more, leads_stop}
use Rattle.rdl_parser.proofs.components.source.Goals as goal

pub more-init : goal.more-init
more-init c = record {
  tree = λ us is d. rw c.room-items.ensures d;
  leads = leads_on _;
}

pub returns-in_err-add_item-clause-stops : goal.returns-in_err-add_item-clause-stops
returns-in_err-add_item-clause-stops c = λ h. leads_stop c.more.invariant.leads c.more-test.ensures (c.in_err-add_item.ensures.stops (ap Err (passed _ _ c.from_residual.ensures.1 h)))

pub more-preserved : goal.more-preserved
more-preserved c = let a = c.in_ok-add_item.ensures.tree in record {
  tree = λ us is d. rw (a.list, append_assoc) (c.more.invariant.tree us (a.one ∷ is) (tree.next_item a.derives d));
  leads = leads_more c.more.invariant.leads c.more-test.ensures c.in_ok-add_item.ensures.reads;
}

pub returns-clause-tree : goal.returns-clause-tree
returns-clause-tree c = rw c.into_bump_slice.ensures (rw append-nil at (c.more.invariant.tree _ [] tree.no_item))

pub returns-clause-whole : goal.returns-clause-whole
returns-clause-whole c = c.more-test.ensures
