use Rattle.std.proofs.Common.{rules}
use Rattle.std.specs.Ordering.{is_lt}
use Rattle.std.proofs.lemmas.Fn.{always_returns_same}
use Rattle.std.proofs.lemmas.List.Sorted.{ranks_by}
use Rattle.rdl_node_lists.specs.Keys.{key_cmp, key_of}
use Rattle.rdl_node_lists.proofs.Sorted.{kept-under, total}
use Rattle.rdl_node_lists.proofs.node_list.NodeList.of.Goals as goal

pub invariant_of-result : goal.invariant_of-result
invariant_of-result c = record {
  ordered = c.in_ok-sort_by.ensures.sorted (λ x y. is_lt (key_cmp (key_of c.args.by x) (key_of c.args.by y))) (ranks_by total (key_of c.args.by)) (always_returns_same _ _ _ (λ a r f k. search rules));
}

pub returns : goal.returns
returns c = λ k.
    kept-under c.args.by c.args.nodes.items c.sort_by.new.self.items
    (c.sort_by.ensures.stable (λ x y. is_lt (key_cmp (key_of c.args.by x) (key_of c.args.by y))) (ranks_by total (key_of c.args.by)) (always_returns_same _ _ _ (λ a r f k. search rules))) k
