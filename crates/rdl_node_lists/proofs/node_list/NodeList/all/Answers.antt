use Rattle.std.proofs.Common.{◌≡◌, ◌∙◌, ◌-◌, ap, drop, length, rules, subst, sym, take, true, false}
use Rattle.std.specs.List.Sorted.{IsPartitionPoint, IsPartitionedBy, IsSortedByKey}
use Rattle.std.proofs.lemmas.List.Sorted.{IsPartitionPoint-from_clause}
use Rattle.plain_lemmas.proofs.Lists.{take-rest}
use Rattle.rdl_nodes.specs.Keyed.{Key}
use Rattle.rdl_node_lists.specs.Keys.{held_under, key_cmp, key_of, numbers}
use Rattle.rdl_node_lists.proofs.Sorted.{before, first-part, found-part, here, second-part}
use Rattle.rdl_node_lists.proofs.node_list.NodeList.all.Goals as goal

pub returns : goal.returns
returns c =
    let by = c.args.self.now.by in
    let hs = c.as_slice-held.result.now in
    let k : Key = record { body = c.args.body; name = c.args.name.now; index = c.args.index.now } in
    let lo = c.partition_point-from.result in
    let n = c.partition_point-count.result in
    let up : IsSortedByKey (key_of by) key_cmp hs = subst (IsSortedByKey (key_of by) key_cmp) (sym c.as_slice-held.ensures.value) c.args.self.now.ordered in
    let rest : take (length hs - lo) (drop lo hs) ≡ drop lo hs = take-rest hs lo in
    let at = IsPartitionPoint-from_clause (before by k) hs lo c.partition_point-from.ensures.partitioned (first-part by hs up k) (λ a r q h. search rules) in
    let parts = IsPartitionPoint-from_clause (here by k) (take (length hs - lo) (drop lo hs)) n c.partition_point-count.ensures.partitioned
    (subst (IsPartitionedBy (here by k)) (sym rest) (second-part by hs up k lo at)) (λ a r q h. search rules) in
    ap (λ xs. numbers (take n xs)) rest
    ∙ found-part by hs up k lo at n (subst (λ xs. IsPartitionPoint (λ h. here by k h ≡ true) (λ h. here by k h ≡ false) xs n) rest parts)
    ∙ ap (λ xs. held_under by xs k) c.as_slice-held.ensures.value
