-- The point where the words reach the middle cuts them.
use Rattle.std.proofs.Common.{ltb, rules}
use Rattle.std.proofs.lemmas.List.Sorted.{IsPartitionPoint-from_clause}
use Rattle.gen_decode.proofs.Cutting.{parted, cut_at}
use Rattle.gen_decode.proofs.words.halves.Goals as goal

pub returns : goal.returns
returns c =
    let point = IsPartitionPoint-from_clause (λ w. ltb w c.args.middle) c.args.words.now c.partition_point.result c.partition_point.ensures.partitioned
    (parted c.args.words.now c.args.middle c.requires) (λ a r q k. search rules) in
    cut_at c.args.words.now c.split_at.result.0.now c.split_at.result.1.now c.args.middle c.partition_point.result c.requires c.partition_point.ensures.bound point c.split_at.ensures.front c.split_at.ensures.back
