use Rattle.std.proofs.Common.{subst}
use Rattle.block_plan.specs.Wanted.{Adds}
use Rattle.block_plan.proofs.Needing.{both_added}
use Rattle.block_plan.proofs.adding.want_hardware.Goals as goal

pub returns : goal.returns
returns c =
    let w0 = c.args.wanted.now in
    let w1 = c.want.new.wanted in
    let w2 = c.want-2.new.wanted in
    let w3 = c.want_count.new.wanted in
    let w4 = c.want_limits.new.wanted in
    let w5 = c.want-3.new.wanted in
    let w6 = c.want-4.new.wanted in
    let w7 = c.want-5.new.wanted in
    let to1 = subst (Adds w0 w1) c.feed_item.ensures c.want.ensures in
    let to2 = both_added w0 w1 w2 _ _ to1 (subst (Adds w1 w2) c.gate_item.ensures c.want-2.ensures) in
    let to3 = both_added w0 w2 w3 _ _ to2 c.want_count.ensures in
    let to4 = both_added w0 w3 w4 _ _ to3 c.want_limits.ensures in
    let to5 = both_added w0 w4 w5 _ _ to4 (subst (Adds w4 w5) c.feed_item-2.ensures c.want-3.ensures) in
    let to6 = both_added w0 w5 w6 _ _ to5 (subst (Adds w5 w6) c.feed_item-3.ensures c.want-4.ensures) in
    both_added w0 w6 w7 _ _ to6 (subst (Adds w6 w7) c.mask_item.ensures c.want-5.ensures)
