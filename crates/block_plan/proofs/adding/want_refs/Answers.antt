use Rattle.std.proofs.Common.{◌∙◌, [], ◌∷◌, inl, inr, ap, subst}
use Rattle.rb_model.specs.declared.kinds.RefItem.TheVariants as item
use Rattle.rb_model.specs.References.{count_refs}
use Rattle.block_plan.specs.Wanted.{Adds}
use Rattle.block_plan.proofs.Needing.{both_added, count_at}
use Rattle.block_plan.proofs.adding.want_refs.Goals as goal

pub returns-in-IncrThreshold : goal.returns-in-IncrThreshold
returns-in-IncrThreshold c =
    let w1 = c.want-in-IncrThreshold.new.wanted in
    let w2 = c.want-in-IncrThreshold-2.new.wanted in
    rw c.in-IncrThreshold.is (both_added c.args.wanted.now w1 w2 (item.Field c.in-IncrThreshold.number ∷ []) _ c.want-in-IncrThreshold.ensures (subst (Adds w1 w2) c.threshold_item.ensures c.want-in-IncrThreshold-2.ensures))

pub returns-in-DecrThreshold : goal.returns-in-DecrThreshold
returns-in-DecrThreshold c =
    let w1 = c.want-in-DecrThreshold.new.wanted in
    let w2 = c.want-in-DecrThreshold-2.new.wanted in
    rw c.in-DecrThreshold.is (both_added c.args.wanted.now w1 w2 (item.Field c.in-DecrThreshold.number ∷ []) _ c.want-in-DecrThreshold.ensures (subst (Adds w1 w2) c.threshold_item-in-DecrThreshold.ensures c.want-in-DecrThreshold-2.ensures))

pub returns-in-Overflow : goal.returns-in-Overflow
returns-in-Overflow c =
    let b = c.args.block.now in
    let w0 = c.args.wanted.now in
    let w1 = c.want_count.new.wanted in
    let h = subst (Adds w0 w1) (ap count_refs c.count_of.ensures ∙ count_at b c.in-Overflow.number) c.want_count.ensures in
    elim c.in-Overflow.is [
      | inl e ↦ rw e h
      | inr e ↦ rw e h
    ]
