use Rattle.std.proofs.Common.{◌≡◌, ◌∙◌, ℕ, List, Some, bytes_eq, cond, is_some, subst}
use Rattle.c_header.specs.Repeats.{seen_in}
use Rattle.c_header.proofs.Counted.{seen_next}
use Rattle.c_header.proofs.repeats.Seen.of.Goals as goal

pub loop-name-preserved : goal.loop-name-preserved
loop-name-preserved c =
    let name = c.name-item.result in
    let old = c.loop-name.seen in
    let new = c.add.new.self in
    let added = subst (λ n. (other : List ℕ) → seen_in new other ≡ cond (bytes_eq n other) (Some (is_some (seen_in old n))) (seen_in old other)) (c.deref.ensures.value ∙ c.name.view_is) c.in_ok-add.ensures in
    seen_next c.args.names.now c.loop-name.name-index name old new c.loop-name-test.true c.name-item.is c.loop-name.invariant added
