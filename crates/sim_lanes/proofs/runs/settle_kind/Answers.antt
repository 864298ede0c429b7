use Rattle.std.proofs.Common.{◌≡◌, ℕ, ◌+◌, ◌<◌, ◌≤◌, List, length, take, drop, get_or, ap, sym, subst, ◌∙◌, arith}
use Rattle.std.proofs.lemmas.List.{drop_all, length-take, length-set}
use Rattle.sim_lanes.specs.declared.narrow.NarrowOperation.{NarrowOperation}
use Rattle.sim_lanes.specs.Narrow.{AreBelow, IsBelow, narrow_after, value_at}
use Rattle.sim_lanes.proofs.Settling.{narrow_after-none, narrow_more}
use Rattle.sim_lanes.proofs.Running.{value_of_kind}
use Rattle.sim_lanes.proofs.runs.settle_kind.Goals as goal

-- the operation at an index reads places of the values before it
reads : (first : ℕ) (os : List NarrowOperation) (k : ℕ) (o : NarrowOperation) (vs : List ℕ) → AreBelow first os → o ≡ get_or os k o → k < length os → first + length os ≤ length vs → IsBelow (length (take (first + k) vs)) o
reads first os k o vs below is l sized =
    let long : first + k ≡ length (take (first + k) vs) = omega (arith, length-take (first + k) vs, sized, l) in
    subst (λ n. IsBelow n o) long (subst (IsBelow (first + k)) (sym is) (below.each k o l))

pub value-requires : goal.value-requires
value-requires c =
    reads c.args.first c.args.operations.now c.loop-index.index c.index-operations-index.result c.loop-index.values c.requires.below c.index-operations-index.is c.loop-index-test.true c.loop-index.invariant.sized

pub loop-index-preserved : goal.loop-index-preserved
loop-index-preserved c =
    let o = c.index-operations-index.result in
    let vs = take (c.args.first + c.loop-index.index) c.loop-index.values in
    record {
      sized = omega (arith, length-set c.loop-index.values (c.args.first + c.loop-index.index) c.value.result, c.loop-index.invariant.sized);
      values = λ of. c.loop-index.invariant.values of
          ∙ narrow_more c.args.operations.now o c.args.first c.loop-index.index c.loop-index.values c.value.result c.loop-index-test.true (omega (arith, c.loop-index.invariant.sized, c.loop-index-test.true))
          (ap (value_at vs) (sym c.index-operations-index.is)
          ∙ (value_of_kind vs o c.args.kind (ap (λ p. p.kind) c.index-operations-index.is ∙ of.each c.loop-index.index o c.loop-index-test.true) ∙ sym c.value.ensures));
    }

pub returns : goal.returns
returns c = λ of.
    let os = c.args.operations.now in
    let all : c.loop-index.index ≡ length os = omega arith in
    let values = c.loop-index.values in
    sym (c.loop-index.invariant.values of
    ∙ (ap (λ n. narrow_after (drop n os) (take (c.args.first + n) values)) all
    ∙ (ap (λ xs. narrow_after xs (take (c.args.first + length os) values)) (drop_all (length os) os (omega arith)) ∙ narrow_after-none (take (c.args.first + length os) values))))
