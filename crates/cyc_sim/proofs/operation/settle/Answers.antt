use Rattle.std.proofs.Common.{◌≡◌, ℕ, ◌+◌, ◌<◌, true, List, length, take, get_or, ap, sym, ◌∙◌, arith}
use Rattle.std.proofs.lemmas.List.{length-take, length-set}
use Rattle.cyc_sim.specs.declared.operation.Operation.{Operation}
use Rattle.cyc_sim.specs.declared.operation.Operation.TheVariants.{Constant}
use Rattle.cyc_sim.specs.Operations.{is_within, are_within}
use Rattle.cyc_sim.proofs.Settling.{within_at, settled_more, settled_all}
use Rattle.cyc_sim.proofs.operation.settle.Goals as goal

-- the operation at an index reads places of the values before it
reads : (first : ℕ) (os : List Operation) (k : ℕ) (vs : List ℕ) → are_within first os ≡ true → k < length os → length vs ≡ first + length os → is_within (length (take (first + k) vs)) (get_or os k (Constant 0)) ≡ true
reads first os k vs h l sized =
    let long : first + k ≡ length (take (first + k) vs) = omega (arith, length-take (first + k) vs, sized, l) in
    ap (λ n. is_within n (get_or os k (Constant 0))) (sym long) ∙ within_at first os k (Constant 0) h l

pub value-requires : goal.value-requires
value-requires c = reads c.args.first c.args.operations.now c.loop-index.index c.loop-index.values c.requires.within c.loop-index-test.true c.loop-index.invariant.sized

pub loop-index-preserved : goal.loop-index-preserved
loop-index-preserved c = record {
  sized = length-set c.loop-index.values (c.args.first + c.loop-index.index) c.value.result ∙ c.loop-index.invariant.sized;
  values = c.loop-index.invariant.values
      ∙ settled_more c.args.operations.now (Constant 0) c.args.first c.loop-index.index c.loop-index.values c.value.result c.loop-index-test.true (omega (arith, c.loop-index.invariant.sized)) (sym c.value.ensures);
}

pub returns : goal.returns
returns c =
    sym (c.loop-index.invariant.values ∙ settled_all c.args.operations.now c.args.first c.loop-index.index c.loop-index.values (omega arith) (omega arith) c.loop-index.invariant.sized)
