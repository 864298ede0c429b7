use Rattle.std.proofs.Common.{◌≡◌, ◌-◌, ◌<◌, length, suc, sym, subst, ap, drop, arith}
use Rattle.rdl_tree.specs.declared.node.Node.{out-Node}
use Rattle.rdl_values.specs.Instances.{children}
use Rattle.rdl_values.specs.Lineages.{child_of}
use Rattle.rdl_sizes.specs.Bodies.{IsGathered, runs}
use Rattle.rdl_sizes.specs.Levels.{access_at, groups_at, size_at}
use Rattle.rdl_sizes.specs.Lots.{AreLotsOf}
use Rattle.rdl_sizes.proofs.Turns.{none-yet, turn-read, whole-body}
use Rattle.rdl_sizes.proofs.gathering.lots_of.Goals as goal

pub loop-at-init : goal.loop-at-init
loop-at-init c = record {
  few = (let k = ap (λ r. r.count) c.none-run.ensures in omega (arith, k));
  wide = (λ k d l. let e = c.new-lots.ensures.len in absurd (omega (arith, l, e)));
  gathered = λ e n body shown known. none-yet e c.args.node.now n body (λ x. size_at (child_of n x)) (λ x. access_at (child_of n x)) c.none-run.result c.new-lots.result.items c.none-run.ensures c.new-lots.ensures.items;
}

pub loop-at-preserved : goal.loop-at-preserved
loop-at-preserved c = record {
  few = (let k = c.in_ok-run.ensures.few in let b = c.loop-at.invariant.few in omega (arith, k, b, c.loop-at-test.true));
  wide = c.in_ok-run.ensures.wide c.loop-at.invariant.wide;
  gathered = λ e n body shown known.
      let i = c.loop-at.at - 1 in
      let next : c.loop-at.at ≡ suc i = omega (arith, c.loop-at-test.true) in
      let low : i < length (out-Node c.args.node.now).children.now = omega (arith, c.loop-at-test.true, c.loop-at.auto.at) in
      let before : IsGathered (λ x. size_at (child_of n x)) (λ x. access_at (child_of n x)) c.loop-at.run c.loop-at.lots.items (runs (drop (suc i) (children n.node))) =
      subst (λ k. IsGathered (λ x. size_at (child_of n x)) (λ x. access_at (child_of n x)) c.loop-at.run c.loop-at.lots.items (runs (drop k (children n.node)))) next (c.loop-at.invariant.gathered e n body shown known) in
      turn-read e c.args.node.now n body c.args.measures.now known c.args.visible.now shown i c.index-children-at.result low c.index-children-at.is c.requires.within _ c.loop-at.run c.in_ok-run.run' c.loop-at.lots.items c.gather.new.lots.items c.in_ok-run.ensures.gathered before;
}

pub returns-clause-groups : goal.returns-clause-groups
returns-clause-groups c = λ e n body shown known.
    let zero : c.loop-at.at ≡ 0 = omega (arith, c.loop-at-test.false) in
    let h : IsGathered (λ x. size_at (child_of n x)) (λ x. access_at (child_of n x)) c.loop-at.run c.loop-at.lots.items (runs (children n.node)) =
    subst (λ k. IsGathered (λ x. size_at (child_of n x)) (λ x. access_at (child_of n x)) c.loop-at.run c.loop-at.lots.items (runs (drop k (children n.node)))) zero (c.loop-at.invariant.gathered e n body shown known) in
    subst (λ l. AreLotsOf l (groups_at n)) (sym c.reverse.ensures.items) (whole-body e c.args.node.now n body c.args.measures.now known c.loop-at.run c.loop-at.lots.items h)
