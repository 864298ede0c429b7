use Rattle.std.proofs.Common.{Bool, subst}
use Rattle.std.specs.List.{AllByRecursion}
use Rattle.rdl_assignments.specs.Steady.{IsSteadyNamed}
use Rattle.rdl_assignments.proofs.SteadyEntries.{all_more, all_taken}
use Rattle.rdl_assignments.proofs.varying.some_name.Goals as goal

pub loop-set-preserved : goal.loop-set-preserved
loop-set-preserved c = λ v shown. all_more (IsSteadyNamed c.args.text.now.same_enums v) c.args.sets.now c.loop-set.set-index _ c.loop-set-test.true (c.loop-set.invariant v shown) (c.is_steady_named.ensures c.if-not-is_steady_named.false v shown)

pub returns : goal.returns
returns c = λ q v shown. subst (λ (b : Bool). AllByRecursion (IsSteadyNamed b v) c.args.sets.now) c.requires (all_taken (IsSteadyNamed c.args.text.now.same_enums v) c.args.sets.now c.loop-set.set-index c.loop-set-test.false (c.loop-set.invariant v shown))
