use Rattle.std.proofs.Common.{Bool, [], subst}
use Rattle.rdl_props.specs.Table.{is_legal}
use Rattle.rdl_props.specs.declared.prop.Prop.{Prop}
use Rattle.rdl_values.specs.Bodies.{scope_at}
use Rattle.rdl_assignments.specs.Layers.{IsLayer}
use Rattle.rdl_assignments.specs.Live.{own_set, sets_in}
use Rattle.rdl_assignments.proofs.Layered.{own_sets, taken_layer}
use Rattle.rdl_assignments.proofs.Spent.{passed_layer}
use Rattle.rdl_assignments.proofs.Thinning.{all_live, all_passed, live_more}
use Rattle.rdl_assignments.proofs.locals.judge_live_locals.Goals as goal

pub loop-one-init : goal.loop-one-init
loop-one-init c = λ b shown is thin.
    let legal : Prop → Bool = λ p. is_legal p c.args.kind in
    let start = c.args.failures.now in
    all_passed own_set legal start b (λ js. IsLayer legal c.args.body c.in_ok-layer.layer start start (sets_in own_set b js)) (passed_layer own_set legal c.args.body c.in_ok-layer.layer start start b) [] is thin (c.in_ok-layer.ensures legal c.args.body start)

pub loop-one-preserved : goal.loop-one-preserved
loop-one-preserved c = λ b shown.
    let legal : Prop → Bool = λ p. is_legal p c.args.kind in
    let start = c.args.failures.now in
    let z = c.read.new.self in
    let after = c.read.new.failures in
    live_more own_set legal start b (λ js. IsLayer legal c.args.body c.loop-one.layer start c.loop-one.failures (sets_in own_set b js)) (λ js. IsLayer legal c.args.body z start after (sets_in own_set b js)) c.args.live.now c.loop-one.one-index _ c.loop-one-test.true
    (passed_layer own_set legal c.args.body z start after b)
    (λ front i k h. taken_layer own_set legal c.args.body z start after b front i _ k (c.in_ok-read.ensures start _ (scope_at b front) shown h))
    (c.loop-one.invariant b shown)

pub returns-clause-noted : goal.returns-clause-noted
returns-clause-noted c = λ b shown thin.
    let legal : Prop → Bool = λ p. is_legal p c.args.kind in
    let start = c.args.failures.now in
    (subst (IsLayer legal c.args.body c.loop-one.layer start c.loop-one.failures) (own_sets b) (all_live own_set legal start b (λ js. IsLayer legal c.args.body c.loop-one.layer start c.loop-one.failures (sets_in own_set b js)) c.args.live.now c.loop-one.one-index c.loop-one-test.false (c.loop-one.invariant b shown) b.items thin)).noted

pub returns-clause-given : goal.returns-clause-given
returns-clause-given c = λ b shown thin.
    let legal : Prop → Bool = λ p. is_legal p c.args.kind in
    let start = c.args.failures.now in
    (subst (IsLayer legal c.args.body c.loop-one.layer start c.loop-one.failures) (own_sets b) (all_live own_set legal start b (λ js. IsLayer legal c.args.body c.loop-one.layer start c.loop-one.failures (sets_in own_set b js)) c.args.live.now c.loop-one.one-index c.loop-one-test.false (c.loop-one.invariant b shown) b.items thin)).given
