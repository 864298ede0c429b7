use Rattle.std.proofs.Common.{◌≡◌, [], length, sym, subst, arith}
use Rattle.rdl_values.specs.Bodies.{scope_at}
use Rattle.rdl_layers.specs.Judged.{anywhere, failures_of}
use Rattle.rdl_layers.specs.Assignments.{default_in}
use Rattle.rdl_assignments.specs.Defaults.{whole}
use Rattle.rdl_assignments.specs.Layers.{IsLayer}
use Rattle.rdl_assignments.specs.Live.{default_set}
use Rattle.rdl_assignments.proofs.Counted.{AreCounted, given_before}
use Rattle.rdl_assignments.proofs.Layered.{default_all, default_sets}
use Rattle.rdl_assignments.proofs.Positioned.{IsPositioned, positioned_none, positioned_passed, positioned_taken}
use Rattle.rdl_assignments.proofs.Thinning.{all_live, all_passed, live_more}
use Rattle.rdl_assignments.proofs.defaults.judge_live_defaults.Goals as goal

pub loop-one-init : goal.loop-one-init
loop-one-init c = λ b shown is thin.
    let start = c.args.failures.now in
    let y = c.in_ok-layer.layer in
    let ps = c.new-positions.result.items in
    all_passed default_set anywhere start b (IsPositioned c.args.body y ps start start b) (positioned_passed c.args.body y ps start start b) [] is thin (positioned_none c.args.body y ps start start b (c.in_ok-layer.ensures anywhere c.args.body start) c.new-positions.ensures.items)

pub loop-one-preserved : goal.loop-one-preserved
loop-one-preserved c = λ b shown.
    let start = c.args.failures.now in
    let y = c.loop-one.layer in
    let z = c.read.new.self in
    let ps = c.loop-one.positions.items in
    let qs = c.fill.new.positions.items in
    let now = c.loop-one.failures in
    let after = c.read.new.failures in
    let o = z.given.ok.0 in
    let n : c.len.result ≡ length z.given.items = omega (arith, o, c.len.ensures) in
    live_more default_set anywhere start b (IsPositioned c.args.body y ps start now b) (IsPositioned c.args.body z qs start after b) c.args.live.now c.loop-one.one-index _ c.loop-one-test.true
    (positioned_passed c.args.body z qs start after b)
    (λ front i k h. positioned_taken c.args.body y z ps qs start now after b front i _ c.len.result k (λ before g. c.in_ok-read.ensures start _ (scope_at b before) shown g) n c.in_ok-fill.ensures h)
    (c.loop-one.invariant b shown)

pub returns-clause-noted : goal.returns-clause-noted
returns-clause-noted c = λ b shown thin.
    let start = c.args.failures.now in
    let y = c.loop-one.layer in
    let r = all_live default_set anywhere start b (IsPositioned c.args.body y c.loop-one.positions.items start c.loop-one.failures b) c.args.live.now c.loop-one.one-index c.loop-one-test.false (c.loop-one.invariant b shown) b.items thin in
    (subst (IsLayer anywhere c.args.body y start c.loop-one.failures) (default_sets b) r.layer).noted

pub returns-clause-given : goal.returns-clause-given
returns-clause-given c = λ b shown thin.
    let start = c.args.failures.now in
    let y = c.loop-one.layer in
    let ps = c.loop-one.positions.items in
    let r = all_live default_set anywhere start b (IsPositioned c.args.body y ps start c.loop-one.failures b) c.args.live.now c.loop-one.one-index c.loop-one-test.false (c.loop-one.invariant b shown) b.items thin in
    let layer = subst (IsLayer anywhere c.args.body y start c.loop-one.failures) (default_sets b) r.layer in
    let counted = subst (λ g. AreCounted (failures_of anywhere) g ps b.items) (sym (default_all b)) r.counted in
    record { seen = λ p l. given_before (failures_of anywhere) (default_in (whole b) b.outer) c.args.body ps y.given.items b.items p counted layer.given }
