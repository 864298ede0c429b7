use Rattle.std.proofs.Common.{◌∙◌, refl, sym, subst}
use Rattle.std.proofs.lemmas.List.{at_drop_all}
use Rattle.rdl_resolve.specs.Led.{IsLed, further, is_exactly}
use Rattle.rdl_resolve.proofs.Stepping.{further-more}
use Rattle.rdl_resolve.proofs.walk.led_on.Goals as goal

pub loop-step-init : goal.loop-step-init
loop-step-init c = λ e around ls clean are shown led. (ls, led, refl)

pub loop-step-preserved : goal.loop-step-preserved
loop-step-preserved c = λ e around ls clean are shown led.
    let m = c.loop-step.invariant e around ls clean are shown led in
    (_, c.in_ok-found.ensures e around m.0 clean are shown m.1, sym (further-more (is_exactly around) m.0 c.args.steps.now c.loop-step.step-index _ c.loop-step-test.true) ∙ m.2)

pub returns : goal.returns
returns c = λ e around ls clean are shown led.
    let m = c.loop-step.invariant e around ls clean are shown led in
    subst (IsLed e c.loop-step.found) (sym (at_drop_all (further (is_exactly around) m.0) c.args.steps.now c.loop-step.step-index c.loop-step-test.false) ∙ m.2) m.1
