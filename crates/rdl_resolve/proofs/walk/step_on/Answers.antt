use Rattle.std.proofs.Common.{filter, subst}
use Rattle.plain_lemmas.proofs.Results.{if_ok-map as if-ok}
use Rattle.rdl_resolve.specs.Led.{IsLed, is_exactly}
use Rattle.rdl_resolve.proofs.Stepping.{from-one}
use Rattle.rdl_resolve.proofs.walk.step_on.Goals as goal

pub returns-in-Some : goal.returns-in-Some
returns-in-Some c =
    if-ok c.step_to.result _ _ (λ r h e around ls clean are shown led.
    let one = from-one e clean c.in-Some.node ls (subst (λ o. IsLed e o ls) c.in-Some.is led) in
    subst (λ ms. IsLed e r (filter (is_exactly around c.args.step.now) ms)) one.1 (h e around are one.0 shown)) c.step_to.ensures
