use Rattle.std.proofs.Common.{◌∙◌, [], ◌∷◌, ◌++◌, arith, sym, ap, subst}
use Rattle.rdl_values.specs.Faults.{failures}
use Rattle.rdl_values.specs.Seen.{val_of}
use Rattle.rdl_failures.specs.Noted.{with_all}
use Rattle.rdl_values.specs.Kept.{AreDefaultsOf}
use Rattle.rdl_values.specs.Overlaid.{plain_of}
use Rattle.rdl_values.proofs.Walking.{apart_front, front_free, walked_on}
use Rattle.rdl_uses.specs.Arguments.{AreArguments, ArePlain}
use Rattle.rdl_uses.proofs.BoundValues.{none_put}
use Rattle.rdl_uses.proofs.Dueness.{due_on, due_put, untouched_between}
use Rattle.rdl_uses.proofs.Touching.{fails_here, not_bound, walked_past}
use Rattle.rdl_uses.proofs.binding.bind_front.Goals as goal

pub returns-in-None : goal.returns-in-None
returns-in-None c = λ u k e site.
    let ps = c.args.params.now in
    let p = c.param_at-param.result.now in
    let at = c.in-Some.at in
    let here = c.param_at-param.ensures in
    let in_front = c.in-Some.ensures.within in
    let b = c.loop-at.invariant.walked u k e site in
    let are = subst (λ qs. AreArguments c.args.arguments.now qs u.args) e site.arguments in
    let kept = subst (λ d. AreDefaultsOf d ps) (sym c.deref.ensures) c.requires.kept in
    let apart = apart_front (plain_of ps) at c.args.upto (omega (arith, in_front)) c.requires.apart in
    let plain = c.in-Some.ensures.next ps u.args are kept.0 c.requires.apart in
    let w = walked_on u k.scope ps c.loop-at.from at b.1 apart in_front.0 (omega (arith, in_front, c.requires.within)) (untouched_between u.args ps b.1 c.loop-at.due c.loop-at.from at b.4 plain) b.3 in
    let free = front_free ps c.args.upto at p c.requires.apart in_front.1 here in
    let over = c.see.ensures (plain_of ps) b.0 b.1 b.2 apart in
    let is = c.in_ok-outcome.ensures u k (plain_of ps) at b.1 site over (not_bound u k.scope ps at b.1 w p here free) in
    let failed = fails_here u k.scope ps at b.1 w p here free c.in_ok-outcome.outcome is (sym c.in-None.is ∙ c.in_ok-value.ensures.value) in
    let put = c.in_ok-value.ensures.noted ∙ ap (λ x. with_all (failures x) c.loop-at.failures) failed.1 ∙ ap (with_all (failed.0 ∷ [])) c.loop-at.invariant.clean in
    (failed.0, failed.2, put)

pub loop-at-preserved : goal.loop-at-preserved
loop-at-preserved c = record {
  clean = none_put c.in_ok-outcome.outcome c.in-Some-2.value c.loop-at.failures c.value_of.new.self (sym c.in-Some-2.is ∙ c.in_ok-value.ensures.value) c.in_ok-value.ensures.noted ∙ c.loop-at.invariant.clean;
  within = let in_front = c.in-Some.ensures.within in omega (arith, in_front);
  walked = λ u k e site.
      let ps = c.args.params.now in
      let p = c.param_at-param.result.now in
      let v = c.in-Some-2.value in
      let at = c.in-Some.at in
      let here = c.param_at-param.ensures in
      let in_front = c.in-Some.ensures.within in
      let b = c.loop-at.invariant.walked u k e site in
      let are = subst (λ qs. AreArguments c.args.arguments.now qs u.args) e site.arguments in
      let kept = subst (λ d. AreDefaultsOf d ps) (sym c.deref.ensures) c.requires.kept in
      let behind = subst (λ d. AreDefaultsOf d ps) (sym c.deref-in-Some-2.ensures) c.requires.kept in
      let apart = apart_front (plain_of ps) at c.args.upto (omega (arith, in_front)) c.requires.apart in
      let plain = c.in-Some.ensures.next ps u.args are kept.0 c.requires.apart in
      let w = walked_on u k.scope ps c.loop-at.from at b.1 apart in_front.0 (omega (arith, in_front, c.requires.within)) (untouched_between u.args ps b.1 c.loop-at.due c.loop-at.from at b.4 plain) b.3 in
      let free = front_free ps c.args.upto at p c.requires.apart in_front.1 here in
      let over = c.see.ensures (plain_of ps) b.0 b.1 b.2 apart in
      let is = c.in_ok-outcome.ensures u k (plain_of ps) at b.1 site over (not_bound u k.scope ps at b.1 w p here free) in
      let past = walked_past u k.scope ps at b.1 w p here free c.in_ok-outcome.outcome is v (sym c.in-Some-2.is ∙ c.in_ok-value.ensures.value) in
      let due = due_put ps c.args.upto at p c.requires.apart in_front.1 here b.1 (val_of v) (w.names p.name.text.now free) c.loop-at.due c.put_readers.new.due (c.in_ok-put_readers-in-Some-2.ensures ps behind) (due_on ps b.1 c.loop-at.due c.loop-at.from at in_front.0 b.4) in
      (at, b.1 ++ ((p.name.text.now, val_of v) ∷ []), c.in_ok-put-in-Some-2.ensures (plain_of ps) at b.1 over, past, due);
}

pub returns : goal.returns
returns c = λ u k e site.
    let ps = c.args.params.now in
    let b = c.loop-at.invariant.walked u k e site in
    let are = subst (λ qs. AreArguments c.args.arguments.now qs u.args) e site.arguments in
    let kept = subst (λ d. AreDefaultsOf d ps) (sym c.deref.ensures) c.requires.kept in
    let rest : ArePlain u.args ps c.loop-at.due c.loop-at.from c.args.upto = c.in_default.ensures.next ps u.args are kept.0 c.requires.apart in
    (b.0, b.1, b.2, walked_on u k.scope ps c.loop-at.from c.args.upto b.1 c.requires.apart c.loop-at.invariant.within c.requires.within (untouched_between u.args ps b.1 c.loop-at.due c.loop-at.from c.args.upto b.4 rest) b.3, c.loop-at.invariant.clean)
