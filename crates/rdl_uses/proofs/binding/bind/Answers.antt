use Rattle.std.proofs.Common.{◌≡◌, ◌≤◌, ◌∙◌, Some, length, slice_get, take, unwrap_or, refl, sym, ap, subst}
use Rattle.rdl_base.specs.declared.rule.Rule.TheVariants as rules
use Rattle.rdl_values.specs.Faults.{at_}
use Rattle.rdl_values.specs.Parameters.{bound_of}
use Rattle.rdl_values.specs.Verdict.{with}
use Rattle.rdl_values.specs.Kept.{AreDefaultsOf, IsTwice}
use Rattle.rdl_values.specs.Overlaid.{AreApart, overlaid, plain_of}
use Rattle.rdl_values.proofs.Walking.{apart_take}
use Rattle.rdl_uses.specs.Binding.{IsFront}
use Rattle.rdl_uses.proofs.BoundValues.{all_noted}
use Rattle.rdl_uses.proofs.Touching.{all_bound, failed_noted, none_bound, twice_bound, twice_within, upto_is}
use Rattle.std.specs.Result.{is_err}
use Rattle.rdl_uses.proofs.binding.bind.Goals as goal

pub bind_front-requires-clause-within : goal.bind_front-requires-clause-within
bind_front-requires-clause-within c =
    let ps = c.args.params.now in
    let kept = (subst (λ d. AreDefaultsOf d ps) (sym c.deref.ensures) c.requires).0 in
    subst (λ k. k ≤ length ps) (sym c.unwrap_or-upto.ensures) (upto_is ps (length ps) c.twice-twice.result refl (c.twice-twice.ensures (plain_of ps) kept)).0

pub bind_front-requires-clause-apart : goal.bind_front-requires-clause-apart
bind_front-requires-clause-apart c =
    let ps = c.args.params.now in
    let kept = (subst (λ d. AreDefaultsOf d ps) (sym c.deref.ensures) c.requires).0 in
    subst (λ k. AreApart (take k (plain_of ps))) (sym c.unwrap_or-upto.ensures) (upto_is ps (length ps) c.twice-twice.result refl (c.twice-twice.ensures (plain_of ps) kept)).1

pub returns-in_default-clause-noted : goal.returns-in_default-clause-noted
returns-in_default-clause-noted c = λ u k e site.
    let front = subst (IsFront u k.scope c.args.params.now c.unwrap_or-upto.result c.args.failures.now c.bind_front.new.failures) c.in_default.is (c.in_ok-front.ensures u k e site) in
    (none_bound u k c.args.params.now e c.unwrap_or-upto.result c.args.failures.now c.bind_front.new.failures front).0

pub returns-in_default-clause-values : goal.returns-in_default-clause-values
returns-in_default-clause-values c = λ u k e site.
    let front = subst (IsFront u k.scope c.args.params.now c.unwrap_or-upto.result c.args.failures.now c.bind_front.new.failures) c.in_default.is (c.in_ok-front.ensures u k e site) in
    (none_bound u k c.args.params.now e c.unwrap_or-upto.result c.args.failures.now c.bind_front.new.failures front).1

pub returns-in_default-twice-clause-noted : goal.returns-in_default-twice-clause-noted
returns-in_default-twice-clause-noted c = λ u k e site.
    let ps = c.args.params.now in
    let front = subst (IsFront u k.scope ps c.unwrap_or-upto.result c.args.failures.now c.bind_front.new.failures) c.in-Some.is (c.in_ok-front.ensures u k e site) in
    let all = c.unwrap_or-upto.ensures ∙ ap (λ o. unwrap_or o (length ps)) c.in_default-twice.is in
    all_noted (bound_of u k) (overlaid (plain_of ps) front.1) c.args.failures.now c.bind_front.new.failures (all_bound u k ps e c.unwrap_or-upto.result c.args.failures.now c.bind_front.new.failures c.in-Some.seen front all) front.4

pub returns-in_default-twice-clause-values : goal.returns-in_default-twice-clause-values
returns-in_default-twice-clause-values c = λ u k e site.
    let ps = c.args.params.now in
    let front = subst (IsFront u k.scope ps c.unwrap_or-upto.result c.args.failures.now c.bind_front.new.failures) c.in-Some.is (c.in_ok-front.ensures u k e site) in
    let all = c.unwrap_or-upto.ensures ∙ ap (λ o. unwrap_or o (length ps)) c.in_default-twice.is in
    let kept = (subst (λ d. AreDefaultsOf d ps) (sym c.deref.ensures) c.requires).0 in
    let apart = apart_take (plain_of ps) (length ps) (c.in_default-twice.ensures (plain_of ps) kept) in
    (front.1, c.see.ensures (plain_of ps) front.0 front.1 front.2 apart, all_bound u k ps e c.unwrap_or-upto.result c.args.failures.now c.bind_front.new.failures c.in-Some.seen front all)

pub param_at-requires : goal.param_at-requires
param_at-requires c =
    let ps = c.args.params.now in
    let kept = (subst (λ d. AreDefaultsOf d ps) (sym c.deref.ensures) c.requires).0 in
    twice_within ps c.in-Some-twice.at (c.in-Some-twice.ensures (plain_of ps) kept)

pub returns-clause-noted : goal.returns-clause-noted
returns-clause-noted c = λ u k e site.
    let ps = c.args.params.now in
    let upto = c.unwrap_or-upto.result in
    let p = c.param_at.result.now in
    let front = subst (IsFront u k.scope ps upto c.args.failures.now c.bind_front.new.failures) c.in-Some.is (c.in_ok-front.ensures u k e site) in
    let kept = (subst (λ d. AreDefaultsOf d ps) (sym c.deref.ensures) c.requires).0 in
    let at = c.unwrap_or-upto.ensures ∙ ap (λ o. unwrap_or o (length ps)) c.in-Some-twice.is in
    let two = subst (IsTwice (plain_of ps)) (sym at) (c.in-Some-twice.ensures (plain_of ps) kept) in
    let here = subst (λ k. slice_get ps k ≡ Some p) (sym at) c.param_at.ensures in
    let bound = twice_bound u k ps e upto c.args.failures.now c.bind_front.new.failures c.in-Some.seen front two p here in
    failed_noted (bound_of u k) (at_ rules.E6 p.name.place) c.args.failures.now c.add.new.self bound (c.in_ok-add.ensures.added ∙ ap (with (at_ rules.E6 p.name.place)) front.4)

pub returns-clause-values : goal.returns-clause-values
returns-clause-values c = λ u k e site.
    let ps = c.args.params.now in
    let upto = c.unwrap_or-upto.result in
    let p = c.param_at.result.now in
    let front = subst (IsFront u k.scope ps upto c.args.failures.now c.bind_front.new.failures) c.in-Some.is (c.in_ok-front.ensures u k e site) in
    let kept = (subst (λ d. AreDefaultsOf d ps) (sym c.deref.ensures) c.requires).0 in
    let at = c.unwrap_or-upto.ensures ∙ ap (λ o. unwrap_or o (length ps)) c.in-Some-twice.is in
    let two = subst (IsTwice (plain_of ps)) (sym at) (c.in-Some-twice.ensures (plain_of ps) kept) in
    let here = subst (λ k. slice_get ps k ≡ Some p) (sym at) c.param_at.ensures in
    ap is_err (twice_bound u k ps e upto c.args.failures.now c.bind_front.new.failures c.in-Some.seen front two p here)
