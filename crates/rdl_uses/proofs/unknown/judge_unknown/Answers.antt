use Rattle.std.proofs.Common.{◌∙◌, ◌++◌, append-nil, map, flat_map, ap, sym, subst, refl}
use Rattle.std.proofs.lemmas.List.{get_or_default, take_all}
use Rattle.rdl_values.specs.Phase3.{of_use}
use Rattle.rdl_failures.specs.Noted.{with_all}
use Rattle.rdl_uses.specs.Before.{AreEarlier}
use Rattle.rdl_uses.specs.Unknown.{unknown_by, unknown_seens}
use Rattle.rdl_uses.proofs.Unseen.{unseen_more}
use Rattle.rdl_uses.proofs.unknown.judge_unknown.Goals as goal

pub loop-inst-init : goal.loop-inst-init
loop-inst-init c = λ t us at old. record { earlier = subst (AreEarlier c.args.earlier.now) (sym (append-nil us)) old; noted = refl }

pub loop-inst-preserved : goal.loop-inst-preserved
loop-inst-preserved c = λ t us at old.
    unseen_more t us c.args.insts.now c.loop-inst.inst-index c.loop-inst-test.true c.loop-inst.earlier c.push.new.self c.args.failures.now c.loop-inst.failures _ _ _ c.args.place c.has.result _ _ at
    (get_or_default c.args.insts.now c.loop-inst.inst-index _ _ c.loop-inst-test.true) (c.loop-inst.invariant t us at old) c.has.ensures c.in_ok-note.ensures c.in_ok-note-2.ensures c.in_ok-push.ensures

pub returns-clause-earlier : goal.returns-clause-earlier
returns-clause-earlier c = λ t us at old. subst (λ is. AreEarlier c.loop-inst.earlier (us ++ map (unknown_by t) is)) (take_all c.loop-inst.inst-index c.args.insts.now c.loop-inst-test.false) (c.loop-inst.invariant t us at old).earlier

pub returns-clause-noted : goal.returns-clause-noted
returns-clause-noted c = λ t us at old. (c.loop-inst.invariant t us at old).noted ∙ ap (λ is. with_all (flat_map of_use (unknown_seens t us is)) c.args.failures.now) (take_all c.loop-inst.inst-index c.args.insts.now c.loop-inst-test.false)
