use Rattle.std.proofs.Common.{◌∙◌, ◌++◌, append-nil, map, flat_map, ap, sym, subst, refl}
use Rattle.std.proofs.lemmas.List.{get_or_default, take_all}
use Rattle.rdl_values.specs.Phase3.{of_use}
use Rattle.rdl_failures.specs.Noted.{with_all}
use Rattle.rdl_uses.specs.Before.{AreEarlier}
use Rattle.rdl_uses.specs.Given.{given_in, pair_of, seens, use_by}
use Rattle.rdl_uses.proofs.Seens.{one_more}
use Rattle.rdl_uses.proofs.instances.judge_instances.Goals as goal

pub loop-inst-init : goal.loop-inst-init
loop-inst-init c = λ t us ty old. record { earlier = subst (AreEarlier c.args.earlier.now) (sym (append-nil us)) old; noted = refl; given = ap (map pair_of) c.new-list.ensures.items }

pub loop-inst-preserved : goal.loop-inst-preserved
loop-inst-preserved c = λ t us ty old.
    one_more t us c.args.of.now c.args.parent c.args.visible.now c.args.failures.now ty c.args.insts.now c.loop-inst.inst-index c.loop-inst-test.true c.loop-inst.earlier c.push.new.self c.loop-inst.failures c.judge_instance.new.failures c.loop-inst.list.items _ _
    (get_or_default c.args.insts.now c.loop-inst.inst-index _ _ c.loop-inst-test.true) c.in_ok-dims.dims c.is_no_alias.result c.is_single_reg.result (c.loop-inst.invariant t us ty old)
    c.in_ok-dims.ensures.noted c.in_ok-dims.ensures.dims c.is_no_alias.ensures c.is_single_reg.ensures c.in_ok-push.ensures c.in_ok-add.ensures

pub returns-clause-earlier : goal.returns-clause-earlier
returns-clause-earlier c = λ t us ty old. subst (λ is. AreEarlier c.loop-inst.earlier (us ++ map (use_by t) is)) (take_all c.loop-inst.inst-index c.args.insts.now c.loop-inst-test.false) (c.loop-inst.invariant t us ty old).earlier

pub returns-clause-noted : goal.returns-clause-noted
returns-clause-noted c = λ t us ty old. (c.loop-inst.invariant t us ty old).noted ∙ ap (λ is. with_all (flat_map of_use (seens t us is)) c.args.failures.now) (take_all c.loop-inst.inst-index c.args.insts.now c.loop-inst-test.false)

pub returns-clause-given : goal.returns-clause-given
returns-clause-given c = λ t us ty old. (c.loop-inst.invariant t us ty old).given ∙ ap (λ is. flat_map (given_in t) (seens t us is)) (take_all c.loop-inst.inst-index c.args.insts.now c.loop-inst-test.false)
