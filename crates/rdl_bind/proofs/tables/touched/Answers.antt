use Rattle.std.proofs.Common.{◌∙◌, length, sym, ap, subst}
use Rattle.std.proofs.lemmas.Result.{IfOk-weaker}
use Rattle.rdl_members.specs.Covered.{AreTests}
use Rattle.rdl_fields.specs.Touched.{touches}
use Rattle.rdl_bind.proofs.Reading.{as-tests}
use Rattle.rdl_bind.proofs.tables.touched.Goals as goal

pub own_touches-requires : goal.own_touches-requires
own_touches-requires c = ap (λ m. m.count) (sym c.requires.tree)

pub any_view-requires-clause-sized : goal.any_view-requires-clause-sized
any_view-requires-clause-sized c = ap length c.deref.ensures.value ∙ c.in_ok-own.ensures.many

pub returns : goal.returns
returns c =
    IfOk-weaker c.any_view.result _ _ (λ marks h. h touches (subst (AreTests c.args.elab.now touches) (sym c.deref.ensures.value) (as-tests c.args.elab.now c.args.props.now c.requires.tree c.requires.clean c.in_ok-own.own.items c.in_ok-own.ensures))) c.any_view.ensures
