use Rattle.std.proofs.Common.{◌∙◌, length, sym, ap, subst}
use Rattle.rdl_tree.specs.declared.node.Elab.{Elab}
use Rattle.rdl_values.specs.Elaboration.{IsClean}
use Rattle.rdl_nodes.specs.Rows.{AreRows}
use Rattle.rdl_members.specs.Covered.{AreTests}
use Rattle.rdl_fields.specs.Touched.{AreTouches, touches}
use Rattle.rdl_field_list.proofs.Tabled.{all-touches}
use Rattle.rdl_field_list.proofs.tables.touched_fields.Goals as goal

pub own_touches-requires : goal.own_touches-requires
own_touches-requires c = ap (λ (e : Elab). e.count) (sym c.requires.elab)

pub any_view-requires-clause-clean : goal.any_view-requires-clause-clean
any_view-requires-clause-clean c = subst IsClean c.requires.elab c.requires.known.clean

pub any_view-requires-clause-rows : goal.any_view-requires-clause-rows
any_view-requires-clause-rows c = subst (λ e. AreRows e c.args.known.rows.now) c.requires.elab c.requires.known.rows_

pub any_view-requires-clause-sized : goal.any_view-requires-clause-sized
any_view-requires-clause-sized c = ap length c.deref.ensures.value ∙ c.in_ok-own.ensures.many

pub returns : goal.returns
returns c =
    let e = c.args.elab.now in
    let own = subst (λ m. AreTouches m e.count c.in_ok-own.own.items) c.requires.elab c.in_ok-own.ensures in
    c.in_ok-over.ensures touches (subst (AreTests e touches) (sym c.deref.ensures.value) (all-touches e (subst IsClean c.requires.elab c.requires.known.clean) c.in_ok-own.own.items own))
