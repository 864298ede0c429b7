use Rattle.std.proofs.Common.{◌∙◌, ap, slice_get, subst, sym}
use Rattle.std.specs.List.{list_any}
use Rattle.rdl_tree.specs.declared.node.Node.{out-Node}
use Rattle.rdl_values.specs.Lineages.{lineages_of}
use Rattle.rdl_targets.specs.At.{IsAt}
use Rattle.rdl_open_bodies.specs.declared.spots.Spot.{Spot}
use Rattle.rdl_open_settings.specs.Layered.{layers_at}
use Rattle.rdl_settle.specs.Gathered.{has_dynamics}
use Rattle.rdl_settle.proofs.Assigning.{no_spot, to_all, to_more, to_none}
use Rattle.rdl_settle.proofs.Quiet.{none_assigned}
use Rattle.rdl_settle.proofs.above.assign_all.Goals as goal

pub loop-at-init : goal.loop-at-init
loop-at-init c = to_none c.args.rows.now c.args.tree.now c.args.layers.now c.args.failures.now c.in_ok-entries.entries.items c.in_ok-entries.ensures.size c.in_ok-entries.ensures.none

pub returns-in_default : goal.returns-in_default
returns-in_default c = λ e before held clean rows open_ layered. absurd (no_spot e c.args.rows.now c.args.tree.now c.loop-at.at c.index-rows-at.result c.loop-at-test.true rows open_ (ap (λ os. slice_get os c.loop-at.at) (sym c.deref-in-loop-at.ensures.value) ∙ sym c.spot_at.ensures ∙ c.in_default.is))

pub loop-at-preserved : goal.loop-at-preserved
loop-at-preserved c =
    to_more c.args.rows.now c.args.tree.now c.args.layers.now c.args.failures.now c.loop-at.at c.index-rows-at.result c.in-Some.spot c.loop-at.entries.items c.assign.new.entries.items c.loop-at.failures c.assign.new.failures c.loop-at-test.true (ap (λ os. slice_get os c.loop-at.at) (sym c.deref-in-loop-at.ensures.value) ∙ sym c.spot_at.ensures ∙ c.in-Some.is) c.loop-at.invariant
    (λ e n held rows known has at spot. c.in_ok-assign.ensures e n held rows (c.in_ok-contents.ensures e rows) known has (subst (λ y. IsAt (lineages_of e) (out-Node y.node.now).id n) (sym c.index-rows-at.is) at) spot)

pub returns : goal.returns
returns c = to_all c.args.rows.now c.args.tree.now c.args.layers.now c.args.failures.now c.loop-at.at c.loop-at.entries.items c.loop-at.failures c.loop-at-test.false c.loop-at.invariant

pub returns-then-not-any_assigns_below : goal.returns-then-not-any_assigns_below
returns-then-not-any_assigns_below c = λ e before held clean rows open_ layered.
    none_assigned e c.args.rows.now c.args.tree.now c.args.layers.now c.in_ok-entries.entries.items c.args.failures.now before held
    (ap (list_any (λ (o : Spot). has_dynamics (layers_at c.args.layers.now o.body))) (sym c.deref.ensures.value) ∙ sym c.any_assigns_below.ensures ∙ c.if-not-any_assigns_below.true)
    c.in_ok-entries.ensures.size c.in_ok-entries.ensures.none clean rows open_ layered
