use Rattle.std.proofs.Common.{◌∙◌, Some, ap, arith, slice_get, subst, sym}
use Rattle.rdl_values.specs.Elaborated.{top_name}
use Rattle.rdl_settle.specs.Gathered.{IsCompletedAt}
use Rattle.rdl_settle.proofs.Assigning.{no_spot}
use Rattle.rdl_settle.proofs.Finishing.{cut_all, cut_more, cut_none}
use Rattle.rdl_settle.proofs.completing.complete_all.Goals as goal

pub loop-at-init : goal.loop-at-init
loop-at-init c = cut_none c.args.rows.now c.args.tree.now c.args.layers.now c.args.count c.args.entries.now.items c.args.failures.now (λ e. c.assigned_from_above.ensures (Some (top_name e)) e.source.now)

pub returns-in_default : goal.returns-in_default
returns-in_default c = λ e start before rows scene assigned. absurd (no_spot e c.args.rows.now c.args.tree.now c.loop-at.at c.index-rows-at.result c.loop-at-test.true rows scene.open_ (ap (λ os. slice_get os c.loop-at.at) (sym c.deref.ensures.value) ∙ sym c.spot_at.ensures ∙ c.in_default.is))

pub complete_at-requires : goal.complete_at-requires
complete_at-requires c = let a = c.loop-at.invariant.0 in let b = c.loop-at-test.true in let d = c.requires in omega (arith, a, b, d)

pub loop-at-preserved : goal.loop-at-preserved
loop-at-preserved c =
    cut_more c.args.rows.now c.args.tree.now c.args.layers.now c.args.count c.args.entries.now.items c.args.failures.now c.loop-at.at c.index-rows-at.result c.in-Some.spot c.loop-at.entries.items c.complete_at.new.entries.items c.loop-at.failures c.complete_at.new.failures c.loop-at-test.true (ap (λ os. slice_get os c.loop-at.at) (sym c.deref.ensures.value) ∙ sym c.spot_at.ensures ∙ c.in-Some.is) c.loop-at.invariant
    (subst (λ y. IsCompletedAt c.args.tree.now c.args.layers.now c.args.count y.node.now c.in-Some.spot c.loop-at.at c.loop-at.entries.items c.complete_at.new.entries.items c.loop-at.failures c.complete_at.new.failures) c.index-rows-at.is c.in_ok-complete_at.ensures)

pub returns : goal.returns
returns c = cut_all c.args.rows.now c.args.tree.now c.args.layers.now c.args.count c.args.entries.now.items c.args.failures.now c.loop-at.at c.loop-at.entries.items c.loop-at.failures c.loop-at-test.false c.loop-at.invariant
