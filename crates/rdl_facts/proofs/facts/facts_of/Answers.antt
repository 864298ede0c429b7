use Rattle.std.proofs.Common.{◌∙◌, ◌+◌, ap, slice_get, subst, sym}
use Rattle.rdl_values.specs.Elaborated.{Says}
use Rattle.rdl_nodes.specs.declared.table.Row.{Row}
use Rattle.rdl_facts.specs.Told.{IsTold}
use Rattle.rdl_facts.proofs.Listed.{FactsTo, all_to, more_to, no_spot}
use Rattle.rdl_facts.proofs.facts.facts_of.Goals as goal

pub returns-in_default : goal.returns-in_default
returns-in_default c = λ e clean settled rows open_ told.
    absurd (no_spot e c.args.rows.now c.args.tree.now c.loop-at.at c.index-rows-at.result c.loop-at-test.true rows open_ (ap (λ os. slice_get os c.loop-at.at) (sym c.deref.ensures.value) ∙ sym c.spot_at.ensures ∙ c.in_default.is))

pub loop-at-preserved : goal.loop-at-preserved
loop-at-preserved c =
    let t = c.args.tree.now in
    let enums = c.in_ok-enums.enums in
    let spot = c.in-Some.spot in
    subst (FactsTo c.args.rows.now t c.args.entries.now (c.loop-at.at + 1)) (sym c.in_ok-push.ensures.items)
    (more_to c.args.rows.now t enums c.args.entries.now c.loop-at.at c.index-rows-at.result spot c.loop-at.facts.items c.in_ok-fact.fact c.loop-at-test.true (ap (λ os. slice_get os c.loop-at.at) (sym c.deref.ensures.value) ∙ sym c.spot_at.ensures ∙ c.in-Some.is) c.in_ok-enums.ensures c.loop-at.invariant c.in_ok-fact.ensures.narrow
    (λ e n beside told says unit low.
    c.in_ok-fact.ensures.fact e n beside (subst (λ xs. IsTold e t enums spot xs n) (sym c.entries_of-list.ensures) told) (subst (λ (y : Row). Says beside y.node.now n) (sym c.index-rows-at.is) says) unit low))

pub returns : goal.returns
returns c = all_to c.args.rows.now c.args.tree.now c.args.entries.now c.loop-at.at c.loop-at.facts.items c.loop-at-test.false c.loop-at.invariant
