use Rattle.std.proofs.Common.{◌∙◌, subst, sym}
use Rattle.plain_lemmas.proofs.Results.{if_ok-map as if_ok}
use Rattle.rdl_values.specs.Bodies.{around}
use Rattle.rdl_values.specs.Chained.{chained}
use Rattle.rdl_values.specs.Elaborated.{nodes_of}
use Rattle.rdl_failures.specs.Shown.{IsAlike}
use Rattle.rdl_facts.proofs.Unit.{seen_by}
use Rattle.rdl_facts.proofs.facts.unit_fact.Goals as goal

pub returns-clause-fact : goal.returns-clause-fact
returns-clause-fact c =
    if_ok c.fact_of.result _ _
    (λ fact h e n told kind text low.
    let t = c.args.tree.now in
    let x = c.in-Some.body in
    let sees = seen_by t.bodies n c.args.spot.now.within x told.spot.use_ (sym c.body.ensures ∙ c.in-Some.is) in
    let shown = subst (λ ts. IsAlike (chained ts x.numbers.now) (around n.use_.scope)) (sym c.tables.ensures) sees in
    let width = c.in_ok-width.ensures.width (nodes_of e) n told.entries kind text shown low in
    h (nodes_of e) n told.entries kind text shown low (c.has_wide_entry-wide.ensures e n told.clean told.open_ told.numbers told.there told.entries (sym width))) c.fact_of.ensures.fact
