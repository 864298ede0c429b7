use Rattle.std.proofs.Common.{◌∙◌, [], ap, drop, map, subst, sym}
use Rattle.rdl_values.specs.Bodies.{around}
use Rattle.rdl_values.specs.Chained.{chained}
use Rattle.rdl_values.specs.Seen.{bound_of}
use Rattle.rdl_failures.specs.Shown.{IsAlike}
use Rattle.rdl_bodies.specs.Kept.{AreDistinct}
use Rattle.rdl_open_settings.proofs.Knowing.{first_missing, first_split, outer_alike, own_bound, own_missing}
use Rattle.rdl_open_settings.proofs.layers.enums_of.Goals as goal

pub table_of-requires : goal.table_of-requires
table_of-requires c =
    let some = c.requires.some in
    let own = own_bound c.args.bodies.now c.args.body.now some.shown c.in-Some.first (drop 1 c.args.body.now.numbers.now) (first_split c.args.body.now.numbers.now c.in-Some.first (sym c.first_of.ensures ∙ c.in-Some.is)) some.open_ c.in-Some-body.own (sym c.body.ensures ∙ c.in-Some-body.is) in
    subst (AreDistinct []) (sym (ap (map bound_of) c.deref.ensures.value ∙ c.in_ok-bound.ensures ∙ own)) some.distinct

pub returns : goal.returns
returns c = λ b h.
    let own = own_bound c.args.bodies.now c.args.body.now b c.in-Some.first (drop 1 c.args.body.now.numbers.now) (first_split c.args.body.now.numbers.now c.in-Some.first (sym c.first_of.ensures ∙ c.in-Some.is)) h c.in-Some-body.own (sym c.body.ensures ∙ c.in-Some-body.is) in
    let bound = ap (λ t. t.bound) c.in_ok-table.ensures ∙ ap (map bound_of) c.deref.ensures.value ∙ c.in_ok-bound.ensures ∙ own in
    let alike = subst (λ ks. IsAlike (chained c.args.bodies.now.tables.items ks) (around b.outer)) (sym c.rest_of.ensures) (outer_alike c.args.bodies.now c.args.body.now b c.in-Some.first (drop 1 c.args.body.now.numbers.now) (first_split c.args.body.now.numbers.now c.in-Some.first (sym c.first_of.ensures ∙ c.in-Some.is)) h) in
    c.in_ok-judge_enums.ensures b h.items_are (sym bound) (subst (λ ts. IsAlike (chained ts c.rest_of.result.now) (around b.outer)) (sym c.tables.ensures) alike)

pub returns-in_default : goal.returns-in_default
returns-in_default c = λ b h. absurd (first_missing c.args.bodies.now c.args.body.now b h (sym c.first_of.ensures ∙ c.in_default.is))

pub returns-in_default-body : goal.returns-in_default-body
returns-in_default-body c = λ b h. absurd (own_missing c.args.bodies.now c.args.body.now b c.in-Some.first (drop 1 c.args.body.now.numbers.now) (first_split c.args.body.now.numbers.now c.in-Some.first (sym c.first_of.ensures ∙ c.in-Some.is)) h (sym c.body.ensures ∙ c.in_default-body.is))
