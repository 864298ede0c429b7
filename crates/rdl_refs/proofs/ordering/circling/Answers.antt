use Rattle.std.proofs.Common.{subst, ap, length, arith}
use Rattle.std.proofs.lemmas.List.{length-map}
use Rattle.plain_lemmas.proofs.Results.{if_ok-map as if-ok}
use Rattle.rdl_values.specs.Lineages.{lineages_of}
use Rattle.topological_order.specs.Levels.{AreLevels, AreWithin}
use Rattle.rdl_refs.specs.Answers.{AreCircling}
use Rattle.rdl_refs.specs.Items.{Item, items}
use Rattle.rdl_refs.specs.Walk.{AreUnordered}
use Rattle.rdl_refs.proofs.Reported.{edges-sized, reported}
use Rattle.rdl_refs.proofs.ordering.circling.Goals as goal

pub unordered-requires : goal.unordered-requires
unordered-requires c =
    let all = lineages_of c.args.dependencies.now in
    let a = ap length c.deref.ensures.value in
    let b = c.in_ok-levels.ensures.sized in
    let e = ap length c.edges.ensures.edges in
    let f = edges-sized all in
    let g = ap length c.places.ensures in
    let h = length-map (items all) (λ (i : Item). i.node.use_.name.place) in
    omega (arith, a, b, e, f, g, h)

pub returns : goal.returns
returns c =
    let all = lineages_of c.args.dependencies.now in
    let levels = subst (λ e. AreLevels e c.in_ok-levels.levels.ranks.items c.in_ok-levels.levels.order.items) c.edges.ensures.edges c.in_ok-levels.ensures in
    let within = subst AreWithin c.edges.ensures.edges c.edges.ensures.within in
    let found = subst (λ r. AreUnordered r c.places.result.now (length c.places.result.now) c.in_ok-unordered.field-0.items) c.deref.ensures.value c.in_ok-unordered.ensures in
    if-ok c.listed.result _ (λ list. AreCircling c.args.dependencies.now list.items)
    (λ list h. reported all c.in_ok-levels.levels.ranks.items c.in_ok-levels.levels.order.items c.places.result.now levels within c.places.ensures c.in_ok-unordered.field-0.items found list.items h) c.listed.ensures
