use Rattle.std.proofs.Common.{◌≡◌, ◌≢◌, ◌∙◌, ◌+◌, ◌-◌, ◌*◌, ◌<◌, [], ap, arith, refl, subst, suc, sym}
use Rattle.std.proofs.Math.Nat.{min-le_left, min-le_right}
use Rattle.rdl_values.specs.Instances.{with_below}
use Rattle.rdl_values.specs.Rows.{product, row}
use Rattle.rdl_walk.specs.Walked.{CanVisit, FitsNode, IsCounted, IsWalked, element_of}
use Rattle.rdl_walk.specs.declared.walk.Walk.{Walk}
use Rattle.rdl_walk.proofs.Asking.{all_walked, can_all, can_ask_u, can_open, counted_walking, node_walked, one_less, walking_u, walking_z}
use Rattle.rdl_walk.proofs.Loops.{can_child, can_element, children_all, children_more, children_none, element_fits, elements_end, elements_more, elements_none, elements_stop, is_element}
use Rattle.rdl_walk.proofs.Steps.{node_over}
use Rattle.rdl_walk.proofs.walk.Walk.+visit.Goals as goal

pub visit-returns-then-not-judged : goal.visit-returns-then-not-judged
visit-returns-then-not-judged t c = λ s n here a stands place fits.
    let counted = c.in_ok-judged.ensures.counted in
    node_over c.args.self.now c.count_node.new.self n c.args.levels c.in_ok-judged.judged c.requires.walking c.in_ok-judged.ensures.bodies c.in_ok-judged.ensures.judgements
    (subst (λ p. IsCounted p c.in_ok-judged.judged c.args.self.now.count c.count_node.new.self.count c.args.self.now.failures c.count_node.new.self.failures) (sym place) counted) c.if-not-judged.true

pub visit-open-requires-clause-kept : goal.visit-open-requires-clause-kept
visit-open-requires-clause-kept t c = (counted_walking c.args.self.now c.count_node.new.self c.args.place c.in_ok-judged.judged c.requires.walking c.in_ok-judged.ensures.bodies c.in_ok-judged.ensures.judgements c.in_ok-judged.ensures.counted).kept

pub visit-open-requires-clause-some : goal.visit-open-requires-clause-some
visit-open-requires-clause-some t c = can_open c.args.self.now c.count_node.new.self c.args.site c.args.place c.args.standing c.args.levels c.in_ok-judged.ensures.bodies c.requires.some

pub visit-children-requires-clause-walking : goal.visit-children-requires-clause-walking
visit-children-requires-clause-walking t c =
    let u : Walk = record c.count_node.new.self { bodies = c.open.new.self; failures = c.open.new.failures } in
    walking_u c.args.self.now c.count_node.new.self u u c.args.place c.in_ok-judged.judged c.in_ok-number.number c.args.site c.args.standing [] c.requires.walking c.in_ok-judged.ensures.bodies c.in_ok-judged.ensures.judgements c.in_ok-judged.ensures.counted c.if-not-judged.false c.in_ok-number.ensures refl refl c.args.levels c.requires.some

pub visit-children-requires-clause-some : goal.visit-children-requires-clause-some
visit-children-requires-clause-some t c =
    let u : Walk = record c.count_node.new.self { bodies = c.open.new.self; failures = c.open.new.failures } in
    can_ask_u c.args.self.now c.count_node.new.self u u c.args.place c.in_ok-judged.judged c.in_ok-number.number c.args.site c.args.standing [] c.requires.walking c.in_ok-judged.ensures.bodies c.in_ok-judged.ensures.judgements c.in_ok-judged.ensures.counted c.if-not-judged.false c.in_ok-number.ensures refl refl c.args.levels c.requires.some

pub visit-returns-then-levels-eq0 : goal.visit-returns-then-levels-eq0
visit-returns-then-levels-eq0 t c = λ s n here a stands place fits.
    let u : Walk = record c.count_node.new.self { bodies = c.open.new.self; failures = c.open.new.failures } in
    subst (λ l. IsWalked c.args.self.now c.children.new.self (with_below l n)) (sym c.if-levels-eq0.true)
    (node_walked c.args.self.now c.count_node.new.self u c.children.new.self c.args.place c.in_ok-judged.judged c.in_ok-number.number c.args.site c.args.standing c.in_ok-children.children.now c.requires.walking c.in_ok-judged.ensures.bodies c.in_ok-judged.ensures.judgements c.in_ok-judged.ensures.counted c.if-not-judged.false c.in_ok-number.ensures refl refl c.in_ok-children.ensures s n here a stands)

pub visit-visit_all-requires : goal.visit-visit_all-requires
visit-visit_all-requires t c =
    let u : Walk = record c.count_node.new.self { bodies = c.open.new.self; failures = c.open.new.failures } in
    let z = c.if-levels-eq0.false in
    let deep = c.requires.deep in
    let less : (c.args.levels - 1) * 4 + 3 < t = omega (arith, c.decreases, z) in (
      less,
      (
        walking_z c.args.self.now c.count_node.new.self u c.children.new.self c.args.place c.in_ok-judged.judged c.in_ok-number.number c.args.site c.args.standing c.in_ok-children.children.now c.requires.walking c.in_ok-judged.ensures.bodies c.in_ok-judged.ensures.judgements c.in_ok-judged.ensures.counted c.if-not-judged.false c.in_ok-number.ensures refl refl c.in_ok-children.ensures c.args.levels c.requires.some,
        (
          can_all c.args.self.now c.count_node.new.self u c.children.new.self c.args.place c.in_ok-judged.judged c.in_ok-number.number c.args.site c.args.standing c.in_ok-children.children.now c.requires.walking c.in_ok-judged.ensures.bodies c.in_ok-judged.ensures.judgements c.in_ok-judged.ensures.counted c.if-not-judged.false c.in_ok-number.ensures refl refl c.in_ok-children.ensures (c.args.levels - 1) (subst (CanVisit c.args.self.now.bodies c.args.site c.args.place c.args.standing) (sym (one_less c.args.levels c.if-levels-eq0.false)) c.requires.some),
          omega (arith, z, deep),
        ),
      ),
    )

pub visit-returns : goal.visit-returns
visit-returns t c = λ s n here a stands place fits.
    let u : Walk = record c.count_node.new.self { bodies = c.open.new.self; failures = c.open.new.failures } in
    let less = one_less c.args.levels c.if-levels-eq0.false in
    subst (λ l. IsWalked c.args.self.now c.visit_all.new.self (with_below l n)) less
    (all_walked c.args.self.now c.count_node.new.self u c.children.new.self c.args.place c.in_ok-judged.judged c.in_ok-number.number c.args.site c.args.standing c.in_ok-children.children.now c.requires.walking c.in_ok-judged.ensures.bodies c.in_ok-judged.ensures.judgements c.in_ok-judged.ensures.counted c.if-not-judged.false c.in_ok-number.ensures refl refl c.in_ok-children.ensures
    c.visit_all.new.self (c.args.levels - 1) c.in_ok-visit_all.ensures s n here a stands (subst (FitsNode n.path) (sym less) fits))

pub visit_all-loop-child-init : goal.visit_all-loop-child-init
visit_all-loop-child-init t c = children_none c.args.self.now c.args.standing c.args.levels c.args.children.now c.requires.walking

pub visit_all-visit_child-requires : goal.visit_all-visit_child-requires
visit_all-visit_child-requires t c =
    let less : c.args.levels * 4 + 2 < t = omega (arith, c.decreases) in
    (less, (c.loop-child.invariant.walking, (can_child c.args.self.now c.loop-child.self c.args.standing c.args.levels c.args.children.now c.loop-child.child-index _ c.loop-child-test.true c.loop-child.invariant c.requires.some, c.requires.deep)))

pub visit_all-loop-child-preserved : goal.visit_all-loop-child-preserved
visit_all-loop-child-preserved t c = children_more c.args.self.now c.loop-child.self c.args.standing c.args.levels c.args.children.now c.loop-child.child-index _ c.loop-child-test.true c.loop-child.invariant c.visit_child.new.self c.requires.some c.in_ok-visit_child.ensures

pub visit_all-returns : goal.visit_all-returns
visit_all-returns t c = children_all c.args.self.now c.loop-child.self c.args.standing c.args.levels c.args.children.now c.loop-child.child-index c.loop-child-test.false c.loop-child.invariant

pub visit_child-loop-number-init : goal.visit_child-loop-number-init
visit_child-loop-number-init t c = elements_none c.args.self.now c.args.standing c.args.levels c.args.child.now c.requires.walking

pub visit_child-visit_element-requires : goal.visit_child-visit_element-requires
visit_child-visit_element-requires t c =
    let less : c.args.levels * 4 + 1 < t = omega (arith, c.decreases) in
    let at = c.loop-number-test.true in
    let total = c.count_of-total.ensures in
    let left = min-le_left (product c.args.child.now.dims.now) 65537 in
    let right = min-le_right (product c.args.child.now.dims.now) 65537 in
    (less, (c.loop-number.invariant.walking, (can_element c.args.self.now c.loop-number.self c.args.standing c.args.levels c.args.child.now c.loop-number.number c.requires.walking c.loop-number.invariant c.requires.some, (omega (arith, at, total, left), (omega (arith, at, total, right), c.requires.deep)))))

pub visit_child-returns-then-self-gt-MOST_NODES : goal.visit_child-returns-then-self-gt-MOST_NODES
visit_child-returns-then-self-gt-MOST_NODES t c =
    let at = c.loop-number-test.true in
    let total = c.count_of-total.ensures in
    let left = min-le_left (product c.args.child.now.dims.now) 65537 in
    let many = c.if-self-gt-MOST_NODES.true in
    elements_stop c.args.self.now c.loop-number.self c.args.standing c.args.levels c.args.child.now c.loop-number.number (c.rows_by_number.ensures c.args.child.now.dims.now) c.loop-number.invariant (omega (arith, at, total, left)) (omega (arith, many))

pub visit_child-returns : goal.visit_child-returns
visit_child-returns t c =
    let past = c.loop-number-test.false in
    let last : c.loop-number.number ≡ c.count_of-total.result = omega (arith, past) in
    elements_end c.args.self.now c.loop-number.self c.args.standing c.args.levels c.args.child.now c.loop-number.number (c.rows_by_number.ensures c.args.child.now.dims.now) c.loop-number.invariant (last ∙ c.count_of-total.ensures)

pub visit_child-loop-number-preserved : goal.visit_child-loop-number-preserved
visit_child-loop-number-preserved t c = elements_more c.args.self.now c.loop-number.self c.visit_element.new.self c.args.standing c.args.levels c.args.child.now c.loop-number.number c.requires.walking c.loop-number.invariant c.requires.some c.in_ok-visit_element.ensures

pub visit_element-returns-in_default : goal.visit_element-returns-in_default
visit_element-returns-in_default t c = λ s h a f.
    let few = element_fits c.args.self.now.bodies c.args.child.now s h c.args.standing c.args.number c.in_ok-row.row.now a c.requires.within c.in_ok-row.ensures.short in
    let many = c.in_default.ensures in
    absurd (omega (arith, few, many))

pub visit_element-visit-requires : goal.visit_element-visit-requires
visit_element-visit-requires t c =
    let some = c.requires.some in
    let h = some.child in
    let deep = c.requires.deep in
    let less : c.args.levels * 4 < t = omega (arith, c.decreases) in
    let e = is_element c.args.self.now.bodies c.args.child.now some.use_ h c.args.standing (record { depth = c.args.standing.depth + 1; prefix = c.in-Some.len + 1 }) c.args.levels c.args.number c.in_ok-row.row.now c.in_ok-row.ensures.row some.stands some.fits refl (ap (λ n. n + 1) c.in-Some.ensures.0) in (
      less,
      (
        c.requires.walking,
        (
          record {
            site = h.site;
            here = h.site_is;
            node = element_of some.use_ h.closure h.bound (row c.args.child.now.dims.now c.args.number);
            at = h.at;
            stands = e.stands;
            place_is = e.place_is;
            fits = e.fits;
          },
          omega (arith, deep),
        ),
      ),
    )

pub visit_element-returns : goal.visit_element-returns
visit_element-returns t c = λ s h a f.
    let e = is_element c.args.self.now.bodies c.args.child.now s h c.args.standing (record { depth = c.args.standing.depth + 1; prefix = c.in-Some.len + 1 }) c.args.levels c.args.number c.in_ok-row.row.now c.in_ok-row.ensures.row a f refl (ap (λ n. n + 1) c.in-Some.ensures.0) in
    c.in_ok-visit.ensures h.site (element_of s h.closure h.bound (row c.args.child.now.dims.now c.args.number)) h.site_is h.at e.stands e.place_is e.fits
