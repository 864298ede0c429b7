use Rattle.std.proofs.Common.{◌≡◌, ◌∙◌, ◌+◌, ◌-◌, ◌*◌, ◌<◌, ap, arith, refl, subst, sym}
use Rattle.std.proofs.Math.Nat.{min-le_left, min-le_right}
use Rattle.rdl_values.specs.Elaborated.{AreTreesOf}
use Rattle.rdl_values.specs.Instances.{children as nodes_in}
use Rattle.rdl_values.specs.Rows.{product, row}
use Rattle.rdl_bodies.proofs.Growing.{grows_on}
use Rattle.rdl_walk.specs.Walked.{element_of}
use Rattle.rdl_walk.proofs.Loops.{element_fits, is_element}
use Rattle.rdl_elab.specs.Nodes.{IsMadeOf}
use Rattle.rdl_elab.proofs.Childwise.{can_child, children_end, children_more, children_none}
use Rattle.rdl_elab.proofs.Elementwise.{can_element, elements_end, elements_more, elements_none}
use Rattle.rdl_elab.proofs.Nodewise.{all_below, asked_at, can_all, can_below, envs_asked, grown_asked, index_in, made_tree, none_below, shown_at, walking_asked}
use Rattle.rdl_elab.proofs.growing.Growing.+grow.Goals as goal

pub grow-grow_below-requires : goal.grow-grow_below-requires
grow-grow_below-requires t c =
    let less : c.args.levels * 5 < t = omega (arith, c.decreases) in
    let w0 = c.args.self.now.walk in
    let w1 = c.number.new.self.walk in
    let w2 = c.open.new.self.walk in
    let w3 = c.children.new.self in
    let o = c.in_ok-opened.opened in (
      less,
      (
        record {
          walking = walking_asked w0 w1 w2 w3 o c.args.head.site c.args.head.name.place c.args.standing c.args.levels c.in_ok-children.children.now c.in_ok-id.ensures.walk c.in_ok-opened.ensures.opened c.in_ok-children.ensures c.requires.some;
          envs = envs_asked w0 w1 w2 w3 o c.args.head.site c.args.head.name.place c.args.standing c.args.levels c.in_ok-children.children.now c.in_ok-id.ensures.walk c.in_ok-opened.ensures.opened c.in_ok-children.ensures c.open.new.self.envs.items c.in_ok-opened.ensures.envs c.requires.some;
        },
        (can_below w0 w1 w2 w3 o c.args.head.site c.args.head.name.place c.args.standing c.args.levels c.in_ok-children.children.now c.in_ok-id.ensures.walk c.in_ok-opened.ensures.opened c.in_ok-children.ensures c.requires.some, c.requires.deep),
      ),
    )

pub grow-returns-clause-grown : goal.grow-returns-clause-grown
grow-returns-clause-grown t c =
    let w0 = c.args.self.now.walk in
    let w1 = c.number.new.self.walk in
    let w2 = c.open.new.self.walk in
    let w3 = c.children.new.self in
    let o = c.in_ok-opened.opened in
    let below = c.in_ok-below.ensures.grown in
    record {
      growing = below.growing;
      grown = grows_on w0.bodies w3.bodies c.grow_below.new.self.walk.bodies
          (grown_asked w0 w1 w2 w3 o c.args.head.site c.args.head.name.place c.args.standing c.args.levels c.in_ok-children.children.now c.in_ok-id.ensures.walk c.in_ok-opened.ensures.opened c.in_ok-children.ensures c.requires.some) below.grown;
    }

pub grow-returns-clause-node : goal.grow-returns-clause-node
grow-returns-clause-node t c = λ s n e at stands fits whole own beside alias.
    let w0 = c.args.self.now.walk in
    let w1 = c.number.new.self.walk in
    let w2 = c.open.new.self.walk in
    let w3 = c.children.new.self in
    let o = c.in_ok-opened.opened in
    let xs = c.in_ok-children.children.now in
    let rs = c.in_ok-below.below.now in
    let shown = shown_at w0 w1 w2 w3 o c.args.head.site c.args.head.name.place c.args.standing c.args.levels xs c.in_ok-id.ensures.walk c.in_ok-opened.ensures.opened c.in_ok-children.ensures s n e at in
    let asked = asked_at w0 w1 w2 w3 o c.args.head.site c.args.head.name.place c.args.standing c.args.levels xs c.in_ok-id.ensures.walk c.in_ok-opened.ensures.opened c.in_ok-children.ensures s n e at stands in
    let trees = c.in_ok-below.ensures.nodes n asked.children stands fits whole in
    made_tree beside c.args.self.now.count c.grow_below.new.self.count c.node_of.result n c.args.head o rs (subst (λ k. IsMadeOf k c.args.head o rs c.node_of.result) c.in_ok-id.ensures.number c.node_of.ensures) own shown.def_is shown.env_is alias
    (subst (λ k. AreTreesOf rs k rs (nodes_in n) c.grow_below.new.self.count) (c.in_ok-opened.ensures.count ∙ c.in_ok-id.ensures.next) trees)

pub grow_all-loop-child-init : goal.grow_all-loop-child-init
grow_all-loop-child-init t c = (children_none c.args.self.now c.args.standing c.args.levels c.args.children.now c.new-beside.result.nodes.items c.requires.growing c.new-beside.ensures.none, c.new-beside.ensures.siblings)

pub grow_all-grow_child-requires : goal.grow_all-grow_child-requires
grow_all-grow_child-requires t c =
    let less : c.args.levels * 5 + 3 < t = omega (arith, c.decreases) in
    let inv = c.loop-child.invariant in
    (less, (inv.0.grown.growing, (can_child c.args.self.now c.loop-child.self c.args.standing c.args.levels c.args.children.now c.loop-child.child-index _ c.loop-child.beside.nodes.items c.loop-child-test.true inv.0 c.requires.some, (c.requires.deep, inv.1))))

pub grow_all-loop-child-preserved : goal.grow_all-loop-child-preserved
grow_all-loop-child-preserved t c =
    let inv = c.loop-child.invariant in
    (children_more c.args.self.now c.loop-child.self c.args.standing c.args.levels c.args.children.now c.loop-child.child-index _ c.loop-child.beside.nodes.items c.loop-child-test.true inv.0 c.grow_child.new.self c.grow_child.new.beside.nodes.items c.in_ok-grow_child.ensures.grown c.in_ok-grow_child.ensures.nodes, c.in_ok-grow_child.ensures.siblings)

pub grow_all-returns-clause-nodes : goal.grow_all-returns-clause-nodes
grow_all-returns-clause-nodes t c = children_end c.args.self.now c.loop-child.self c.args.standing c.args.levels c.args.children.now c.loop-child.child-index c.loop-child.beside.nodes.items c.into_slice.result.now c.loop-child-test.false c.into_slice.ensures c.loop-child.invariant.0

pub grow_below-returns-then-levels-eq0-clause-nodes : goal.grow_below-returns-then-levels-eq0-clause-nodes
grow_below-returns-then-levels-eq0-clause-nodes t c = λ n h stands fits whole. none_below c.args.levels n c.args.self.now.count c.none.result.now c.if-levels-eq0.true c.none.ensures whole

pub grow_below-grow_all-requires : goal.grow_below-grow_all-requires
grow_below-grow_all-requires t c =
    let z = c.if-levels-eq0.false in
    let deep = c.requires.deep in
    let less : (c.args.levels - 1) * 5 + 4 < t = omega (arith, c.decreases, z) in
    (less, (c.requires.growing, (can_all c.args.self.now.walk.bodies c.args.children.now c.args.standing c.args.levels c.if-levels-eq0.false c.requires.some, omega (arith, z, deep))))

pub grow_below-returns-clause-nodes : goal.grow_below-returns-clause-nodes
grow_below-returns-clause-nodes t c = λ n h stands fits whole.
    all_below c.args.levels n c.args.self.now.count c.grow_all.new.self.count c.args.standing c.args.self.now.walk.bodies c.args.children.now c.in_ok-below.below.now c.if-levels-eq0.false c.in_ok-below.ensures.nodes h stands fits whole

pub grow_child-loop-number-init : goal.grow_child-loop-number-init
grow_child-loop-number-init t c = (elements_none c.args.self.now c.args.beside.now.nodes.items c.args.standing c.args.levels c.args.child.now c.requires.growing, c.requires.siblings)

pub grow_child-grow_element-requires : goal.grow_child-grow_element-requires
grow_child-grow_element-requires t c =
    let less : c.args.levels * 5 + 2 < t = omega (arith, c.decreases) in
    let at = c.loop-number-test.true in
    let total = c.count_of-total.ensures in
    let left = min-le_left (product c.args.child.now.dims.now) 65536 in
    let right = min-le_right (product c.args.child.now.dims.now) 65536 in
    let inv = c.loop-number.invariant.0 in
    (less, (inv.grown.growing, (can_element c.args.self.now c.loop-number.self c.args.beside.now.nodes.items c.loop-number.beside.nodes.items c.args.standing c.args.levels c.args.child.now c.loop-number.number c.requires.growing inv c.requires.some, (omega (arith, at, total, left), (omega (arith, at, total, right), c.requires.deep)))))

pub grow_child-loop-number-preserved : goal.grow_child-loop-number-preserved
grow_child-loop-number-preserved t c =
    let at = c.loop-number-test.true in
    let total = c.count_of-total.ensures in
    let left = min-le_left (product c.args.child.now.dims.now) 65536 in
    let inv = c.loop-number.invariant.0 in (
      elements_more c.args.self.now c.loop-number.self c.grow_element.new.self c.args.beside.now.nodes.items c.loop-number.beside.nodes.items c.args.standing c.args.levels c.args.child.now c.loop-number.number c.number_of-alias.result c.in_ok-node.node c.requires.growing (omega (arith, at, total, left)) c.number_of-alias.ensures inv
          c.in_ok-node.ensures.grown c.in_ok-node.ensures.node c.push.new.self.nodes.items c.in_ok-push.ensures.pushed,
      c.in_ok-push.ensures.siblings,
    )

pub grow_child-returns-clause-nodes : goal.grow_child-returns-clause-nodes
grow_child-returns-clause-nodes t c =
    let past = c.loop-number-test.false in
    let last : c.loop-number.number ≡ c.count_of-total.result = omega (arith, past) in
    elements_end c.args.self.now c.loop-number.self c.args.beside.now.nodes.items c.loop-number.beside.nodes.items c.args.standing c.args.levels c.args.child.now c.loop-number.number (c.rows_by_number.ensures c.args.child.now.dims.now) c.loop-number.invariant.0 (last ∙ c.count_of-total.ensures)

pub grow_element-grow-requires : goal.grow_element-grow-requires
grow_element-grow-requires t c =
    let some = c.requires.some in
    let h = some.child in
    let s = some.use_ in
    let deep = c.requires.deep in
    let less : c.args.levels * 5 + 1 < t = omega (arith, c.decreases) in
    let few = element_fits c.args.self.now.walk.bodies c.args.child.now s h c.args.standing c.args.number c.in_ok-index.index.now some.stands c.requires.within c.in_ok-index.ensures.short in
    let e = is_element c.args.self.now.walk.bodies c.args.child.now s h c.args.standing (record { depth = c.args.standing.depth + 1; prefix = c.len_of-len.result + 1 }) c.args.levels c.args.number c.in_ok-index.index.now c.in_ok-index.ensures.row some.stands some.fits refl (ap (λ n. n + 1) (c.len_of-len.ensures.len few)) in (
      less,
      (
        c.requires.growing,
        (
          record {
            site = h.site;
            here = h.site_is;
            node = element_of s h.closure h.bound (row c.args.child.now.dims.now c.args.number);
            at = h.at;
            stands = e.stands;
            place_is = e.place_is;
            fits = e.fits;
          },
          omega (arith, deep),
        ),
      ),
    )

pub grow_element-returns-clause-node : goal.grow_element-returns-clause-node
grow_element-returns-clause-node t c = λ s h a f whole.
    let few = element_fits c.args.self.now.walk.bodies c.args.child.now s h c.args.standing c.args.number c.in_ok-index.index.now a c.requires.within c.in_ok-index.ensures.short in
    let e = is_element c.args.self.now.walk.bodies c.args.child.now s h c.args.standing (record { depth = c.args.standing.depth + 1; prefix = c.len_of-len.result + 1 }) c.args.levels c.args.number c.in_ok-index.index.now c.in_ok-index.ensures.row a f refl (ap (λ n. n + 1) (c.len_of-len.ensures.len few)) in
    let n = element_of s h.closure h.bound (row c.args.child.now.dims.now c.args.number) in
    c.in_ok-node.ensures.node h.site n h.site_is h.at e.stands e.fits whole
    (record { name_is = h.name_is; index_is = c.in_ok-index.ensures.row ∙ sym (index_in s.parent c.args.levels (record { name = s.use_.name.text.now; index = row c.args.child.now.dims.now c.args.number }) f); inst_is = sym h.inst_is })
