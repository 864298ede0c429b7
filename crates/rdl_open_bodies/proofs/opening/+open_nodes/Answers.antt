use Rattle.std.proofs.Common.{◌∙◌, ◌+◌, ◌-◌, ◌*◌, ◌<◌, arith, subst, sym}
use Rattle.rdl_tree.specs.declared.node.Node.{out-Node}
use Rattle.rdl_values.specs.Lineages.{lineages_of}
use Rattle.rdl_targets.specs.At.{IsAt, id_of}
use Rattle.rdl_targets.proofs.Numbered.{no_row}
use Rattle.rdl_open_bodies.specs.Starts.{CanOpenNode, CanOpenNodes}
use Rattle.rdl_open_bodies.proofs.Growing.{all_open, can_all, can_ask_v, can_next, far_all, far_more, far_none, few_in, no_levels, none_in, none_missing, spot_v, start_v, walking_u, walking_v}
use Rattle.rdl_open_bodies.proofs.opening.+open_nodes.Goals as goal

pub open_node-returns-then-levels-eq0 : goal.open_node-returns-then-levels-eq0
open_node-returns-then-levels-eq0 t c = λ n at. no_levels c.args.elab.now c.args.number c.args.levels c.args.start.now c.args.walk.now c.open_one.new.walk c.args.spots.now.items c.open_one.new.spots.items c.in_ok-spot.spot c.requires.some c.if-levels-eq0.true (λ m start. c.in_ok-spot.ensures c.args.elab.now c.args.levels m start) n at

pub open_node-returns-in_default : goal.open_node-returns-in_default
open_node-returns-in_default t c = λ n at. absurd (no_row c.args.elab.now c.args.rows.now c.args.number n c.requires.rows (sym c.row_at.ensures ∙ c.in_default.is) at)

pub open_node-returns-then-is_empty : goal.open_node-returns-then-is_empty
open_node-returns-then-is_empty t c = none_in c.args.elab.now c.args.rows.now c.args.number c.args.start.now c.args.levels c.args.walk.now c.open_one.new.walk c.args.spots.now.items c.open_one.new.spots.items c.in_ok-spot.spot c.requires.some c.requires.rows c.in-Some.row (sym c.row_at.ensures ∙ c.in-Some.is) c.if-levels-eq0.false c.requires.walking (λ m start. c.in_ok-spot.ensures c.args.elab.now c.args.levels m start) (sym c.is_empty.ensures ∙ c.if-is_empty.true)

pub open_node-starts_in-requires-clause-walking : goal.open_node-starts_in-requires-clause-walking
open_node-starts_in-requires-clause-walking t c = walking_v c.args.elab.now c.args.rows.now c.args.number c.args.start.now c.args.levels c.args.walk.now c.open_one.new.walk c.args.spots.now.items c.open_one.new.spots.items c.in_ok-spot.spot c.requires.some c.requires.rows c.in-Some.row (sym c.row_at.ensures ∙ c.in-Some.is) c.if-levels-eq0.false c.requires.walking (λ m start. c.in_ok-spot.ensures c.args.elab.now c.args.levels m start)

pub open_node-starts_in-requires-clause-some : goal.open_node-starts_in-requires-clause-some
open_node-starts_in-requires-clause-some t c = can_ask_v c.args.elab.now c.args.rows.now c.args.number c.args.start.now c.args.levels c.args.walk.now c.open_one.new.walk c.args.spots.now.items c.open_one.new.spots.items c.in_ok-spot.spot c.requires.some c.requires.rows c.in-Some.row (sym c.row_at.ensures ∙ c.in-Some.is) c.if-levels-eq0.false c.requires.walking (λ m start. c.in_ok-spot.ensures c.args.elab.now c.args.levels m start)

pub open_node-open_nodes-requires : goal.open_node-open_nodes-requires
open_node-open_nodes-requires t c =
    let none = c.if-levels-eq0.false in
    let less : (c.args.levels - 1) * 2 + 1 < t = omega (arith, c.decreases, none) in
    let can = can_all c.args.elab.now c.args.rows.now c.args.number c.args.start.now c.args.levels c.args.walk.now c.open_one.new.walk c.args.spots.now.items c.open_one.new.spots.items c.in_ok-spot.spot c.requires.some c.requires.rows c.in-Some.row (sym c.row_at.ensures ∙ c.in-Some.is) c.if-levels-eq0.false c.requires.walking (λ m start. c.in_ok-spot.ensures c.args.elab.now c.args.levels m start) c.starts_in.new.walk c.in_ok-starts.starts.items (λ n at. c.in_ok-starts.ensures c.args.elab.now (c.args.levels - 1) n at (spot_v c.args.elab.now c.args.rows.now c.args.number c.args.start.now c.args.levels c.args.walk.now c.open_one.new.walk c.args.spots.now.items c.open_one.new.spots.items c.in_ok-spot.spot c.requires.some c.requires.rows c.in-Some.row (sym c.row_at.ensures ∙ c.in-Some.is) c.if-levels-eq0.false c.requires.walking (λ m start. c.in_ok-spot.ensures c.args.elab.now c.args.levels m start) n at) (start_v c.args.elab.now c.args.rows.now c.args.number c.args.start.now c.args.levels c.args.walk.now c.open_one.new.walk c.args.spots.now.items c.open_one.new.spots.items c.in_ok-spot.spot c.requires.some c.requires.rows c.in-Some.row (sym c.row_at.ensures ∙ c.in-Some.is) c.if-levels-eq0.false c.requires.walking (λ m start. c.in_ok-spot.ensures c.args.elab.now c.args.levels m start) n at) (few_in c.args.elab.now c.args.rows.now c.args.number c.args.start.now c.args.levels c.args.walk.now c.open_one.new.walk c.args.spots.now.items c.open_one.new.spots.items c.in_ok-spot.spot c.requires.some c.requires.rows c.in-Some.row (sym c.row_at.ensures ∙ c.in-Some.is) c.if-levels-eq0.false c.requires.walking (λ m start. c.in_ok-spot.ensures c.args.elab.now c.args.levels m start) n at)) in
    (less, (c.requires.rows, (walking_u c.args.elab.now c.args.rows.now c.args.number c.args.start.now c.args.levels c.args.walk.now c.open_one.new.walk c.args.spots.now.items c.open_one.new.spots.items c.in_ok-spot.spot c.requires.some c.requires.rows c.in-Some.row (sym c.row_at.ensures ∙ c.in-Some.is) c.if-levels-eq0.false c.requires.walking (λ m start. c.in_ok-spot.ensures c.args.elab.now c.args.levels m start) c.starts_in.new.walk c.in_ok-starts.starts.items (λ n at. c.in_ok-starts.ensures c.args.elab.now (c.args.levels - 1) n at (spot_v c.args.elab.now c.args.rows.now c.args.number c.args.start.now c.args.levels c.args.walk.now c.open_one.new.walk c.args.spots.now.items c.open_one.new.spots.items c.in_ok-spot.spot c.requires.some c.requires.rows c.in-Some.row (sym c.row_at.ensures ∙ c.in-Some.is) c.if-levels-eq0.false c.requires.walking (λ m start. c.in_ok-spot.ensures c.args.elab.now c.args.levels m start) n at) (start_v c.args.elab.now c.args.rows.now c.args.number c.args.start.now c.args.levels c.args.walk.now c.open_one.new.walk c.args.spots.now.items c.open_one.new.spots.items c.in_ok-spot.spot c.requires.some c.requires.rows c.in-Some.row (sym c.row_at.ensures ∙ c.in-Some.is) c.if-levels-eq0.false c.requires.walking (λ m start. c.in_ok-spot.ensures c.args.elab.now c.args.levels m start) n at) (few_in c.args.elab.now c.args.rows.now c.args.number c.args.start.now c.args.levels c.args.walk.now c.open_one.new.walk c.args.spots.now.items c.open_one.new.spots.items c.in_ok-spot.spot c.requires.some c.requires.rows c.in-Some.row (sym c.row_at.ensures ∙ c.in-Some.is) c.if-levels-eq0.false c.requires.walking (λ m start. c.in_ok-spot.ensures c.args.elab.now c.args.levels m start) n at)), subst (λ xs. CanOpenNodes c.args.elab.now c.starts_in.new.walk.bodies (out-Node c.in-Some.row.node.now).children.now xs (c.args.levels - 1)) (sym c.deref.ensures.value) can)))

pub open_node-returns : goal.open_node-returns
open_node-returns t c = λ n at. all_open c.args.elab.now c.args.rows.now c.args.number c.args.start.now c.args.levels c.args.walk.now c.open_one.new.walk c.args.spots.now.items c.open_one.new.spots.items c.in_ok-spot.spot c.requires.some c.requires.rows c.in-Some.row (sym c.row_at.ensures ∙ c.in-Some.is) c.if-levels-eq0.false c.requires.walking (λ m start. c.in_ok-spot.ensures c.args.elab.now c.args.levels m start) c.starts_in.new.walk c.in_ok-starts.starts.items (λ n at. c.in_ok-starts.ensures c.args.elab.now (c.args.levels - 1) n at (spot_v c.args.elab.now c.args.rows.now c.args.number c.args.start.now c.args.levels c.args.walk.now c.open_one.new.walk c.args.spots.now.items c.open_one.new.spots.items c.in_ok-spot.spot c.requires.some c.requires.rows c.in-Some.row (sym c.row_at.ensures ∙ c.in-Some.is) c.if-levels-eq0.false c.requires.walking (λ m start. c.in_ok-spot.ensures c.args.elab.now c.args.levels m start) n at) (start_v c.args.elab.now c.args.rows.now c.args.number c.args.start.now c.args.levels c.args.walk.now c.open_one.new.walk c.args.spots.now.items c.open_one.new.spots.items c.in_ok-spot.spot c.requires.some c.requires.rows c.in-Some.row (sym c.row_at.ensures ∙ c.in-Some.is) c.if-levels-eq0.false c.requires.walking (λ m start. c.in_ok-spot.ensures c.args.elab.now c.args.levels m start) n at) (few_in c.args.elab.now c.args.rows.now c.args.number c.args.start.now c.args.levels c.args.walk.now c.open_one.new.walk c.args.spots.now.items c.open_one.new.spots.items c.in_ok-spot.spot c.requires.some c.requires.rows c.in-Some.row (sym c.row_at.ensures ∙ c.in-Some.is) c.if-levels-eq0.false c.requires.walking (λ m start. c.in_ok-spot.ensures c.args.elab.now c.args.levels m start) n at)) c.open_nodes.new.walk c.open_nodes.new.spots.items c.in_ok-open_nodes.ensures n at

pub open_nodes-loop-at-init : goal.open_nodes-loop-at-init
open_nodes-loop-at-init t c = λ can. far_none c.args.elab.now c.args.nodes.now c.args.starts.now c.args.levels c.args.walk.now c.args.spots.now.items can c.requires.walking

pub open_nodes-returns-in_default : goal.open_nodes-returns-in_default
open_nodes-returns-in_default t c = λ ns at. absurd (none_missing c.args.elab.now c.args.nodes.now c.args.starts.now c.args.levels c.args.walk.now c.args.spots.now.items c.requires.some c.requires.walking c.loop-at.at c.loop-at-test.true (sym c.start_at.ensures ∙ c.in_default.is))

pub open_nodes-open_node-requires : goal.open_nodes-open_node-requires
open_nodes-open_node-requires t c =
    let less : c.args.levels * 2 < t = omega (arith, c.decreases) in
    let can = can_next c.args.elab.now c.args.nodes.now c.args.starts.now c.args.levels c.args.walk.now c.args.spots.now.items c.requires.some c.requires.walking c.loop-at.walk c.loop-at.spots.items c.loop-at.at c.index-nodes-at.result c.in-Some.start c.loop-at-test.true (sym c.start_at.ensures ∙ c.in-Some.is) (c.loop-at.invariant c.requires.some) in
    (less, (c.requires.rows, ((c.loop-at.invariant c.requires.some).walking, subst (λ y. CanOpenNode c.args.elab.now c.loop-at.walk.bodies (id_of y) c.in-Some.start c.args.levels) (sym c.index-nodes-at.is) can)))

pub open_nodes-loop-at-preserved : goal.open_nodes-loop-at-preserved
open_nodes-loop-at-preserved t c = λ can.
    far_more c.args.elab.now c.args.nodes.now c.args.starts.now c.args.levels c.args.walk.now c.args.spots.now.items can c.requires.walking c.loop-at.walk c.loop-at.spots.items c.loop-at.at c.index-nodes-at.result c.in-Some.start c.loop-at-test.true (sym c.start_at.ensures ∙ c.in-Some.is) (c.loop-at.invariant can)
    c.open_node.new.walk c.open_node.new.spots.items (λ m at. c.in_ok-open_node.ensures m (subst (λ y. IsAt (lineages_of c.args.elab.now) (id_of y) m) (sym c.index-nodes-at.is) at))

pub open_nodes-returns : goal.open_nodes-returns
open_nodes-returns t c = far_all c.args.elab.now c.args.nodes.now c.args.starts.now c.args.levels c.args.walk.now c.args.spots.now.items c.requires.some c.requires.walking c.loop-at.walk c.loop-at.spots.items c.loop-at.at c.loop-at-test.false (c.loop-at.invariant c.requires.some)
