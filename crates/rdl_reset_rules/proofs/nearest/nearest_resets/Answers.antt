use Rattle.std.proofs.Common.{◌≡◌, ◌∙◌, ◌<◌, ◌∷◌, ◌++◌, List, filter, flat_map, sym, ap, subst, arith}
use Rattle.std.specs.List.{All}
use Rattle.rdl_tree.specs.declared.node.Elab.{Elab}
use Rattle.rdl_tree.specs.declared.node.Node.{out-Node}
use Rattle.rdl_values.specs.Instances.{Instance, children, signals}
use Rattle.rdl_fields.proofs.Beside.{roots-of}
use Rattle.rdl_rules.specs.Fields.{is_field_reset}
use Rattle.rdl_sizes.proofs.Facts.{count-is, row-at, rows-many}
use Rattle.rdl_sizes.proofs.Turns.{read-at}
use Rattle.rdl_reset_rules.specs.Said.{AreSaid}
use Rattle.rdl_reset_rules.specs.Nearest.{AreNearestTo, IsFirst, outer_in}
use Rattle.rdl_reset_rules.proofs.Nearing.{beside-said, inside-said, none-near, one-near, outer-first, round-first, said-below}
use Rattle.rdl_reset_rules.proofs.nearest.nearest_resets.Goals as goal

pub first_in-root-requires : goal.first_in-root-requires
first_in-root-requires c =
    let e = c.args.elab.now in
    let rs = e.signals.now in
    subst (λ (m : Elab). All (λ r. (out-Node r).id < m.count) rs) (sym c.requires.props) (said-below e c.requires.clean rs (signals e.source.now) (beside-said e rs rs (signals e.source.now) (roots-of e c.requires.clean.elaborated.tree)))

pub loop-at-init : goal.loop-at-init
loop-at-init c = none-near c.args.elab.now c.new-nearest.result.items c.new-nearest.ensures.items

pub nearest_in-requires : goal.nearest_in-requires
nearest_in-requires c =
    let e = c.args.elab.now in
    let at = c.loop-at.at in
    let r = row-at e c.args.rows.now c.requires.rows at c.index-rows-at.result (read-at c.args.rows.now at c.index-rows-at.result c.loop-at-test.true c.index-rows-at.is) in
    let rs = (out-Node c.index-rows-at.result.node.now).children.now in
    subst (λ (m : Elab). All (λ x. (out-Node x).id < m.count) rs) (sym c.requires.props) (said-below e c.requires.clean rs (children r.0.node) (inside-said e (r.0.node ∷ r.0.ancestors) rs rs (children r.0.node) r.2.inside))

pub loop-at-preserved : goal.loop-at-preserved
loop-at-preserved c =
    let e = c.args.elab.now in
    let at = c.loop-at.at in
    let r = row-at e c.args.rows.now c.requires.rows at c.index-rows-at.result (read-at c.args.rows.now at c.index-rows-at.result c.loop-at-test.true c.index-rows-at.is) in
    let rs = (out-Node c.index-rows-at.result.node.now).children.now in
    let sigs = e.signals.now in
    let root = c.first_in-root.result in
    let outer = c.outer_of-outer.result in
    let parent = c.index-rows-at.result.parent in
    let near = subst (λ (m : Elab). (ns ms : List Instance) → AreSaid m rs ns → IsFirst m (filter is_field_reset ms) outer → IsFirst m (filter is_field_reset (ns ++ ms)) c.nearest_in.result) c.requires.props c.nearest_in.ensures in
    let first = subst (λ (m : Elab). (ns : List Instance) → AreSaid m sigs ns → IsFirst m (filter is_field_reset ns) root) c.requires.props c.first_in-root.ensures (signals e.source.now) (beside-said e sigs sigs (signals e.source.now) (roots-of e c.requires.clean.elaborated.tree)) in
    let round = outer-first e at r.0 r.1 c.loop-at.nearest.items c.loop-at.invariant root first parent r.2.parent in
    let is : outer ≡ outer_in c.loop-at.nearest.items root parent = c.outer_of-outer.ensures ∙ ap (λ xs. outer_in xs root parent) c.deref.ensures.value in
    let more = flat_map children r.0.ancestors ++ signals e.source.now in
    one-near e at r.0 r.1 c.loop-at.nearest.items c.push.new.self.items c.nearest_in.result c.loop-at.invariant c.in_ok-push.ensures.items
    (round-first e r.0 c.nearest_in.result (near (children r.0.node) more (inside-said e (r.0.node ∷ r.0.ancestors) rs rs (children r.0.node) r.2.inside) (subst (IsFirst e (filter is_field_reset more)) (sym is) round)))

pub returns : goal.returns
returns c =
    let e = c.args.elab.now in
    let many = rows-many e c.args.rows.now c.requires.rows in
    let count = count-is e c.requires.clean in
    let whole : c.loop-at.at ≡ e.count = omega (arith, many, count, c.loop-at.auto.at-end, c.loop-at-test.false) in
    subst (λ k. AreNearestTo e k c.loop-at.nearest.items) whole c.loop-at.invariant
