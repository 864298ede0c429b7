use Rattle.std.proofs.Common.{◌∙◌, ◌++◌, flat_map, refl, subst, sym}
use Rattle.rdl_values.specs.Bodies.{standing}
use Rattle.rdl_values.specs.Elaborated.{nodes_of}
use Rattle.rdl_layers.specs.Settings.{applied_to, from_above, from_body, from_instance}
use Rattle.rdl_merge.specs.Merged.{AreEntries}
use Rattle.rdl_open_settings.proofs.node.complete_node.Goals as goal

pub returns-clause-entries : goal.returns-clause-entries
returns-clause-entries c = λ e n scene node before.
    let own = c.in_ok-add_own.ensures e n (flat_map (from_above n) (standing n.above)) node before in
    let body_ = c.in_ok-add_body.ensures e c.args.tree.now c.args.count c.args.node.now n (flat_map (from_above n) (standing n.above) ++ from_instance n.use_) scene node refl own in
    let all = c.in_ok-add_rounds.ensures e n 0 n.closure.scope (flat_map (from_above n) (standing n.above) ++ from_instance n.use_ ++ from_body n) scene (sym node.says.kind) node.spot.round_is node.spot.depth_is body_ in
    subst (λ es. AreEntries (nodes_of e) es (applied_to n)) (sym c.in_ok-fit.ensures) all

pub returns-clause-noted : goal.returns-clause-noted
returns-clause-noted c = λ e n scene node before.
    let own = c.in_ok-add_own.ensures e n (flat_map (from_above n) (standing n.above)) node before in
    let body_ = c.in_ok-add_body.ensures e c.args.tree.now c.args.count c.args.node.now n (flat_map (from_above n) (standing n.above) ++ from_instance n.use_) scene node refl own in
    let all = c.in_ok-add_rounds.ensures e n 0 n.closure.scope (flat_map (from_above n) (standing n.above) ++ from_instance n.use_ ++ from_body n) scene (sym node.says.kind) node.spot.round_is node.spot.depth_is body_ in
    c.in_ok-judge_widths.ensures e n node (subst (λ es. AreEntries (nodes_of e) es (applied_to n)) (sym (c.deref.ensures.value ∙ c.in_ok-fit.ensures)) all)
