use Rattle.std.proofs.Common.{◌∙◌, length, sym, subst, ap, refl, flat_map, ◌++◌, arith}
use Rattle.rdl_tree.specs.declared.node.Node.{out-Node}
use Rattle.std.specs.Vec.{with_item, with_items}
use Rattle.std.proofs.lemmas.List.{with_items_is}
use Rattle.rdl_sizes.specs.declared.known.Sizes.{Sizes}
use Rattle.rdl_sizes.specs.Lots.{lot_faults}
use Rattle.rdl_sizes.specs.Sized.{offset_at}
use Rattle.rdl_sizes.proofs.Facts.{count-is, node-at, shown-at}
use Rattle.rdl_sizes.proofs.Sizing.{IsLaid, body, known, low, many, sized, within}
use Rattle.rdl_sizes.proofs.Turns.{AreKnown}
use Rattle.rdl_sizes.proofs.table.add_row.Goals as goal

pub lots_of-requires-clause-within : goal.lots_of-requires-clause-within
lots_of-requires-clause-within c =
    let r = c.requires.row in
    within c.args.props.now c.requires.clean c.requires.settled c.args.row.now r.0 r.1 r.2 c.args.mode r.3 c.args.sizes.now c.requires.behind (length c.deref.result.now) (ap length c.deref.ensures.value ∙ c.requires.behind.measured)

pub write_offsets-requires-clause-within : goal.write_offsets-requires-clause-within
write_offsets-requires-clause-within c =
    let r = c.requires.row in
    within c.args.props.now c.requires.clean c.requires.settled c.args.row.now r.0 r.1 r.2 c.args.mode r.3 c.args.sizes.now c.requires.behind (length c.deref_mut.result.now) (ap length c.deref_mut.ensures.value ∙ c.requires.behind.placed)

pub write_offsets-requires-clause-many : goal.write_offsets-requires-clause-many
write_offsets-requires-clause-many c =
    let r = c.requires.row in
    let e = c.args.props.now in
    let old = c.args.sizes.now in
    let knows = known e c.requires.clean c.requires.settled c.args.row.now r.0 r.1 r.2 c.args.mode r.3 old c.requires.behind in
    let is = body e c.requires.clean c.requires.settled c.args.row.now r.0 r.1 r.2 c.args.mode r.3 old c.requires.behind in
    let seen = shown-at e (out-Node c.args.row.now.node.now).id r.0 c.visible_in-visible.result r.1 c.visible_in-visible.ensures in
    let are = c.in_ok-lots.ensures.groups e r.0 is seen (subst (AreKnown e r.0) (sym c.deref.ensures.value) knows) in
    let raw : IsLaid c.args.mode c.deref-3.result.now c.in_ok-laid.laid.end c.in_ok-laid.laid.access c.deref-4.result.now =
    record { end_ = c.in_ok-laid.ensures.end; access_ = c.in_ok-laid.ensures.access; starts_ = c.deref-4.ensures.value ∙ c.in_ok-laid.ensures.starts } in
    many e c.requires.clean c.requires.settled c.args.row.now r.0 r.1 r.2 c.args.mode r.3 old c.requires.behind c.in_ok-lots.lots.items are c.in_ok-laid.laid.end c.in_ok-laid.laid.access c.deref-4.result.now
    (subst (λ ls. IsLaid c.args.mode ls c.in_ok-laid.laid.end c.in_ok-laid.laid.access c.deref-4.result.now) c.deref-3.ensures.value raw)

pub measure-requires : goal.measure-requires
measure-requires c =
    let r = c.requires.row in
    let n = low c.args.props.now c.requires.clean c.requires.settled c.args.row.now r.0 r.1 r.2 c.args.mode r.3 c.args.sizes.now c.requires.behind in
    let many = count-is c.args.props.now c.requires.clean in
    omega (arith, n, many)

pub index_mut-requires : goal.index_mut-requires
index_mut-requires c =
    let r = c.requires.row in
    let n = low c.args.props.now c.requires.clean c.requires.settled c.args.row.now r.0 r.1 r.2 c.args.mode r.3 c.args.sizes.now c.requires.behind in
    let q = c.deref.ensures.len in
    let v = ap length c.deref.ensures.value in
    let m = c.requires.behind.measured in
    omega (arith, n, q, v, m)

pub returns : goal.returns
returns c =
    let r = c.requires.row in
    let e = c.args.props.now in
    let old = c.args.sizes.now in
    let knows = known e c.requires.clean c.requires.settled c.args.row.now r.0 r.1 r.2 c.args.mode r.3 old c.requires.behind in
    let is = body e c.requires.clean c.requires.settled c.args.row.now r.0 r.1 r.2 c.args.mode r.3 old c.requires.behind in
    let seen = shown-at e (out-Node c.args.row.now.node.now).id r.0 c.visible_in-visible.result r.1 c.visible_in-visible.ensures in
    let are = c.in_ok-lots.ensures.groups e r.0 is seen (subst (AreKnown e r.0) (sym c.deref.ensures.value) knows) in
    let raw : IsLaid c.args.mode c.deref-3.result.now c.in_ok-laid.laid.end c.in_ok-laid.laid.access c.deref-4.result.now =
    record { end_ = c.in_ok-laid.ensures.end; access_ = c.in_ok-laid.ensures.access; starts_ = c.deref-4.ensures.value ∙ c.in_ok-laid.ensures.starts } in
    let laid = subst (λ ls. IsLaid c.args.mode ls c.in_ok-laid.laid.end c.in_ok-laid.laid.access c.deref-4.result.now) c.deref-3.ensures.value raw in
    let new : Sizes = record { measures = with_item old.measures (out-Node c.args.row.now.node.now).id c.measure.result; offsets = with_items old.offsets c.write_offsets.new.offsets; faults = c.add_faults.new.faults } in
    sized e c.requires.clean c.requires.settled c.args.row.now r.0 r.1 r.2 c.args.mode r.3 old c.requires.behind c.in_ok-lots.lots.items are c.in_ok-laid.laid.end c.in_ok-laid.laid.access c.deref-4.result.now laid
    c.measure.result (c.measure.ensures r.0.node (node-at e (out-Node c.args.row.now.node.now).id r.0 r.1) r.2.says.kind)
    c.write_offsets.new.offsets (λ j none. c.write_offsets.ensures.kept j none ∙ ap (λ os. offset_at os j) c.deref_mut.ensures.value) (c.write_offsets.auto.offsets ∙ ap length c.deref_mut.ensures.value)
    c.write_offsets.ensures.places c.add_faults.new.faults.items (c.in_ok-add_faults.ensures ∙ ap (λ ls. old.faults.items ++ flat_map (lot_faults c.args.mode) ls) c.deref-2.ensures.value) new refl (with_items_is old.offsets c.write_offsets.new.offsets (c.write_offsets.auto.offsets ∙ (ap length c.deref_mut.ensures.value ∙ sym old.offsets.ok.0))) refl
