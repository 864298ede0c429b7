use Rattle.std.proofs.Common.{◌≡◌, ◌∙◌, ◌++◌, ◌∷◌, length, true, refl, sym, ap, subst, arith}
use Rattle.std.specs.List.{All}
use Rattle.std.specs.Vec.{with_items}
use Rattle.std.proofs.lemmas.List.{with_items_is}
use Rattle.rdl_tree.specs.declared.item.Kind.TheVariants as kinds
use Rattle.rdl_tree.specs.declared.node.Node.{out-Node}
use Rattle.rdl_tree.specs.Kinds.{same_kind}
use Rattle.rdl_values.specs.Instances.{children}
use Rattle.rdl_values.specs.Lineages.{lineages_of}
use Rattle.rdl_layers.specs.Fields.{fields_of, is_a}
use Rattle.rdl_layout.specs.Fields as fields
use Rattle.rdl_nodes.specs.Rows.{AreInside}
use Rattle.rdl_addr.specs.Fields.{AreFieldsOf}
use Rattle.rdl_addr.specs.Areas.{bits_at}
use Rattle.rdl_nodes.proofs.Members.{get-within}
use Rattle.rdl_sizes.specs.Bodies.{IsBodyOf}
use Rattle.rdl_sizes.proofs.Facts.{count-is, node-at, shown-at}
use Rattle.rdl_bits.specs.declared.table.BitTable.{BitTable}
use Rattle.rdl_bits.proofs.Registers.{many, taken-up, within}
use Rattle.rdl_bits.proofs.table.add_register.Goals as goal

pub fields_in-requires : goal.fields_in-requires
fields_in-requires c =
    let r = c.requires.row in
    let e = c.args.props.now in
    let node = c.args.node.now in
    let inside = subst (λ y. AreInside (lineages_of e) (r.0.node ∷ r.0.ancestors) (out-Node y).children.now (out-Node y).children.now (children r.0.node)) r.2 r.4.inside in
    let reg : is_a kinds.Reg r.0.node ≡ true = ap (same_kind kinds.Reg) (sym (ap (λ y. (out-Node y).kind) (sym r.2) ∙ r.4.says.kind)) ∙ c.requires.register in
    within e (out-Node node).id r.0 r.3 c.args.table.now c.requires.before node refl inside reg e.count (count-is e c.requires.clean)

pub number-requires : goal.number-requires
number-requires c =
    let r = c.requires.row in
    let low = get-within (lineages_of c.args.props.now) (out-Node c.args.node.now).id r.0 r.3 in
    let n = count-is c.args.props.now c.requires.clean in
    omega (arith, low, n)

pub write_bits-requires-clause-within : goal.write_bits-requires-clause-within
write_bits-requires-clause-within c =
    let r = c.requires.row in
    let e = c.args.props.now in
    let node = c.args.node.now in
    let inside = subst (λ y. AreInside (lineages_of e) (r.0.node ∷ r.0.ancestors) (out-Node y).children.now (out-Node y).children.now (children r.0.node)) r.2 r.4.inside in
    let reg : is_a kinds.Reg r.0.node ≡ true = ap (same_kind kinds.Reg) (sym (ap (λ y. (out-Node y).kind) (sym r.2) ∙ r.4.says.kind)) ∙ c.requires.register in
    within e (out-Node node).id r.0 r.3 c.args.table.now c.requires.before node refl inside reg (length c.deref_mut.result.now) (ap length c.deref_mut.ensures.value ∙ c.requires.before.sized)

pub write_bits-requires-clause-many : goal.write_bits-requires-clause-many
write_bits-requires-clause-many c =
    let r = c.requires.row in
    let e = c.args.props.now in
    let node = c.args.node.now in
    let inside = subst (λ y. AreInside (lineages_of e) (r.0.node ∷ r.0.ancestors) (out-Node y).children.now (out-Node y).children.now (children r.0.node)) r.2 r.4.inside in
    let reg : is_a kinds.Reg r.0.node ≡ true = ap (same_kind kinds.Reg) (sym (ap (λ y. (out-Node y).kind) (sym r.2) ∙ r.4.says.kind)) ∙ c.requires.register in
    let body : IsBodyOf e node r.0 = record { number = (out-Node node).id; here = r.3; inside = inside } in
    let are = subst (λ fs. AreFieldsOf fs (fields_of r.0.node)) (sym c.deref.ensures.value) (c.in_ok-fields.ensures.fields r.0 body (shown-at e (out-Node node).id r.0 c.visible_in-visible.result r.3 c.visible_in-visible.ensures)) in
    many e (out-Node node).id r.0 r.3 c.args.table.now c.requires.before node refl inside reg c.deref.result.now are c.deref-5.result.now (c.deref-5.ensures.value ∙ c.in_ok-bits.ensures)

pub returns : goal.returns
returns c =
    let r = c.requires.row in
    let e = c.args.props.now in
    let node = c.args.node.now in
    let old = c.args.table.now in
    let inside = subst (λ y. AreInside (lineages_of e) (r.0.node ∷ r.0.ancestors) (out-Node y).children.now (out-Node y).children.now (children r.0.node)) r.2 r.4.inside in
    let reg : is_a kinds.Reg r.0.node ≡ true = ap (same_kind kinds.Reg) (sym (ap (λ y. (out-Node y).kind) (sym r.2) ∙ r.4.says.kind)) ∙ c.requires.register in
    let body : IsBodyOf e node r.0 = record { number = (out-Node node).id; here = r.3; inside = inside } in
    let are = subst (λ fs. AreFieldsOf fs (fields_of r.0.node)) (sym c.deref.ensures.value) (c.in_ok-fields.ensures.fields r.0 body (shown-at e (out-Node node).id r.0 c.visible_in-visible.result r.3 c.visible_in-visible.ensures)) in
    let cs = c.deref-5.result.now in
    let spans = subst (All fields.IsSpan) (c.deref-2.ensures.value ∙ sym c.deref-5.ensures.value) (c.are_spans.ensures.0 c.if-not-are_spans.false) in
    let width = c.number.ensures r.0.node (node-at e (out-Node node).id r.0 r.3) in
    let found = c.deref-4.ensures.value ∙ (c.in_ok-faults.ensures ∙ ap (fields.faults c.number.result) (c.deref-3.ensures.value ∙ sym c.deref-5.ensures.value)) in
    let new : BitTable = record { bits = with_items old.bits c.write_bits.new.table; faults = c.add_all.new.faults } in
    taken-up e (out-Node node).id r.0 r.3 old c.requires.before node refl inside reg c.deref.result.now are cs (c.deref-5.ensures.value ∙ c.in_ok-bits.ensures) spans c.number.result width c.write_bits.new.table
    (c.write_bits.auto.table ∙ ap length c.deref_mut.ensures.value) (λ j none. c.write_bits.ensures.kept j none ∙ ap (λ xs. bits_at xs j) c.deref_mut.ensures.value) c.write_bits.ensures.places c.add_all.new.faults.items
    (c.in_ok-add_all.ensures ∙ ap (λ xs. old.faults.items ++ xs) found) new (with_items_is old.bits c.write_bits.new.table (c.write_bits.auto.table ∙ (ap length c.deref_mut.ensures.value ∙ sym old.bits.ok.0))) refl
