use Rattle.std.proofs.Common.{◌≡◌, ◌∙◌, ◌+◌, ◌<◌, length, map, slice_get, Some, sym, subst, ap, refl, arith}
use Rattle.plain_lemmas.proofs.Lists.{length-map as long-map}
use Rattle.rdl_tree.specs.declared.item.Kind.TheVariants as kinds
use Rattle.rdl_tree.specs.declared.node.Node.{out-Node}
use Rattle.rdl_layers.specs.Fields.{is_a}
use Rattle.rdl_tree.specs.Kinds.{same_kind}
use Rattle.rdl_nodes.proofs.Members.{get-made, get-map, get-within}
use Rattle.rdl_sizes.proofs.Offsets.{Written, none-written, passed-over, room, written-one}
use Rattle.rdl_sizes.proofs.Turns.{read-at}
use Rattle.rdl_bits.specs.Written.{narrowed}
use Rattle.rdl_bits.proofs.Fielded.{same_field}
use Rattle.rdl_bits.proofs.writes.write_bits.Goals as goal
use Rattle.rdl_bits.proofs.writes.write_bits.Goals.{then-is_field, else-is_field}

pub loop-child-init : goal.loop-child-init
loop-child-init c = none-written (0, 0) (same_kind kinds.Field) (is_a kinds.Field) same_field c.args.table.now (map narrowed c.args.bits.now) c.args.children.now

pub loop-child-preserved : goal.loop-child-preserved
loop-child-preserved c =
    let old = c.args.table.now in
    let now = c.loop-child.table in
    let starts = map narrowed c.args.bits.now in
    let rs = c.args.children.now in
    let i = c.loop-child.child-index in
    let next = c.loop-child.next in
    let r = c.child-item.result in
    let w = c.loop-child.invariant in
    let here = read-at rs i r c.loop-child-test.true c.child-item.is in
    let many = c.requires.many ∙ sym (long-map narrowed c.args.bits.now) in
    elim c.if-is_field.branch [
      | then-is_field t ↦
          let kind = sym c.is_field.ensures ∙ t.if-is_field.true in
          let low : next < length starts = room (0, 0) (same_kind kinds.Field) (is_a kinds.Field) same_field old now starts rs i next w r here kind many in
          let low' : next < length c.args.bits.now = subst (λ n. next < n) (long-map narrowed c.args.bits.now) low in
          let within : (out-Node r).id < length now = subst (λ n. (out-Node r).id < n) (sym w.long) (subst (λ x. (out-Node x).id < length old) (sym c.child-item.is) (c.requires.within i r c.loop-child-test.true)) in
          let value : slice_get starts next ≡ Some t.narrowed.result = get-map narrowed c.args.bits.now next _ (get-made c.args.bits.now next _ _ low' refl) ∙ ap Some (sym t.narrowed.ensures) in
          subst (λ n. Written (0, 0) (same_kind kinds.Field) (is_a kinds.Field) same_field old c.if-is_field.table starts rs (i + 1) n) (sym t.next-is)
          (written-one (0, 0) (same_kind kinds.Field) (is_a kinds.Field) same_field old now starts rs i next w r here kind many within t.narrowed.result value c.if-is_field.table t.table-is)
      | else-is_field t ↦
          let kind = sym c.is_field.ensures ∙ t.if-is_field.false in
          subst (λ o. Written (0, 0) (same_kind kinds.Field) (is_a kinds.Field) same_field old o starts rs (i + 1) c.if-is_field.next) (sym t.table-is)
          (subst (λ n. Written (0, 0) (same_kind kinds.Field) (is_a kinds.Field) same_field old now starts rs (i + 1) n) (sym t.next-is) (passed-over (0, 0) (same_kind kinds.Field) (is_a kinds.Field) same_field old now starts rs i next w r here kind))
    ]

low-next : (c : goal.Then-is_field) → c.loop-child.next < length c.args.bits.now
low-next c =
    let many = c.requires.many ∙ sym (long-map narrowed c.args.bits.now) in
    subst (λ n. c.loop-child.next < n) (long-map narrowed c.args.bits.now)
    (room (0, 0) (same_kind kinds.Field) (is_a kinds.Field) same_field c.args.table.now c.loop-child.table (map narrowed c.args.bits.now) c.args.children.now c.loop-child.child-index c.loop-child.next c.loop-child.invariant c.child-item.result
    (read-at c.args.children.now c.loop-child.child-index c.child-item.result c.loop-child-test.true c.child-item.is) (sym c.is_field.ensures ∙ c.if-is_field.true) many)

pub bounds-bits-next : goal.bounds-bits-next
bounds-bits-next c = low-next c

pub offset_bounds-bits-next : goal.offset_bounds-bits-next
offset_bounds-bits-next c = let low = low-next c in omega arith

pub overflow_add-next : goal.overflow_add-next
overflow_add-next c =
    let many = c.requires.many ∙ sym (long-map narrowed c.args.bits.now) in
    let low : c.loop-child.next < length c.args.bits.now =
    subst (λ n. c.loop-child.next < n) (long-map narrowed c.args.bits.now)
    (room (0, 0) (same_kind kinds.Field) (is_a kinds.Field) same_field c.args.table.now c.loop-child.table (map narrowed c.args.bits.now) c.args.children.now c.loop-child.child-index c.loop-child.next c.loop-child.invariant c.child-item.result
    (read-at c.args.children.now c.loop-child.child-index c.child-item.result c.loop-child-test.true c.child-item.is) (sym c.is_field.ensures ∙ c.if-is_field.true) many) in
    omega arith

pub returns-clause-places : goal.returns-clause-places
returns-clause-places c = λ all l cs os h a b j r n at cat t.
    let w = c.loop-child.invariant in
    let low = get-within c.args.children.now j r at in
    w.places all l cs os h a b j r n (omega (arith, low, c.loop-child-test.false)) at cat t
