use Rattle.std.proofs.Common.{◌∙◌, ◌+◌, ◌<◌, length, get_or, sym, subst, refl, arith}
use Rattle.rdl_tree.specs.declared.node.Node.{out-Node}
use Rattle.rdl_nodes.proofs.Members.{get-made, get-within}
use Rattle.rdl_addr.specs.Layout.{has_address}
use Rattle.rdl_sizes.specs.Bodies.{addressed}
use Rattle.rdl_sizes.proofs.Gathered.{placed-by-kind}
use Rattle.rdl_sizes.proofs.Offsets.{Written, none-written, passed-over, room, written-one}
use Rattle.rdl_sizes.proofs.Turns.{read-at}
use Rattle.rdl_sizes.proofs.writing.write_offsets.Goals as goal
use Rattle.rdl_sizes.proofs.writing.write_offsets.Goals.{then-has_address, else-has_address}

pub loop-child-init : goal.loop-child-init
loop-child-init c = none-written 0 addressed has_address placed-by-kind c.args.offsets.now c.args.starts.now c.args.children.now

pub loop-child-preserved : goal.loop-child-preserved
loop-child-preserved c =
    let old = c.args.offsets.now in
    let now = c.loop-child.offsets in
    let starts = c.args.starts.now in
    let rs = c.args.children.now in
    let i = c.loop-child.child-index in
    let next = c.loop-child.next in
    let r = c.child-item.result in
    let w = c.loop-child.invariant in
    let here = read-at rs i r c.loop-child-test.true c.child-item.is in
    elim c.if-has_address.branch [
      | then-has_address t ↦
          let kind = sym c.has_address.ensures ∙ t.if-has_address.true in
          let low : next < length starts = room 0 addressed has_address placed-by-kind old now starts rs i next w r here kind c.requires.many in
          let within : (out-Node r).id < length now = subst (λ n. (out-Node r).id < n) (sym w.long) (subst (λ x. (out-Node x).id < length old) (sym c.child-item.is) (c.requires.within i r c.loop-child-test.true)) in
          subst (λ n. Written 0 addressed has_address placed-by-kind old c.if-has_address.offsets starts rs (i + 1) n) (sym t.next-is)
          (written-one 0 addressed has_address placed-by-kind old now starts rs i next w r here kind c.requires.many within (get_or starts next 0) (get-made starts next 0 (get_or starts next 0) low refl) c.if-has_address.offsets t.offsets-is)
      | else-has_address t ↦
          let kind = sym c.has_address.ensures ∙ t.if-has_address.false in
          subst (λ o. Written 0 addressed has_address placed-by-kind old o starts rs (i + 1) c.if-has_address.next) (sym t.offsets-is) (subst (λ n. Written 0 addressed has_address placed-by-kind old now starts rs (i + 1) n) (sym t.next-is) (passed-over 0 addressed has_address placed-by-kind old now starts rs i next w r here kind))
    ]

pub bounds-starts-next : goal.bounds-starts-next
bounds-starts-next c =
    room 0 addressed has_address placed-by-kind c.args.offsets.now c.loop-child.offsets c.args.starts.now c.args.children.now c.loop-child.child-index c.loop-child.next c.loop-child.invariant c.child-item.result
    (read-at c.args.children.now c.loop-child.child-index c.child-item.result c.loop-child-test.true c.child-item.is) (sym c.has_address.ensures ∙ c.if-has_address.true) c.requires.many

pub offset_bounds-starts-next : goal.offset_bounds-starts-next
offset_bounds-starts-next c =
    let low : c.loop-child.next < length c.args.starts.now =
    room 0 addressed has_address placed-by-kind c.args.offsets.now c.loop-child.offsets c.args.starts.now c.args.children.now c.loop-child.child-index c.loop-child.next c.loop-child.invariant c.child-item.result
    (read-at c.args.children.now c.loop-child.child-index c.child-item.result c.loop-child-test.true c.child-item.is) (sym c.has_address.ensures ∙ c.if-has_address.true) c.requires.many in
    omega arith

pub overflow_add-next : goal.overflow_add-next
overflow_add-next c =
    let low : c.loop-child.next < length c.args.starts.now =
    room 0 addressed has_address placed-by-kind c.args.offsets.now c.loop-child.offsets c.args.starts.now c.args.children.now c.loop-child.child-index c.loop-child.next c.loop-child.invariant c.child-item.result
    (read-at c.args.children.now c.loop-child.child-index c.child-item.result c.loop-child-test.true c.child-item.is) (sym c.has_address.ensures ∙ c.if-has_address.true) c.requires.many in
    omega arith

pub returns-clause-places : goal.returns-clause-places
returns-clause-places c = λ all l cs os h a b j r n at cat t.
    let w = c.loop-child.invariant in
    let low = get-within c.args.children.now j r at in
    w.places all l cs os h a b j r n (omega (arith, low, c.loop-child-test.false)) at cat t
