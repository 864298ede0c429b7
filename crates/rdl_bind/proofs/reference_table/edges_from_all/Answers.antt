use Rattle.std.proofs.Common.{◌∙◌, sym, subst, arith}
use Rattle.rdl_refs.specs.Answers.{AreItems}
use Rattle.rdl_bind.proofs.ReferenceLists.{all-lists, has-item, one-list}
use Rattle.rdl_bind.proofs.reference_table.edges_from_all.Goals as goal

pub edges_from-requires-clause-item : goal.edges_from-requires-clause-item
edges_from-requires-clause-item c =
    has-item c.args.known.props.now c.args.items.now (subst (AreItems c.args.known.props.now) (sym c.requires.items) c.requires.known.numbers_.listed) c.loop-item.item-index _ c.loop-item-test.true

pub loop-item-preserved : goal.loop-item-preserved
loop-item-preserved c =
    let e = c.args.known.props.now in
    let are = subst (AreItems e) (sym c.requires.items) c.requires.known.numbers_.listed in
    one-list e c.args.items.now are c.loop-item.item-index _ c.loop-item-test.true c.loop-item.edges c.add.new.self c.deref.result.now c.loop-item.invariant (λ i is. c.deref.ensures.value ∙ c.in_ok-list.ensures i is) c.in_ok-add.ensures.ok

pub returns : goal.returns
returns c =
    let e = c.args.known.props.now in
    let are = subst (AreItems e) (sym c.requires.items) c.requires.known.numbers_.listed in
    all-lists e c.args.items.now are c.loop-item.item-index (omega (arith, c.loop-item-test.false)) c.loop-item.edges c.loop-item.invariant
