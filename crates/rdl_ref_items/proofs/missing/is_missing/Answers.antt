use Rattle.std.proofs.Common.{◌∙◌, not, sym, ap, arith}
use Rattle.rdl_nodes.proofs.Members.{get-within}
use Rattle.rdl_values.specs.Elaborated.{nodes_of}
use Rattle.rdl_ref_items.proofs.Items.{item-counted, item-node, missing-decr, missing-halt, missing-incr, missing-intr, missing-over, missing-under}
use Rattle.rdl_ref_items.proofs.missing.is_missing.Goals as goal

pub has-counts-requires : goal.has-counts-requires
has-counts-requires c = item-counted c.args.props.now c.requires.clean c.requires.item.0 c.args.item c.requires.item.1

pub bounds-marks-item : goal.bounds-marks-item
bounds-marks-item c = let low = get-within (nodes_of c.args.props.now) c.args.item.node c.requires.item.0.node (item-node c.args.props.now c.requires.item.0 c.args.item c.requires.item.1) in let m = c.requires.marks.many in omega (arith, low, m)

pub bounds-marks-item-in-Halt : goal.bounds-marks-item-in-Halt
bounds-marks-item-in-Halt c = let low = get-within (nodes_of c.args.props.now) c.args.item.node c.requires.item.0.node (item-node c.args.props.now c.requires.item.0 c.args.item c.requires.item.1) in let m = c.requires.marks.many in omega (arith, low, m)

pub returns-in-IncrThreshold : goal.returns-in-IncrThreshold
returns-in-IncrThreshold c = λ i h. ap not (c.has-counts.ensures i.node (item-node c.args.props.now i c.args.item h)) ∙ missing-incr i (sym h.what_ ∙ c.in-IncrThreshold.is)

pub returns-in-DecrThreshold : goal.returns-in-DecrThreshold
returns-in-DecrThreshold c = λ i h. ap not (c.has-counts.ensures i.node (item-node c.args.props.now i c.args.item h)) ∙ missing-decr i (sym h.what_ ∙ c.in-DecrThreshold.is)

pub returns-in-Overflow : goal.returns-in-Overflow
returns-in-Overflow c = λ i h. ap not (c.has-counts.ensures i.node (item-node c.args.props.now i c.args.item h)) ∙ missing-over i (sym h.what_ ∙ c.in-Overflow.is)

pub returns-in-Underflow : goal.returns-in-Underflow
returns-in-Underflow c = λ i h. ap not (c.has-counts.ensures i.node (item-node c.args.props.now i c.args.item h)) ∙ missing-under i (sym h.what_ ∙ c.in-Underflow.is)

pub returns-in-Intr : goal.returns-in-Intr
returns-in-Intr c = λ i h.
    let at = item-node c.args.props.now i c.args.item h in
    ap not (c.requires.marks.each c.args.item.node i.node (get-within (nodes_of c.args.props.now) c.args.item.node i.node at) at).interrupts_ ∙ missing-intr i (sym h.what_ ∙ c.in-Intr.is)

pub returns-in-Halt : goal.returns-in-Halt
returns-in-Halt c = λ i h.
    let at = item-node c.args.props.now i c.args.item h in
    ap not (c.requires.marks.each c.args.item.node i.node (get-within (nodes_of c.args.props.now) c.args.item.node i.node at) at).halts_ ∙ missing-halt i (sym h.what_ ∙ c.in-Halt.is)
