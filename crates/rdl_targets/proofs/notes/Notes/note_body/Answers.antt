use Rattle.rdl_tree.specs.declared.node.Node.{out-Node}
use Rattle.rdl_targets.proofs.Listing.{all-noted, more-noted, none-noted}
use Rattle.rdl_targets.proofs.notes.Notes.note_body.Goals as goal

pub loop-child-init : goal.loop-child-init
loop-child-init c = none-noted c.args.number c.args.self.now

pub loop-child-preserved : goal.loop-child-preserved
loop-child-preserved c = more-noted c.args.number (out-Node c.args.node.now).children.now c.loop-child.child-index c.child-item.result c.args.self.now c.loop-child.self c.note.new.self c.loop-child-test.true c.child-item.is c.loop-child.invariant c.in_ok-note.ensures

pub returns : goal.returns
returns c = all-noted c.args.number (out-Node c.args.node.now).children.now c.loop-child.child-index c.args.self.now c.loop-child.self c.loop-child-test.false c.loop-child.invariant
