use Rattle.rdl_targets.proofs.Listing.{all-bodies, more-bodies, none-noted}
use Rattle.rdl_targets.proofs.notes.Notes.note_all.Goals as goal

pub loop-node-init : goal.loop-node-init
loop-node-init c = none-noted c.args.number c.args.self.now

pub loop-node-preserved : goal.loop-node-preserved
loop-node-preserved c = more-bodies c.args.number c.args.rows.now c.args.nodes.now c.loop-node.node-index 0 c.args.self.now c.loop-node.self c.note_at.new.self c.loop-node-test.true c.loop-node.invariant c.in_ok-note_at.ensures

pub returns : goal.returns
returns c = all-bodies c.args.number c.args.rows.now c.args.nodes.now c.loop-node.node-index c.args.self.now c.loop-node.self c.loop-node-test.false c.loop-node.invariant
