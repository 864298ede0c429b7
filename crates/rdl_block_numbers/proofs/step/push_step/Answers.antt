use Rattle.rdl_block_numbers.proofs.Joining.{all-text, more-text}
use Rattle.rdl_block_numbers.proofs.step.push_step.Goals as goal

pub loop-each-preserved : goal.loop-each-preserved
loop-each-preserved c = more-text c.args.bytes.now.items c.args.name.now c.args.index.now c.loop-each.each-index 0 c.loop-each-test.true c.loop-each.bytes.items c.loop-each.bytes.items c.push_index.new.bytes.items c.loop-each.invariant c.in_ok-push_index.ensures

pub returns : goal.returns
returns c = all-text c.args.bytes.now.items c.args.name.now c.args.index.now c.loop-each.each-index c.loop-each-test.false c.loop-each.bytes.items c.loop-each.invariant
