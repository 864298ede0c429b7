use Rattle.rdl_open_bodies.proofs.Topmost.{can_top, top_open}
use Rattle.rdl_open_bodies.proofs.roots.open_top.Goals as goal

pub open_node-requires-clause-some : goal.open_node-requires-clause-some
open_node-requires-clause-some c = can_top c.args.elab.now c.requires.clean c.args.walk.now c.top_start.new.walk c.in_ok-start.field-0 c.in-Some.start c.in_ok-start.ensures c.in-Some.is

pub returns : goal.returns
returns c = top_open c.args.elab.now c.requires.clean c.args.walk.now c.top_start.new.walk c.in_ok-start.field-0 c.in-Some.start c.in_ok-start.ensures c.in-Some.is c.open_node.new.walk c.args.spots.now.items c.open_node.new.spots.items c.in_ok-open_node.ensures
