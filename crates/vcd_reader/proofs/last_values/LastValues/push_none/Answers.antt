use Rattle.vcd_reader.proofs.Values.{pushes_none}
use Rattle.vcd_reader.proofs.last_values.LastValues.push_none.Goals as goal

pub returns : goal.returns
returns c = pushes_none c.self.inside.cells.items c.self.inside.wide.items c.push-2.new.self.items c.push.new.self.items c.args.self.now c.self.view_is c.self.invariant c.in_ok-push.ensures.items c.in_ok-push-2.ensures.items
