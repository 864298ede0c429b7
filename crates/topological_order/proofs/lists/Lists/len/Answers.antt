use Rattle.std.proofs.Common.{ap, length, arith}
use Rattle.topological_order.proofs.Cuts.{length-cut}
use Rattle.topological_order.proofs.lists.Lists.len.Goals as goal

pub returns-clause-len : goal.returns-clause-len
returns-clause-len c =
    let a = ap length c.self.view_is in let b = length-cut 0 c.self.inside.ends.items c.self.inside.numbers.items in let d = c.self.inside.ends.ok.0 in
    omega (arith, a, b, d, c.len.ensures)
