use Rattle.std.proofs.Common.{◌≡◌, ◌≤◌, ap, ◌∙◌, length, arith, get_or}
use Rattle.rtl_net.specs.Net.{width_in}
use Rattle.rtl_net.specs.contracts.net.Netlist.{the_view}
use Rattle.rtl_net.proofs.NodeLists.{length-widths}
use Rattle.rtl_net.proofs.Widths.{width_most}
use Rattle.rtl_net.proofs.net.Netlist.width.Goals as goal

pub bounds-widths-id : goal.bounds-widths-id
bounds-widths-id c =
    let e : length c.widths.result.now ≡ length c.self.inside.nodes = ap length c.widths.ensures ∙ length-widths c.self.inside.nodes in
    let n : length c.self.inside.nodes ≡ length c.args.self.now.nodes = ap (λ x. length x.nodes) c.self.view_is in
    omega (arith, e, n)

pub returns-clause-most : goal.returns-clause-most
returns-clause-most c =
    let m : width_in (the_view c.self.inside) c.args.id ≤ 128 = width_most (the_view c.self.inside) c.self.invariant.0 c.args.id in
    let e : get_or c.widths.result.now c.args.id.0 0 ≡ width_in (the_view c.self.inside) c.args.id = ap (λ ws. get_or ws c.args.id.0 0) c.widths.ensures in
    omega (arith, m, e, c.max.ensures)
