use Rattle.std.proofs.Common.{◌≡◌, ◌+◌, ◌*◌, ◌^◌, ◌<◌, subst, sym}
use Rattle.rtl_net.specs.Net.{CanWire, width_in}
use Rattle.rtl_net.specs.declared.node.NetExpr.TheVariants.{Cat}
use Rattle.rtl_net.proofs.Numbers.{cat_fits, wider}
use Rattle.rtl_net.proofs.net.Netlist.computed.Goals as goal

pub joined-requires-clause-fits : goal.joined-requires-clause-fits
joined-requires-clause-fits c =
    let can : CanWire c.args.self.now (Cat c.in-Cat.a c.in-Cat.b) = subst (λ e. CanWire c.args.self.now e) c.in-Cat.is c.requires in
    let b : c.width.result ≡ width_in c.args.self.now c.in-Cat.b = c.width.ensures.operand can.1.1 in
    let both = width_in c.args.self.now c.in-Cat.a + width_in c.args.self.now c.in-Cat.b in
    wider _ both 128 can.2 (subst (λ w. c.in_ok-constant-in-Cat.field-0 * 2 ^ w + c.in_ok-constant-in-Cat-2.field-0 < 2 ^ both) (sym b)
    (cat_fits _ _ (width_in c.args.self.now c.in-Cat.a) (width_in c.args.self.now c.in-Cat.b) c.in_ok-constant-in-Cat.ensures.fits c.in_ok-constant-in-Cat-2.ensures.fits))
