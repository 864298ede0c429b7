use Rattle.std.proofs.Common.{◌∙◌, subst}
use Rattle.rtl_net.specs.Made.{IsMade}
use Rattle.rtl_net.proofs.Values.{folded_can, folded_value}
use Rattle.rtl_net.proofs.net.Netlist.folded.Goals as goal

pub returns-in-Some-clause-can : goal.returns-in-Some-clause-can
returns-in-Some-clause-can c =
    let made : IsMade c.args.self.now = subst IsMade c.self.view_is c.self.invariant.0 in
    rw (c.expr_width.ensures, c.in-Some.ensures.some.1) (folded_can c.args.self.now made c.args.expr c.requires c.in-Some.ensures.some.0)

pub returns-in-Some-clause-value : goal.returns-in-Some-clause-value
returns-in-Some-clause-value c = λ v s. c.in-Some.ensures.some.1 ∙ folded_value c.args.self.now c.args.expr c.in-Some.ensures.some.0 v s
