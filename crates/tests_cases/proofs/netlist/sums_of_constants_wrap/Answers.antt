use Rattle.std.proofs.Common.{◌∙◌, ℕ, sym}
use Rattle.rtl_net.specs.Net.{Net, CanWire, Stands}
use Rattle.rtl_net.specs.declared.node.Id.{Id}
use Rattle.rtl_net.specs.declared.node.NetExpr.TheVariants.{Add}
use Rattle.rtl_net.proofs.Nets.{Stands-has, Stands-grows}
use Rattle.tests_cases.proofs.netlist.sums_of_constants_wrap.Goals as goal

can_add : (net : Net) (a b : Id) (w : ℕ) → Stands net a w → Stands net b w → CanWire net (Add a b)
can_add net a b w p q = (Stands-has net a w p, Stands-has net b w q, p.width ∙ sym q.width)

pub fold-requires : goal.fold-requires
fold-requires c =
    can_add c.wire-2.new.self c.in_ok-a.a c.in_ok-b.b 4 (Stands-grows _ _ _ _ c.in_ok-b.ensures.older c.in_ok-a.ensures.node.stands) c.in_ok-b.ensures.node.stands
