use Rattle.std.proofs.Common.{◌≡◌, false, List, take}
use Rattle.std.specs.List.{list_any}
use Rattle.rdl_tree.specs.declared.node.Elab.{Elab}
use Rattle.rdl_addr.specs.Bits.{Bits}
use Rattle.rdl_rules.specs.RegisterRules.{is_same_bits}
use Rattle.rdl_fields.specs.Views.{AreViewsOf, IsViewOf}
use Rattle.rdl_field_rules.proofs.likes.has_like.Given as goal

abbrev pub invariant-loop-other : goal.invariant-loop-other
invariant-loop-other l = (e : Elab) (b : Bits) (cs : List Bits) → IsViewOf e l.view b → AreViewsOf e l.others cs → list_any (is_same_bits b) (take l.other-index cs) ≡ false
