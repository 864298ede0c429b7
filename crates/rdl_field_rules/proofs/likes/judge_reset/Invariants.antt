use Rattle.std.proofs.Common.{◌≡◌, List, flat_map, take}
use Rattle.rdl_failures.specs.Noted.{with_all}
use Rattle.rdl_addr.specs.Bits.{Bits}
use Rattle.rdl_fields.specs.Views.{AreViewsOf, IsViewOf}
use Rattle.rdl_field_rules.specs.Judged as judged
use Rattle.rdl_field_rules.proofs.likes.judge_reset.Given as goal

abbrev pub invariant-loop-other : goal.invariant-loop-other
invariant-loop-other l = (b : Bits) (cs : List Bits) → IsViewOf l.props l.view b → AreViewsOf l.props l.others cs → l.failures ≡ with_all (flat_map (judged.named_reset b) (take l.other-index cs)) l.initial.failures
