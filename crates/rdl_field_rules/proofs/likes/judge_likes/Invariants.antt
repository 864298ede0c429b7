use Rattle.std.proofs.Common.{◌≡◌, List, flat_map, take}
use Rattle.rdl_tree.specs.declared.node.Elab.{Elab}
use Rattle.rdl_failures.specs.Noted.{with_all}
use Rattle.rdl_addr.specs.Bits.{Bits}
use Rattle.rdl_fields.specs.Views.{AreViewsOf}
use Rattle.rdl_field_rules.specs.Judged as judged
use Rattle.rdl_field_rules.proofs.likes.judge_likes.Given as goal

abbrev pub invariant-loop-view : goal.invariant-loop-view
invariant-loop-view l = (e : Elab) (bs cs : List Bits) → AreViewsOf e l.views bs → AreViewsOf e l.others cs → l.failures ≡ with_all (flat_map (judged.unlike cs) (take l.view-index bs)) l.initial.failures
