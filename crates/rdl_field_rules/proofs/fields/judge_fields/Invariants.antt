use Rattle.std.proofs.Common.{◌≡◌, List, flat_map, take}
use Rattle.rdl_failures.specs.Noted.{with_all}
use Rattle.rdl_addr.specs.Bits.{Bits}
use Rattle.rdl_fields.specs.Views.{AreViewsOf}
use Rattle.rdl_field_rules.specs.Judged.{of_field}
use Rattle.rdl_field_rules.proofs.fields.judge_fields.Given as goal

abbrev pub invariant-loop-view : goal.invariant-loop-view
invariant-loop-view l = (bs : List Bits) → AreViewsOf l.props l.views bs → l.failures ≡ with_all (flat_map of_field (take l.view-index bs)) l.initial.failures
