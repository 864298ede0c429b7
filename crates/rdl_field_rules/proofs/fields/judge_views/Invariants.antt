use Rattle.std.proofs.Common.{◌≡◌, List, flat_map, take}
use Rattle.rdl_props.specs.declared.prop.Prop.TheVariants as prop
use Rattle.rdl_values.specs.Instances.{Instance}
use Rattle.rdl_failures.specs.Noted.{with_all}
use Rattle.rdl_layers.specs.Phase4.{number_at}
use Rattle.rdl_addr.specs.Bits.{Bits}
use Rattle.rdl_rules.specs.FieldRules.{of_view}
use Rattle.rdl_fields.specs.Views.{AreViewsOf}
use Rattle.rdl_field_rules.proofs.fields.judge_views.Given as goal

abbrev pub invariant-loop-view : goal.invariant-loop-view
invariant-loop-view l = (r : Instance) (bs : List Bits) → l.access ≡ number_at r prop.Accesswidth → AreViewsOf l.props l.views bs → l.failures ≡ with_all (flat_map (of_view r) (take l.view-index bs)) l.initial.failures
