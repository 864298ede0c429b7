-- Only the properties that take references name items.
use Rattle.std.proofs.Common.{◌≡◌, List, ◌++◌, flat_map, ap}
use Rattle.rdl_props.specs.Table.{props}
use Rattle.rdl_values.specs.Instances.{Instance}
use Rattle.rdl_values.specs.Lineages.{Lineage}
use Rattle.rdl_layers.specs.Settings.{setting}
use Rattle.rdl_layers.proofs.Formed.{never_reference}
use Rattle.rdl_refs.proofs.Listed.{no_target, over_all}
use Rattle.rdl_rules.specs.ReferenceRules.{bad_item, bad_target, wide_reset, of_references}

pub all_judged : (all : List Lineage) (n : Instance) → of_references all n ≡ flat_map (bad_target all n) props ++ wide_reset all n
all_judged all n = ap (λ fs. fs ++ wide_reset all n) (over_all (bad_target all n) (λ p e. ap (flat_map (bad_item n p (setting n p))) (no_target all (setting n p) (λ q item scope place. never_reference n p q item scope place e))))
