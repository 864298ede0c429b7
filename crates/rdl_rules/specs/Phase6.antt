-- Which rules on the meaning of settings fail where.
use Rattle.std.specs.Prelude.{ℕ, List, ◌++◌, flat_map, Option, Contains}
use Rattle.rdl_base.specs.declared.fault.Fault.{Fault}
use Rattle.rdl_base.specs.declared.rule.Rule.TheVariants as rules
use Rattle.rdl_tree.specs.declared.item.Source.{Source}
use Rattle.rdl_values.specs.Verdict.{Fails}
use Rattle.rdl_values.specs.Uses.{at_}
use Rattle.rdl_values.specs.Instances.{children, nodes, signals, top_of}
use Rattle.rdl_values.specs.Lineages.{lineages}
use Rattle.rdl_refs.specs.Follows.{FailsR7}
use Rattle.rdl_rules.specs.Numbers.{registers}
use Rattle.rdl_rules.specs.RegisterRules.{of_register, empty_container, too_many_fields}
use Rattle.rdl_rules.specs.ReferenceRules.{of_references, second_reset}

-- all failures of the phase but those of R7
unfoldable pub failures6 : Option (List ℕ) → Source → List Fault
failures6 wanted s =
    flat_map (of_register (nodes wanted s)) (registers (nodes wanted s))
    ++ flat_map empty_container (nodes wanted s)
    ++ too_many_fields (top_of wanted s) (nodes wanted s)
    ++ flat_map (of_references (lineages wanted s)) (nodes wanted s)
    ++ flat_map (λ n. second_reset (children n)) (nodes wanted s)
    ++ second_reset (signals s)

abbrev pub fails6 : Option (List ℕ) → Source → Fails
fails6 wanted s rules.R7 p = FailsR7 (lineages wanted s) p
fails6 wanted s r p = Contains (failures6 wanted s) (at_ r p)
