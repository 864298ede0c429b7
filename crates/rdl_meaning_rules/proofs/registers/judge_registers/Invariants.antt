use Rattle.std.proofs.Common.{◌≡◌, [], cond, flat_map, take}
use Rattle.rdl_tree.specs.declared.item.Kind.TheVariants as kinds
use Rattle.rdl_values.specs.Elaborated.{nodes_of}
use Rattle.rdl_failures.specs.Noted.{with_all}
use Rattle.rdl_layers.specs.Fields.{is_a}
use Rattle.rdl_field_rules.specs.Judged.{register_failures}
use Rattle.rdl_meaning_rules.proofs.registers.judge_registers.Given as goal

abbrev pub invariant-loop-at : goal.invariant-loop-at
invariant-loop-at l = l.failures ≡ with_all (flat_map (λ n. cond (is_a kinds.Reg n) (register_failures (nodes_of l.props) n) []) (take l.at (nodes_of l.props))) l.initial.failures
