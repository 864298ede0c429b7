-- Parameters and arguments by name.
use Rattle.std.specs.Prelude.{ℕ, List, map, flat_map}
use Rattle.rdl_base.specs.declared.fault.Fault.{Fault}
use Rattle.rdl_base.specs.declared.rule.Rule.TheVariants as rules
use Rattle.rdl_tree.specs.declared.item.Arg.{Arg}
use Rattle.rdl_tree.specs.declared.item.Param.{Param}
use Rattle.rdl_values.specs.Bodies.{standing}
use Rattle.rdl_values.specs.Faults.{at_, when}
use Rattle.rdl_values.specs.Parameters.{is_bad_argument}

abbrev pub names_of_params : List Param → List (List ℕ)
names_of_params ps = map (λ p. p.name.text.now) ps

abbrev pub names_of_args : List Arg → List (List ℕ)
names_of_args args = map (λ a. a.name.text.now) args

-- E6: an argument of no parameter, or of one that has an argument before
abbrev pub bad_args : List Param → List Arg → List Fault
bad_args ps args = flat_map (λ a. when (is_bad_argument ps a.0 a.1) (at_ rules.E6 a.1.name.place)) (standing args)
