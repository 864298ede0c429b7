-- Failures of indices.
use Rattle.std.specs.Prelude.{List, flat_map}
use Rattle.rdl_base.specs.declared.fault.Fault.{Fault}
use Rattle.rdl_tree.specs.declared.expr.Expr.{Expr}
use Rattle.rdl_values.specs.Faults.{failures}
use Rattle.rdl_values.specs.Values.{Around, number_of}

-- of each of some numbers
abbrev pub bad_numbers : Around → List Expr → List Fault
bad_numbers env es = flat_map (λ e. failures (number_of env e)) es
