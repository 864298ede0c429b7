use Rattle.std.proofs.Common.{◌≡◌, drop}
use Rattle.rdl_values.specs.Values.{parameter}
use Rattle.rdl_values.specs.Tabled.{tabled}
use Rattle.rdl_values.proofs.visible.tabled_parameter.Given as goal

abbrev pub invariant-loop-table : goal.invariant-loop-table
invariant-loop-table l = parameter (tabled l.tables) l.name ≡ parameter (tabled (drop l.table-index l.tables)) l.name
