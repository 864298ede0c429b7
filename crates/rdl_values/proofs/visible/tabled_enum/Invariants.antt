use Rattle.std.proofs.Common.{◌≡◌, drop}
use Rattle.rdl_values.specs.Values.{visible_enum}
use Rattle.rdl_values.specs.Tabled.{tabled}
use Rattle.rdl_values.proofs.visible.tabled_enum.Given as goal

abbrev pub invariant-loop-table : goal.invariant-loop-table
invariant-loop-table l = visible_enum (tabled l.tables) l.name ≡ visible_enum (tabled (drop l.table-index l.tables)) l.name
