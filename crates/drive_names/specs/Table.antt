-- What names mean, as it is looked up.
use Rattle.std.specs.Prelude.{ℕ, List, Option}
use Rattle.std.specs.BTreeMap.{get_by}
use Rattle.std.specs.Cmp.Lexicographic.{slice_cmp}
use Rattle.std.specs.Ordering.{nat_cmp}
use Rattle.drive_names.specs.declared.table.Meaning.{Meaning}
use Rattle.drive_names.specs.declared.table.Table.{Table}

abbrev pub meaning_in : Table → List ℕ → Option Meaning
meaning_in t name = get_by (λ k. slice_cmp nat_cmp name k.now) t.meanings
