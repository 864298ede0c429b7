-- The tables of numbers of fields, one field after the other.
use Rattle.std.specs.Prelude.{ℕ, List, [], ◌∷◌, ◌++◌, Option, None, Some, get_or, map, slice_set}
use Rattle.std.specs.List.{range_with_len}
use Rattle.rb_model.specs.declared.block.Field.{Field}
use Rattle.html_manual.specs.declared.tables.Tables.{Tables}
use Rattle.html_manual.specs.Interrupts.{counts_for, filed_at, uses_halt, uses_intr}

-- the number k behind the others of a register, if there is that register
abbrev pub added : List (List ℕ) → Option ℕ → ℕ → List (List ℕ)
added lists None k = lists
added lists (Some r) k = slice_set lists r (get_or lists r [] ++ k ∷ [])

abbrev pub field_added : Tables → ℕ → Field → Tables
field_added t k f = record {
  counted = added t.counted (counts_for f) k;
  intr_users = added t.intr_users (uses_intr f) k;
  halt_users = added t.halt_users (uses_halt f) k;
}

-- of so many registers
abbrev pub filed_among : (Field → Option ℕ) → List Field → ℕ → List (List ℕ)
filed_among place fs n = map (filed_at place fs) (range_with_len 0 n)

abbrev pub tables_among : List Field → ℕ → Tables
tables_among fs n = record { counted = filed_among counts_for fs n; intr_users = filed_among uses_intr fs n; halt_users = filed_among uses_halt fs n }
