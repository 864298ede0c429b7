-- Enumerations that are looked up by their bodies and numbers.
use Rattle.std.specs.Prelude.{ℕ, Option}
use Rattle.std.specs.BTreeMap.{get}
use Rattle.std.specs.declared.cmp.Ordering.{Ordering}
use Rattle.std.specs.Ordering.{nat_cmp, ordering_then}
use Rattle.rdl_encodings.specs.declared.known.Known.{Known}

-- by body, and then by number in it
abbrev pub number_cmp : ℕ × ℕ → ℕ × ℕ → Ordering
number_cmp a b = ordering_then (nat_cmp a.0 b.0) (nat_cmp a.1 b.1)

abbrev pub known_at : Known → ℕ → ℕ → Option ℕ
known_at t body number = get number_cmp t.numbers (body, number)
