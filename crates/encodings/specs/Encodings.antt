-- Which enumerations the fields of a block are encoded by.
use Rattle.std.specs.Prelude.{ℕ, List, Option}

-- an enumeration: its name, where that stands in the source, the number of the first field that is encoded by it, and its entries with their values
pub record Enumeration : Type 0 where
  pub name : List ℕ
  pub place : ℕ
  pub field : ℕ
  pub entries : List (List ℕ × ℕ)

-- each enumeration once, and the number of the one by which each field is encoded
pub record Enumerations : Type 0 where
  pub list : List Enumeration
  pub fields : List (Option ℕ)
