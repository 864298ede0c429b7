-- Which runs a dump can hold (IEEE 1364-2005, clause 18.2; the limits are this project's).
use Rattle.std.specs.List.{AllByRecursion}
use Rattle.std.specs.Prelude.{ℕ, ◌*◌, ◌≤◌, IsTrue, List, length, map}
use Rattle.rb_base.specs.declared.ports.Pin.{Pin}
use Rattle.v_design.specs.WellFormed.{distinct}
use Rattle.v_design.specs.Fits.{AllFit}
use Rattle.vcd_syntax.specs.Words.{is_identifier}
use Rattle.vcd_syntax.specs.Faulty.{most_times, most_values}

-- the rows of a module of this name with these pins, within the limits of a table
pub record CanBeDumped (name : List ℕ) (ps : List Pin) (rows : List (List ℕ)) : Type 0 where
  pub named : IsTrue (is_identifier name)
  pub names : AllByRecursion (λ p. IsTrue (is_identifier p.name)) ps
  pub apart : IsTrue (distinct (map (λ p. p.name) ps))
  pub widths : AllByRecursion (λ p. (1 ≤ p.width) × (p.width ≤ 128)) ps
  pub fits : AllFit ps rows
  pub few_rows : length rows ≤ most_times
  pub few_values : length rows * length ps ≤ most_values
