-- What a module does at its clock's edges (IEEE 1364-2005, clauses 6.1, 9.2.2 and 9.7).
use Rattle.std.specs.Prelude.{◌≡◌, ℕ, Bool, ◌==◌, if◌then◌else◌, Option, Some, None, List, [], ◌∷◌, map}
use Rattle.std.specs.Bool.{OnTrue}
use Rattle.std.specs.List.{AllByRecursion}
use Rattle.v_design.specs.Expr.{Values, value_of, Widths}
use Rattle.v_design.specs.Design.{Module, Step, Reset, inputs, outputs, widths}
use Rattle.rb_base.specs.declared.ports.Pin.{Pin}

-- a reset is asserted
abbrev pub is_asserted : Values → Reset → Bool
is_asserted v r = if r.low then v r.pin == 0 else v r.pin == 1

-- the constant of a reset that is asserted, or else the number
abbrev pub under_reset : Values → Option Reset → ℕ → ℕ
under_reset v None x = x
under_reset v (Some r) x = if is_asserted v r then r.value else x

-- the value of a step's net: of a register what it contains, or its constant where its reset is asserted, and of
-- any other net the value of its expression
abbrev pub step_value : Widths → Values → Values → Step → ℕ
step_value ws contents v s = if s.clocked then under_reset v s.reset (contents s.to) else value_of ws v s.expr

-- each driven net has its value
abbrev pub IsSettled : Widths → Values → Values → List Step → Type 0
IsSettled ws contents v ss = AllByRecursion (λ s. v s.to ≡ step_value ws contents v s) ss

-- what a register contains after the edge: its constant where its reset is asserted, or the value of its expression
abbrev pub next_value : Widths → Values → Step → ℕ
next_value ws v s = under_reset v s.reset (value_of ws v s.expr)

-- the registers take what they contain next, all at once
abbrev pub Moves : Widths → Values → Values → List Step → Type 0
Moves ws v after ss = AllByRecursion (λ s. OnTrue s.clocked (after s.to ≡ next_value ws v s)) ss

-- the values of these pins
abbrev pub values_at : Values → List Pin → List ℕ
values_at v ps = map (λ p. v p.name) ps

-- At one edge the nets have values that are settled for the inputs and the contents, the outputs are among them,
-- and the registers move to their contents after the edge.
pub record Edge (m : Module) (contents : Values) (ins outs : List ℕ) (after : Values) : Type 0 where
  pub values : Values
  pub given : values_at values (inputs m) ≡ ins
  pub settled : IsSettled (widths m) contents values m.steps
  pub seen : values_at values (outputs m) ≡ outs
  pub moved : Moves (widths m) values after m.steps

-- from these contents and for these vectors, one an edge, the outputs are these
abbrev pub Run : Module → Values → List (List ℕ) → List (List ℕ) → Type 0
Run m contents [] [] = Unit {0}
Run m contents [] (o ∷ os) = ⊥
Run m contents (x ∷ xs) [] = ⊥
Run m contents (x ∷ xs) (o ∷ os) = (after : Values) × Edge m contents x o after × Run m after xs os
