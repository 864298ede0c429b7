-- The lines of a verdict.
use Rattle.std.specs.Prelude.{ℕ, List, [], ◌∷◌, ◌++◌, codes, flat_map}
use Rattle.std.specs.Fmt.{decimal}
use Rattle.rb_base.specs.Lines.{line_of, column_of}
use Rattle.rdl_base.specs.Rules.{row}
use Rattle.rdl_base.specs.declared.fault.Fault.{Fault}
use Rattle.rb_base.specs.declared.place.Place.{Place}
use Rattle.rdl_base.specs.declared.rule.Rule.{Rule}

-- a line and a column
abbrev pub numbers : (line column : ℕ) → List ℕ
numbers line column = codes ":" ++ decimal line ++ codes ":" ++ decimal column ++ codes ": "

-- those of a place
abbrev pub at_place : (bytes : List ℕ) → ℕ → List ℕ
at_place bytes place = numbers (line_of bytes place) (column_of bytes place)

-- what a rule is called and says
abbrev pub rule_text : Rule → List ℕ
rule_text rule = (row rule).code ++ codes " " ++ (row rule).phrase

-- a text about a file, as a line
abbrev pub file_line : List ℕ → List ℕ → List ℕ
file_line file text = file ++ text ++ 10 ∷ []

-- a rule that is broken at this line and column
abbrev pub broken_at : List ℕ → (line column : ℕ) → Rule → List ℕ
broken_at file line column rule = file_line file (numbers line column ++ rule_text rule)

-- a rule that a source breaks at a place
abbrev pub rule_line : (file source : List ℕ) → Place → Rule → List ℕ
rule_line file source place rule = broken_at file (line_of source place.0) (column_of source place.0) rule

-- all lines of a verdict, in its order
abbrev pub verdict_lines : (file source : List ℕ) → List Fault → List ℕ
verdict_lines file source faults = flat_map (λ f. rule_line file source f.place f.rule) faults

-- that a source breaks no rule
abbrev pub ok_line : List ℕ → List ℕ
ok_line file = file_line file (codes ": ok")
