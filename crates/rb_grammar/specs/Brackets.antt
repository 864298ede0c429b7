-- How many brackets are open in a list of tokens.
use Rattle.std.specs.List.{fold}
use Rattle.std.specs.Prelude.{ℕ, ◌+◌, ◌-◌, ◌<◌, ◌≤◌, List, length, take}
use Rattle.rb_grammar.specs.declared.nesting.Nesting.{Nesting}
use Rattle.rb_grammar.specs.declared.nesting.Nesting.TheVariants.{Opens, Closes, Neither}

-- how many are open after one more token; where none is open, none is closed
abbrev pub counted : ℕ → Nesting → ℕ
counted n Opens = n + 1
counted n Closes = n - 1
counted n Neither = n

-- how many are open after these tokens
abbrev pub open_after : {K : Type 0} → (K → Nesting) → List K → ℕ
open_after nesting ts = fold (λ n t. counted n (nesting t)) 0 ts

-- never more than so many are open
abbrev pub StaysWithin : {K : Type 0} → (K → Nesting) → ℕ → List K → Type 0
StaysWithin nesting most ts = (i : ℕ) → i ≤ length ts → open_after nesting (take i ts) ≤ most

-- with the token at this index more are open, and never before
pub record IsFirstTooDeep {K : Type 0} (nesting : K → Nesting) (most : ℕ) (ts : List K) (i : ℕ) : Type 0 where
  pub within : i < length ts
  pub before : StaysWithin nesting most (take i ts)
  pub passes : most < open_after nesting (take (i + 1) ts)
