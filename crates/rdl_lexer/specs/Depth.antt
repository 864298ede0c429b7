-- How deep a list of tokens nests (this project's rule): how many brackets are open, and how many operators the expression
-- has that is being read, outside its inner brackets.
use Rattle.std.specs.List.{fold}
use Rattle.std.specs.Prelude.{◌≡◌, ℕ, ◌+◌, ◌<◌, ◌≤◌, true, false, if◌then◌else◌, List, [], ◌∷◌, length, take, refl}
use Rattle.rdl_tree.specs.declared.token.Mark.{Mark}
use Rattle.rdl_tree.specs.declared.token.Mark.TheVariants as marks
use Rattle.rdl_tree.specs.declared.token.TokenKind.{TokenKind}
use Rattle.rdl_tree.specs.declared.token.TokenKind.TheVariants as kinds
use Rattle.rdl_tree.specs.declared.token.Token.{Token}
use Rattle.rdl_lexer.specs.declared.depth.Effect.{Effect}
use Rattle.rdl_lexer.specs.declared.depth.Effect.TheVariants.{Opens, Closes, Operates, Asks, Answers, Ends, Nothing}
use Rattle.rdl_lexer.specs.declared.depth.Level.{Level}
use Rattle.rdl_lexer.specs.declared.depth.TheConstants.{MOST}

-- what a mark does
abbrev pub mark_effect : Mark → Effect
mark_effect marks.OpenBrace = Opens
mark_effect marks.OpenBracket = Opens
mark_effect marks.OpenParen = Opens
mark_effect marks.CloseBrace = Closes
mark_effect marks.CloseBracket = Closes
mark_effect marks.CloseParen = Closes
mark_effect marks.OrOr = Operates
mark_effect marks.AndAnd = Operates
mark_effect marks.Or = Operates
mark_effect marks.Caret = Operates
mark_effect marks.And = Operates
mark_effect marks.EqualEqual = Operates
mark_effect marks.NotEqual = Operates
mark_effect marks.Less = Operates
mark_effect marks.LessEqual = Operates
mark_effect marks.Greater = Operates
mark_effect marks.GreaterEqual = Operates
mark_effect marks.ShiftLeft = Operates
mark_effect marks.ShiftRight = Operates
mark_effect marks.Plus = Operates
mark_effect marks.Minus = Operates
mark_effect marks.Star = Operates
mark_effect marks.Slash = Operates
mark_effect marks.Percent = Operates
mark_effect marks.StarStar = Operates
mark_effect marks.Not = Operates
mark_effect marks.Question = Asks
mark_effect marks.Colon = Answers
mark_effect marks.Semicolon = Ends
mark_effect marks.Comma = Ends
mark_effect marks.Equals = Ends
mark_effect marks.At = Ends
mark_effect marks.PlusEquals = Ends
mark_effect marks.PercentEquals = Ends
mark_effect m = Nothing

abbrev pub kind_effect : TokenKind → Effect
kind_effect (kinds.Mark m) = mark_effect m
kind_effect kind = Nothing

abbrev pub effect : Token → Effect
effect t = kind_effect t.kind

-- an expression that begins: no operators, and no ? that waits for its :
abbrev pub fresh : Level
fresh = record { operators = 0; waits = false }

-- the expression that is being read, and those round the brackets that are open, innermost first
pub record Depth : Type 0 where
  pub inner : Level
  pub outer : List Level

abbrev pub start : Depth
start = record { inner = fresh; outer = [] }

-- the bracket is closed, if one is open
abbrev pub closed : Level → List Level → Depth
closed inner [] = record { inner = inner; outer = [] }
closed inner (level ∷ outer) = record { inner = level; outer = outer }

-- After one more token. A : that belongs to a ? of its own bracket goes on with the expression, and any other ends it, as
-- that of a range does.
abbrev pub deeper : Depth → Effect → Depth
deeper d Opens = record { inner = fresh; outer = d.inner ∷ d.outer }
deeper d Closes = closed d.inner d.outer
deeper d Operates = record { inner = record { operators = d.inner.operators + 1; waits = d.inner.waits }; outer = d.outer }
deeper d Asks = record { inner = record { operators = d.inner.operators + 1; waits = true }; outer = d.outer }
deeper d Answers = record { inner = record { operators = (if d.inner.waits then d.inner.operators else 0); waits = false }; outer = d.outer }
deeper d Ends = record { inner = fresh; outer = d.outer }
deeper d Nothing = d

abbrev pub depth_by : {K : Type 0} → (K → Effect) → List K → Depth
depth_by effect ts = fold (λ d t. deeper d (effect t)) start ts

-- the depth behind these tokens
abbrev pub depth_after : List Token → Depth
depth_after ts = depth_by effect ts

-- at most 64 brackets are open, and the expression has at most 64 operators
pub record IsWithin (d : Depth) : Type 0 where
  pub brackets : length d.outer ≤ MOST
  pub operators : d.inner.operators ≤ MOST

-- no token nests too deep
abbrev pub StaysWithin : List Token → Type 0
StaysWithin ts = (i : ℕ) → i ≤ length ts → IsWithin (depth_after (take i ts))

-- the token at this index is the first that nests too deep
pub record IsFirstTooDeep (ts : List Token) (i : ℕ) : Type 0 where
  pub within : i < length ts
  pub before : StaysWithin (take i ts)
  pub passes : IsWithin (depth_after (take (i + 1) ts)) → ⊥

-- Worked cases, of marks alone.

abbrev operators : List Mark → ℕ
operators ms = (depth_by mark_effect ms).inner.operators

abbrev brackets : List Mark → ℕ
brackets ms = length (depth_by mark_effect ms).outer

-- a + b ? c : d + e: the : is that of the ?
choice : operators (marks.Plus ∷ marks.Question ∷ marks.Colon ∷ marks.Plus ∷ []) ≡ 3
choice = refl

-- a[b + c : d: the : of a range begins another expression
range : operators (marks.OpenBracket ∷ marks.Plus ∷ marks.Colon ∷ []) ≡ 0
range = refl

-- a ? (b + c : here the : is not that of the ? outside
inside : operators (marks.Question ∷ marks.OpenParen ∷ marks.Plus ∷ marks.Colon ∷ []) ≡ 0
inside = refl

-- a + (b * c * d) + e: brackets keep their operators to themselves
apart : operators (marks.Plus ∷ marks.OpenParen ∷ marks.Star ∷ marks.Star ∷ marks.CloseParen ∷ marks.Plus ∷ []) ≡ 2
apart = refl

-- f = a + b, g = !c
anew : operators (marks.Equals ∷ marks.Plus ∷ marks.Comma ∷ marks.Equals ∷ marks.Not ∷ []) ≡ 1
anew = refl

-- { { a[b] (
nested : brackets (marks.OpenBrace ∷ marks.OpenBrace ∷ marks.OpenBracket ∷ marks.CloseBracket ∷ marks.OpenParen ∷ []) ≡ 3
nested = refl
