-- How a reading of tokens ended.
use Rattle.std.specs.Prelude.{◌≡◌, ℕ, List, drop}
use Rattle.rb_base.specs.declared.place.Place.{Place}
use Rattle.rb_grammar.specs.Forms.{Non, StopsAt}
use Rattle.rdl_tree.specs.declared.token.Token.{Token}
use Rattle.rdl_tree.specs.Grammar.{Source, grammar}
use Rattle.rdl_parser.specs.declared.error.ParseError.{ParseError}
use Rattle.rdl_parser.specs.declared.error.ParseError.TheVariants as errors
use Rattle.rdl_parser.specs.declared.reading.Unread.{Unread}
use Rattle.rdl_parser.specs.declared.reading.Unread.TheVariants as unread
use Rattle.rdl_parser.specs.Judging.{IsWrongAt, IsTooDeepAt}
use Rattle.rdl_parser.specs.Verdicts.{place_of, rule_of}

-- the tokens stop being a source before what is left
abbrev pub StopsThere : List Token → Unread → Type 0
StopsThere ts (unread.Syntax left) = StopsAt grammar (Non Source) ts left.now
StopsThere ts unread.NoMemory = Unit {0}

-- the tokens are wrong, or nest too deep, at the place that the error says
abbrev pub IsJudged : List Token → Place → ParseError → Type 0
IsJudged ts end (errors.Lex fault) = ⊥
IsJudged ts end (errors.Syntax place rule) = (left : List Token) × IsWrongAt ts left × (place ≡ place_of left end) × (rule ≡ rule_of left)
IsJudged ts end (errors.TooDeep place) = (i : ℕ) × IsTooDeepAt ts i × (place ≡ place_of (drop i ts) end)
IsJudged ts end errors.NoMemory = Unit {0}
