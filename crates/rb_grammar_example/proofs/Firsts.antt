-- The table of what the rules begin with.
use Rattle.std.specs.Cmp.Lexicographic.{bytes_decides}
use Rattle.std.proofs.Common.{◌≡◌, Bool, true, false, not, Some, List, [], ◌∷◌, refl, ap, sym, ◌∙◌}
use Rattle.rb_grammar.specs.Firsts.{Table, tells, IsTableOf, IsDecided}
use Rattle.rb_grammar.proofs.Barring.{by_terminal}
use Rattle.rb_grammar_example.specs.declared.token.Mark.{Mark}
use Rattle.rb_grammar_example.specs.declared.token.Mark.TheVariants as marks
use Rattle.rb_grammar_example.specs.declared.token.Terminal.{Terminal}
use Rattle.rb_grammar_example.specs.declared.token.Terminal.TheVariants as terminals
use Rattle.rb_grammar_example.specs.Lexemes.{spelling, mark_of}
use Rattle.rb_grammar_example.specs.Grammar.{Rule, Source, Entry, Bound, Value, Values, rule, same, terminal_of, settings}

abbrev pub first : Rule → List Terminal
first Source = terminals.Name ∷ []
first Entry = terminals.Name ∷ []
first Bound = terminals.Mark marks.Equals ∷ terminals.Mark marks.Arrow ∷ []
first Value = terminals.Number ∷ terminals.Name ∷ terminals.Mark marks.Open ∷ []
first Values = terminals.Mark marks.Open ∷ []

abbrev pub empty : Rule → Bool
empty Source = true
empty x = false

abbrev pub table : Table Terminal Rule
table = record { first = first; empty = empty; same = same; apart = λ a b. not (same a b) }

each : (x : Rule) → tells table x (rule x) ≡ true
each Source = refl
each Entry = refl
each Bound = refl
each Value = refl
each Values = refl

pub spelled : (m : Mark) → mark_of (spelling m) ≡ Some m
unfolding mark_of
spelled marks.Equals = refl
spelled marks.Arrow = refl
spelled marks.To = refl
spelled marks.Open = refl
spelled marks.Close = refl
spelled marks.Comma = refl
spelled marks.Semicolon = refl

exact : (a b : Terminal) → same a b ≡ true → a ≡ b
exact terminals.Name terminals.Name e = refl
exact terminals.Number terminals.Number e = refl
exact (terminals.Mark m) (terminals.Mark n) e =
    let one : Some m ≡ Some n = sym (spelled m) ∙ (ap mark_of ((bytes_decides (spelling m) (spelling n)).0 e) ∙ spelled n) in cc
exact _ _ e = cc

alike : (a : Terminal) → same a a ≡ true
alike terminals.Name = refl
alike terminals.Number = refl
alike (terminals.Mark m) = (bytes_decides (spelling m) (spelling m)).1 refl

pub right : IsTableOf settings table
right = by_terminal settings table (λ t. terminal_of t.kind) (λ a t. refl) (λ a b. refl) exact alike each

-- with which terminals what follows a rule may begin
abbrev pub follow : Rule → List Terminal
follow Source = []
follow Entry = terminals.Name ∷ []
follow Bound = terminals.Mark marks.Semicolon ∷ []
follow Value = terminals.Mark marks.Semicolon ∷ terminals.Mark marks.Comma ∷ terminals.Mark marks.Close ∷ []
follow Values = terminals.Mark marks.Semicolon ∷ terminals.Mark marks.Comma ∷ terminals.Mark marks.Close ∷ []

pub decided : IsDecided settings table follow
decided Source = refl
decided Entry = refl
decided Bound = refl
decided Value = refl
decided Values = refl
