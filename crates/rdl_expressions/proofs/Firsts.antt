-- The table of what the rules begin with.
use Rattle.std.proofs.Common.{◌≡◌, Bool, true, false, not, List, [], ◌∷◌, ◌++◌, refl}
use Rattle.rdl_base.specs.declared.keyword.Keyword.TheVariants as words
use Rattle.rb_grammar.specs.Firsts.{Table, tells, IsTableOf}
use Rattle.rb_grammar.proofs.Barring.{by_terminal}
use Rattle.rdl_tree.specs.declared.token.Mark.TheVariants as marks
use Rattle.rdl_tree.specs.declared.token.Terminal.{Terminal}
use Rattle.rdl_tree.specs.declared.token.Terminal.TheVariants as terminals
use Rattle.rdl_tree.specs.Tokens.{same, terminal_of}
use Rattle.rdl_tree.specs.Grammar.{Rule, Source, Item, Component, Body, Kind, Params, Param, ParamType, Made, Insts, InstList, Args, Arg, Inst, Index, Range, Enum, Entry, Default, Local, Trigger, Dynamic, Prop, Given, Path, Step, Expr, Binary, Operator, Prefix, Primary, rule, grammar}
use Rattle.rdl_tree.proofs.Spellings.{exact, alike}
use Rattle.rdl_expressions.specs.Following.{operators, kinds, triggers, prop_words, value_words, types}

-- the marks and words that begin a primary
abbrev pub primaries : List Terminal
primaries = terminals.Number ∷ terminals.Str ∷ terminals.Reserved words.True ∷ terminals.Reserved words.False ∷ terminals.Mark marks.OpenParen ∷ terminals.Name ∷ []

-- the words that begin an item, beside a name
abbrev pub items : List Terminal
items = terminals.Name ∷ terminals.Reserved words.Internal ∷ terminals.Reserved words.Enum ∷ terminals.Reserved words.Alias ∷ terminals.Reserved words.Default ∷ kinds ++ prop_words ++ triggers

abbrev pub first : Rule → List Terminal
first Source = items
first Item = items
first Component = terminals.Reserved words.Internal ∷ kinds
first Body = terminals.Mark marks.OpenBrace ∷ []
first Kind = kinds
first Params = terminals.Mark marks.Hash ∷ []
first Param = types
first ParamType = types
first Made = terminals.Reserved words.Internal ∷ terminals.Reserved words.Alias ∷ terminals.Name ∷ []
first Insts = terminals.Mark marks.Hash ∷ terminals.Name ∷ []
first InstList = terminals.Name ∷ []
first Args = terminals.Mark marks.Hash ∷ []
first Arg = terminals.Mark marks.Dot ∷ []
first Inst = terminals.Name ∷ []
first Index = terminals.Mark marks.OpenBracket ∷ []
first Range = terminals.Mark marks.OpenBracket ∷ []
first Enum = terminals.Reserved words.Enum ∷ []
first Entry = terminals.Name ∷ []
first Default = terminals.Reserved words.Default ∷ []
first Local = terminals.Name ∷ prop_words ++ triggers
first Trigger = triggers
first Dynamic = terminals.Name ∷ []
first Prop = terminals.Name ∷ prop_words
first Given = terminals.Mark marks.Not ∷ primaries ++ value_words
first Path = terminals.Name ∷ []
first Step = terminals.Name ∷ []
first Expr = terminals.Mark marks.Not ∷ primaries
first Binary = terminals.Mark marks.Not ∷ primaries
first Operator = operators
first Prefix = terminals.Mark marks.Not ∷ primaries
first Primary = primaries

abbrev pub empty : Rule → Bool
empty Source = true
empty x = false

abbrev pub table : Table Terminal Rule
table = record { first = first; empty = empty; same = same; apart = λ a b. not (same a b) }

each : (x : Rule) → tells table x (rule x) ≡ true
each Source = refl
each Item = refl
each Component = refl
each Body = refl
each Kind = refl
each Params = refl
each Param = refl
each ParamType = refl
each Made = refl
each Insts = refl
each InstList = refl
each Args = refl
each Arg = refl
each Inst = refl
each Index = refl
each Range = refl
each Enum = refl
each Entry = refl
each Default = refl
each Local = refl
each Trigger = refl
each Dynamic = refl
each Prop = refl
each Given = refl
each Path = refl
each Step = refl
each Expr = refl
each Binary = refl
each Operator = refl
each Prefix = refl
each Primary = refl

pub right : IsTableOf grammar table
right = by_terminal grammar table (λ t. terminal_of t.kind) (λ a t. refl) (λ a b. refl) exact alike each
