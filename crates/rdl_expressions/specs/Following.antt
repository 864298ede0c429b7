-- What a parser's functions read: the forms that are left in the middle of a rule, and the terminals with which a form that has
-- been read could have gone on.
use Rattle.std.specs.Prelude.{◌≡◌, ℕ, ◌≤◌, Bool, true, false, is_some, Some, List, [], ◌∷◌, ◌++◌}
use Rattle.std.specs.Borrow.{Bor}
use Rattle.rdl_base.specs.declared.keyword.Keyword.{Keyword}
use Rattle.rdl_base.specs.declared.keyword.Keyword.TheVariants as words
use Rattle.rb_base.specs.declared.place.Place.{Place}
use Rattle.rb_grammar.specs.Forms.{Form, Non, ◌or◌, Opt, Many, ◌then◌}
use Rattle.rb_grammar.specs.Readings.{at, Takes}
use Rattle.rdl_tree.specs.declared.expr.Expr.{Expr}
use Rattle.rdl_tree.specs.declared.expr.Expr.TheVariants as expr
use Rattle.rdl_tree.specs.declared.expr.Name.{Name}
use Rattle.rdl_tree.specs.declared.expr.Op.{Op}
use Rattle.rdl_tree.specs.declared.expr.Step.{Step}
use Rattle.rdl_tree.specs.declared.token.Mark.{Mark}
use Rattle.rdl_tree.specs.declared.token.Mark.TheVariants as marks
use Rattle.rdl_tree.specs.declared.token.Terminal.{Terminal}
use Rattle.rdl_tree.specs.declared.token.Terminal.TheVariants as terminals
use Rattle.rdl_tree.specs.declared.token.Token.{Token}
use Rattle.rdl_tree.specs.declared.token.TokenKind.TheVariants as tokens
use Rattle.rdl_tree.specs.Grammar.{Rule, grammar, mark, name, word}
use Rattle.rdl_tree.specs.Grammar as rules
use Rattle.rdl_tree.specs.Tree.{IsMark, IsWord, operator_of, level, kind_of, type_of, trigger_of, names_property, is_value, DerivesExpr, DerivesIndices}
use Rattle.rdl_expressions.specs.declared.parser.Sort.{Sort}
use Rattle.rdl_expressions.specs.declared.parser.Sort.TheVariants as sorts

-- Terminals of one sort.

abbrev pub operators : List Terminal
operators = terminals.Mark marks.OrOr ∷ terminals.Mark marks.AndAnd ∷ terminals.Mark marks.Or ∷ terminals.Mark marks.Caret ∷ terminals.Mark marks.And ∷ terminals.Mark marks.EqualEqual ∷ terminals.Mark marks.NotEqual ∷ terminals.Mark marks.Less ∷ terminals.Mark marks.LessEqual ∷ terminals.Mark marks.Greater ∷ terminals.Mark marks.GreaterEqual ∷ terminals.Mark marks.ShiftLeft ∷ terminals.Mark marks.ShiftRight ∷ terminals.Mark marks.Plus ∷ terminals.Mark marks.Minus ∷ terminals.Mark marks.Star ∷ terminals.Mark marks.Slash ∷ terminals.Mark marks.Percent ∷ terminals.Mark marks.StarStar ∷ []

abbrev pub kinds : List Terminal
kinds = terminals.Reserved words.Addrmap ∷ terminals.Reserved words.Regfile ∷ terminals.Reserved words.Reg ∷ terminals.Reserved words.Field ∷ terminals.Reserved words.Signal ∷ []

abbrev pub triggers : List Terminal
triggers = terminals.Reserved words.Posedge ∷ terminals.Reserved words.Negedge ∷ terminals.Reserved words.Bothedge ∷ terminals.Reserved words.Level ∷ terminals.Reserved words.Nonsticky ∷ []

abbrev pub prop_words : List Terminal
prop_words = terminals.Reserved words.Woset ∷ terminals.Reserved words.Woclr ∷ terminals.Reserved words.Rclr ∷ terminals.Reserved words.Rset ∷ []

abbrev pub value_words : List Terminal
value_words = terminals.Reserved words.Rw ∷ terminals.Reserved words.Wr ∷ terminals.Reserved words.R ∷ terminals.Reserved words.W ∷ terminals.Reserved words.Rw1 ∷ terminals.Reserved words.W1 ∷ terminals.Reserved words.Na ∷ terminals.Reserved words.Woset ∷ terminals.Reserved words.Woclr ∷ terminals.Reserved words.Wot ∷ terminals.Reserved words.Wzs ∷ terminals.Reserved words.Wzc ∷ terminals.Reserved words.Wzt ∷ terminals.Reserved words.Wclr ∷ terminals.Reserved words.Wset ∷ terminals.Reserved words.Rclr ∷ terminals.Reserved words.Rset ∷ terminals.Reserved words.Compact ∷ terminals.Reserved words.Regalign ∷ terminals.Reserved words.Fullalign ∷ []

abbrev pub types : List Terminal
types = terminals.Reserved words.Longint ∷ terminals.Reserved words.Bit ∷ terminals.Reserved words.Boolean ∷ terminals.Reserved words.String ∷ []

-- With which terminals a form could have gone on.

abbrev pub after_indices : List Terminal
after_indices = terminals.Mark marks.OpenBracket ∷ []

abbrev pub after_path : List Terminal
after_path = terminals.Mark marks.OpenBracket ∷ terminals.Mark marks.Dot ∷ []

abbrev pub after_primary : List Terminal
after_primary = terminals.Mark marks.OpenBracket ∷ terminals.Mark marks.Dot ∷ terminals.Mark marks.Arrow ∷ terminals.Mark marks.ColonColon ∷ []

abbrev pub after_binary : List Terminal
after_binary = terminals.Mark marks.OpenBracket ∷ terminals.Mark marks.Dot ∷ terminals.Mark marks.Arrow ∷ terminals.Mark marks.ColonColon ∷ terminals.Mark marks.OrOr ∷ terminals.Mark marks.AndAnd ∷ terminals.Mark marks.Or ∷ terminals.Mark marks.Caret ∷ terminals.Mark marks.And ∷ terminals.Mark marks.EqualEqual ∷ terminals.Mark marks.NotEqual ∷ terminals.Mark marks.Less ∷ terminals.Mark marks.LessEqual ∷ terminals.Mark marks.Greater ∷ terminals.Mark marks.GreaterEqual ∷ terminals.Mark marks.ShiftLeft ∷ terminals.Mark marks.ShiftRight ∷ terminals.Mark marks.Plus ∷ terminals.Mark marks.Minus ∷ terminals.Mark marks.Star ∷ terminals.Mark marks.Slash ∷ terminals.Mark marks.Percent ∷ terminals.Mark marks.StarStar ∷ []

abbrev pub after_expr : List Terminal
after_expr = terminals.Mark marks.Question ∷ after_binary

abbrev pub after_type : List Terminal
after_type = terminals.Reserved words.Unsigned ∷ []

-- Forms in the middle of a rule.

abbrev pub operands : Form Terminal Rule
operands = Many (Non rules.Operator then Non rules.Prefix)

abbrev pub more_steps : Form Terminal Rule
more_steps = Many (mark marks.Dot then Non rules.Step)

abbrev pub item_of : Form Terminal Rule
item_of = Opt (mark marks.Arrow then Non rules.Prop)

-- a primary that is neither a number nor a word
abbrev pub brackets_or_name : Form Terminal Rule
brackets_or_name = mark marks.OpenParen then Non rules.Expr then mark marks.CloseParen or name then mark marks.ColonColon then name or Non rules.Path then item_of

-- a primary that is neither a number nor a string
abbrev pub flag_or_other : Form Terminal Rule
flag_or_other = word words.True or word words.False or brackets_or_name

-- a primary behind its name
abbrev pub behind_name : Form Terminal Rule
behind_name = (mark marks.ColonColon then name) or (Many (Non rules.Index) then more_steps) then item_of

-- Lists that are read one by one, and trees in the arena.

-- what is derived is added to the list
pub record Adds {X : Type 0} (Derives : List Token → List Token → X → Type 0) (ts us : List Token) (xs ys : List X) : Type 0 where
  pub one : X
  pub derives : Derives ts us one
  pub list : ys ≡ xs ++ (one ∷ [])

-- an index behind its bracket
pub record ClosesIndex (ts us : List Token) (e : Expr) : Type 0 where
  pub middle : List Token
  pub close : Token
  pub index : DerivesExpr ts middle e
  pub closes : IsMark marks.CloseBracket middle close us

-- a step of this name is added
pub record AddsStep (n : Name) (ts us : List Token) (xs ys : List Step) : Type 0 where
  pub index : Bor (List Expr)
  pub derives : DerivesIndices ts us index.now
  pub list : ys ≡ xs ++ (record { name = n; index = index } ∷ [])

pub record IsPair (op : Op) (left right : Expr) (place : Place) (e : Expr) : Type 0 where
  pub first : Bor Expr
  pub second : Bor Expr
  pub before : first.now ≡ left
  pub behind : second.now ≡ right
  pub is : e ≡ expr.Binary op first second place

pub record IsPick (test yes no : Expr) (place : Place) (e : Expr) : Type 0 where
  pub first : Bor Expr
  pub second : Bor Expr
  pub third : Bor Expr
  pub asked : first.now ≡ test
  pub chosen : second.now ≡ yes
  pub other : third.now ≡ no
  pub is : e ≡ expr.Pick first second third place

-- Operators.

-- the next token is an operator that binds at least so tightly, and is taken
pub record TakesOperator (least : ℕ) (ts us : List Token) (op : Op) (place : Place) : Type 0 where
  pub token : Token
  pub mark : Mark
  pub stands : IsMark mark ts token us
  pub is : operator_of mark ≡ Some op
  pub tight : least ≤ level op
  pub at : place ≡ token.place

-- the next token is no operator that binds at least so tightly
abbrev pub IsLooser : ℕ → List Token → Type 0
IsLooser least ts = (m : Mark) (o : Op) → operator_of m ≡ Some o → least ≤ level o → at grammar (terminals.Mark m) ts ≡ false

-- a number and its place are taken
pub record TakesNumber (ts us : List Token) (value : ℕ) (place : Place) : Type 0 where
  pub token : Token
  pub stands : Takes grammar terminals.Number ts token us
  pub kind : token.kind ≡ tokens.Number value
  pub at : place ≡ token.place

-- Reserved words.

abbrev pub is_kind : Keyword → Bool
is_kind k = is_some (kind_of k)

abbrev pub is_type : Keyword → Bool
is_type k = is_some (type_of k)

abbrev pub is_trigger : Keyword → Bool
is_trigger k = is_some (trigger_of k)

-- the word is of the sort
abbrev pub has : Sort → Keyword → Bool
has sorts.Kind k = is_kind k
has sorts.Type k = is_type k
has sorts.Trigger k = is_trigger k
has sorts.Prop k = names_property k
has sorts.Value k = is_value k

-- the next token is a word of the sort, and is taken
pub record TakesWord (sort : Sort) (ts us : List Token) (word : Keyword) (token : Token) : Type 0 where
  pub of_sort : has sort word ≡ true
  pub stands : IsWord word ts token us

-- the next token is no word of the sort, and stays
pub record LacksWords (sort : Sort) (ts us : List Token) : Type 0 where
  pub list : us ≡ ts
  pub words : (k : Keyword) → has sort k ≡ true → at grammar (terminals.Reserved k) ts ≡ false
