-- What the functions of items read: the forms that are left in the middle of a rule, and the terminals with which a form that
-- has been read could have gone on.
use Rattle.std.specs.Prelude.{◌≡◌, Option, None, List, [], ◌∷◌, option_copied}
use Rattle.rdl_base.specs.declared.keyword.Keyword.TheVariants as words
use Rattle.rb_base.specs.declared.place.Place.{Place}
use Rattle.rb_grammar.specs.Forms.{Form, Non, ◌or◌, Opt, Many, ◌then◌}
use Rattle.rdl_tree.specs.declared.expr.Name.{Name}
use Rattle.rdl_tree.specs.declared.item.Entry.{Entry}
use Rattle.rdl_tree.specs.declared.item.Assigned.{Assigned}
use Rattle.rdl_tree.specs.declared.item.Insts.{Insts}
use Rattle.rdl_tree.specs.declared.item.Set.{Set}
use Rattle.rdl_tree.specs.declared.token.Mark.{Mark}
use Rattle.rdl_tree.specs.declared.token.Mark.TheVariants as marks
use Rattle.rdl_tree.specs.declared.token.Terminal.{Terminal}
use Rattle.rdl_tree.specs.declared.token.Terminal.TheVariants as terminals
use Rattle.rdl_tree.specs.declared.token.Token.{Token}
use Rattle.rdl_tree.specs.declared.token.TokenKind.{TokenKind}
use Rattle.rdl_tree.specs.declared.token.TokenKind.TheVariants as tokens
use Rattle.rdl_tree.specs.Grammar.{Rule, grammar, mark, name, word}
use Rattle.rdl_tree.specs.Grammar as rules
use Rattle.rdl_tree.specs.Tree.{IsMark, DerivesShape, DerivesAssigned, DerivesMany, DerivesEntry, DerivesMade}
use Rattle.rdl_parser.specs.declared.components.Role.{Role}
use Rattle.rdl_parser.specs.declared.components.Role.TheVariants as roles
use Rattle.rdl_parser.specs.declared.instances.Shape.{Shape}
use Rattle.rdl_expressions.specs.Following.{after_expr, more_steps}

-- Instances, parameters and properties.

-- an optional part behind the mark
abbrev pub after_behind : Mark → List Terminal
after_behind m = terminals.Mark m ∷ after_expr

abbrev pub after_inst : List Terminal
after_inst = terminals.Mark marks.Equals ∷ terminals.Mark marks.At ∷ terminals.Mark marks.PlusEquals ∷ terminals.Mark marks.PercentEquals ∷ after_expr

abbrev pub after_insts : List Terminal
after_insts = terminals.Mark marks.Comma ∷ after_inst

abbrev pub after_hashed : List Terminal
after_hashed = terminals.Mark marks.Hash ∷ []

abbrev pub after_args : List Terminal
after_args = terminals.Mark marks.Comma ∷ []

abbrev pub after_params : List Terminal
after_params = terminals.Mark marks.Comma ∷ after_behind marks.Equals

abbrev pub after_sets : List Terminal
after_sets = terminals.Mark marks.OpenBrace ∷ []

abbrev pub shape : Form Terminal Rule
shape = Many (Non rules.Index) or Non rules.Range

-- a shape behind its first expression
abbrev pub dims_or_range : Form Terminal Rule
dims_or_range = mark marks.CloseBracket then Many (Non rules.Index) or mark marks.Colon then Non rules.Expr then mark marks.CloseBracket

abbrev pub assigned : Form Terminal Rule
assigned = Opt (mark marks.Equals then Non rules.Given)

abbrev pub sets : Form Terminal Rule
sets = Opt (mark marks.OpenBrace then Many (Non rules.Local) then mark marks.CloseBrace)

-- an enumeration behind its word
abbrev pub rest_of_enum : Form Terminal Rule
rest_of_enum = name then mark marks.OpenBrace then Many (Non rules.Entry) then mark marks.CloseBrace then mark marks.Semicolon

-- the shape of an instance
abbrev pub DerivesShapeOf : List Token → List Token → Shape → Type 0
DerivesShapeOf ts us s = DerivesShape ts us s.dims.now (option_copied s.range)

-- [ "=" given ] ";" behind a property
pub record Sets (prop : Name) (place : Place) (ts us : List Token) (set : Set) : Type 0 where
  pub value : Option Assigned
  pub end : Token
  pub middle : List Token
  pub assigned : DerivesAssigned ts middle value
  pub ends : IsMark marks.Semicolon middle end us
  pub is : set ≡ record { prop = prop; trigger = None; value = value; place = place }

-- { entry } "}" ";"
pub record DerivesEntries (ts us : List Token) (entries : List Entry) : Type 0 where
  pub close : Token
  pub end : Token
  pub middle : List Token
  pub behind : List Token
  pub each : DerivesMany DerivesEntry ts middle entries
  pub closes : IsMark marks.CloseBrace middle close behind
  pub ends : IsMark marks.Semicolon behind end us

-- Items.

-- the instances that follow a component with a name
abbrev pub instances : Form Terminal Rule
instances = Opt (Opt (word words.Internal) then Non rules.Insts)

-- a component behind its kind
abbrev pub named_or_bare : Form Terminal Rule
named_or_bare = name then Opt (Non rules.Params) then Non rules.Body then instances or Non rules.Body then Opt (word words.Internal) then Non rules.InstList

-- instances of a named type, behind their alias
abbrev pub of_type : Form Terminal Rule
of_type = name then Non rules.Insts then mark marks.Semicolon

abbrev pub alias : Form Terminal Rule
alias = Opt (word words.Alias then name)

-- an item behind "internal"
abbrev pub behind_internal : Form Terminal Rule
behind_internal = Non rules.Kind then named_or_bare then mark marks.Semicolon or alias then of_type

-- an item that is no component
abbrev pub simple_item : Form Terminal Rule
simple_item = Non rules.Enum or Non rules.Made or Non rules.Default or Non rules.Local or Non rules.Dynamic

-- a dynamic assignment behind its path
abbrev pub assignment : Form Terminal Rule
assignment = mark marks.Arrow then Non rules.Prop then assigned then mark marks.Semicolon

-- an item behind the name that it begins with
abbrev pub item_behind_name : Form Terminal Rule
item_behind_name = Non rules.Insts then mark marks.Semicolon or assigned then mark marks.Semicolon or (Many (Non rules.Index) then more_steps) then assignment

-- what the mark behind a name says of the item
abbrev pub mark_role : Mark → Role
mark_role marks.Equals = roles.Local
mark_role marks.Semicolon = roles.Local
mark_role marks.OpenBracket = roles.Dynamic
mark_role marks.Dot = roles.Dynamic
mark_role marks.Arrow = roles.Dynamic
mark_role m = roles.Made

abbrev pub kind_role : TokenKind → Role
kind_role (tokens.Mark m) = mark_role m
kind_role kind = roles.Made

abbrev pub role : List Token → Role
role [] = roles.Made
role (t ∷ ts) = kind_role t.kind

-- [ [ "internal" ] insts ] ";"
pub record EndsDef (ts us : List Token) (insts : Option Insts) : Type 0 where
  pub end : Token
  pub middle : List Token
  pub made : DerivesMade ts middle insts
  pub ends : IsMark marks.Semicolon middle end us
