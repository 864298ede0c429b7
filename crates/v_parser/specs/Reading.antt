-- What the functions of the parser take: each relation says what stands between two ends of the tokens.
use Rattle.std.specs.Str.{bytes_eq}
use Rattle.std.specs.Prelude.{◌≡◌, ℕ, ◌+◌, Bool, if◌then◌else◌, IsTrue, Option, Some, None, List, [], ◌∷◌, ◌++◌, length, map, codes}
use Rattle.rb_grammar.specs.Forms.{Form, Tok, Non, ◌or◌, Opt, ◌then◌, StopsAt}
use Rattle.rb_grammar.specs.Readings.{Takes}
use Rattle.rb_grammar.specs.Spelling.{At, tokens_of}
use Rattle.v_design.specs.Lexemes.{Token, Word, Name, Const}
use Rattle.v_design.specs.declared.design.VOne.{VOne}
use Rattle.v_design.specs.declared.design.VOne.TheVariants.{Not, All, Any, Odd}
use Rattle.v_design.specs.declared.design.VTwo.{VTwo}
use Rattle.v_design.specs.declared.design.VTwo.TheVariants.{Add, Sub, And, Or, Xor, Eq, Ne, Lt, Le, Gt, Ge}
use Rattle.v_design.specs.declared.design.VExpr.{VExpr}
use Rattle.v_design.specs.declared.design.Decl.{Decl}
use Rattle.v_design.specs.declared.design.Stmt.{Stmt}
use Rattle.v_design.specs.Tree.{Tree, Term, Operand, Statement, Resettable, one_word, two_word, term_tokens, operand_tokens, range_tokens, dir_word, decl_word, edge_word, negation, port_tokens, stmt_tokens, is_width, port_widths, decl_widths}
use Rattle.v_design.specs.Tree as tree
use Rattle.v_design.specs.Design.{expr_of, operand_of}
use Rattle.v_design.specs.Seen.{expr_seen}
use Rattle.rb_base.specs.declared.ports.Dir.{Dir}
use Rattle.rb_base.specs.declared.ports.Port.{Port}
use Rattle.rb_base.specs.declared.place.Place.{Place}
use Rattle.v_syntax.specs.Tokens.{place_at, spotted}
use Rattle.v_syntax.specs.Grammar.{Terminal, Quoted, Constant, Rule, quoted, id, grammar, nesting, Module, Expr, Reset}
use Rattle.v_syntax.specs.Syntax.{capped, IsStatement, IsSyntax}
use Rattle.rb_grammar.specs.declared.nesting.Nesting.{Nesting}
use Rattle.v_syntax.specs.declared.spot.VSpot.{VSpot}
use Rattle.v_syntax.specs.declared.parsed.Event.{Event}
use Rattle.v_syntax.specs.declared.parsed.Parsed.{Parsed}
use Rattle.v_parser.specs.declared.parsing.Unread.{Unread}
use Rattle.v_parser.specs.declared.parsing.Unread.TheVariants as unread

abbrev pub word_at : List ℕ → ℕ → At Token
word_at text place = record { token = Word text; place = place }

abbrev pub name_at : List ℕ → ℕ → At Token
name_at text place = record { token = Name text; place = place }

-- the token stands next, at some place, is of the terminal, and is taken
abbrev pub TakesOne : Terminal → Token → List (At Token) → List (At Token) → Type 0
TakesOne a token ts us = (place : ℕ) × Takes grammar a ts (record { token = token; place = place }) us

-- between the two ends stand these tokens
pub record Spans (ts us : List (At Token)) (tokens : List Token) : Type 0 where
  pub front : List (At Token)
  pub list : ts ≡ front ++ us
  pub are : tokens_of front ≡ tokens

-- the operator that a mark is
abbrev pub one_of : List ℕ → Option VOne
one_of w =
    if bytes_eq w (codes "~") then Some Not
    else (if bytes_eq w (codes "&") then Some All
    else (if bytes_eq w (codes "|") then Some Any
    else (if bytes_eq w (codes "^") then Some Odd else None)))

abbrev pub two_of : List ℕ → Option VTwo
two_of w =
    if bytes_eq w (codes "+") then Some Add
    else (if bytes_eq w (codes "-") then Some Sub
    else (if bytes_eq w (codes "&") then Some And
    else (if bytes_eq w (codes "|") then Some Or
    else (if bytes_eq w (codes "^") then Some Xor
    else (if bytes_eq w (codes "==") then Some Eq
    else (if bytes_eq w (codes "!=") then Some Ne
    else (if bytes_eq w (codes "<") then Some Lt
    else (if bytes_eq w (codes "<=") then Some Le
    else (if bytes_eq w (codes ">") then Some Gt
    else (if bytes_eq w (codes ">=") then Some Ge else None))))))))))

-- the token is an operator of the two kinds
abbrev pub one_in : Token → Option VOne
one_in (Word w) = one_of w
one_in t = None

abbrev pub two_in : Token → Option VTwo
two_in (Word w) = two_of w
two_in t = None

abbrev pub next_one : List (At Token) → Option VOne
next_one [] = None
next_one (t ∷ ts) = one_in t.token

abbrev pub next_two : List (At Token) → Option VTwo
next_two [] = None
next_two (t ∷ ts) = two_in t.token

-- the next token is this operator, and is taken
abbrev pub IsPrefix : List (At Token) → List (At Token) → VOne → Type 0
IsPrefix ts us op = (next_one ts ≡ Some op) × (t : At Token) × (ts ≡ t ∷ us)

abbrev pub IsInfix : List (At Token) → List (At Token) → VTwo → Type 0
IsInfix ts us op = (next_two ts ≡ Some op) × (t : At Token) × (ts ≡ t ∷ us)

-- the next token is no such operator, and stays
abbrev pub NoPrefix : List (At Token) → List (At Token) → Type 0
NoPrefix ts us = (next_one ts ≡ None) × (us ≡ ts)

abbrev pub NoInfix : List (At Token) → List (At Token) → Type 0
NoInfix ts us = (next_two ts ≡ None) × (us ≡ ts)

-- with what each form could have gone on
abbrev pub after_operand : List Terminal
after_operand = Quoted (codes "[") ∷ []

abbrev pub after_expr : List Terminal
after_expr = Quoted (codes "[") ∷ Quoted (codes "?") ∷ map (λ op. Quoted (two_word op)) (Add ∷ Sub ∷ And ∷ Or ∷ Xor ∷ Eq ∷ Ne ∷ Lt ∷ Le ∷ Gt ∷ Ge ∷ [])

abbrev pub after_range : List Terminal
after_range = Quoted (codes "[") ∷ []

abbrev pub after_ports : List Terminal
after_ports = Quoted (codes ",") ∷ []

abbrev pub after_decls : List Terminal
after_decls = Quoted (codes "wire") ∷ Quoted (codes "reg") ∷ []

abbrev pub after_stmts : List Terminal
after_stmts = Quoted (codes "assign") ∷ Quoted (codes "always") ∷ []

abbrev pub after_bang : List Terminal
after_bang = Quoted (codes "!") ∷ []

-- an expression
abbrev pub ReadsTerm : List (At Token) → List (At Token) → VExpr → Type 0
ReadsTerm ts us x = (e : Term) × Spans ts us (term_tokens e) × (expr_seen x ≡ capped (expr_of e))

-- an operand
abbrev pub ReadsOperand : List (At Token) → List (At Token) → VExpr → Type 0
ReadsOperand ts us x = (a : Operand) × Spans ts us (operand_tokens a) × (expr_seen x ≡ capped (operand_of a))

-- what stands behind the name of an operand
abbrev pub ReadsSelect : List ℕ → List (At Token) → List (At Token) → VExpr → Type 0
ReadsSelect name ts us x = (a : Operand) × (tail : List Token) × (operand_tokens a ≡ Name name ∷ tail) × Spans ts us tail × (expr_seen x ≡ capped (operand_of a))

abbrev pub ReadsSide : List (At Token) → List (At Token) → Dir → Type 0
ReadsSide ts us dir = Spans ts us (Word (dir_word dir) ∷ [])

-- a range of this width, which is 1 where there is none
abbrev pub ReadsRange : List (At Token) → List (At Token) → ℕ → Type 0
ReadsRange ts us width = IsTrue (is_width width) × Spans ts us (range_tokens width)

abbrev pub ReadsWord : List (At Token) → List (At Token) → Bool → Type 0
ReadsWord ts us reg = Spans ts us (Word (decl_word reg) ∷ [])

abbrev pub ReadsEdge : List (At Token) → List (At Token) → Bool → Type 0
ReadsEdge ts us low = Spans ts us (Word (edge_word low) ∷ [])

abbrev pub ReadsNegation : List (At Token) → List (At Token) → Bool → Type 0
ReadsNegation ts us negated = Spans ts us (negation negated)

-- a port, and where its name stands
pub record ReadsPort (ts us : List (At Token)) (p : Port) (place : Place) : Type 0 where
  pub wide : IsTrue (is_width p.width)
  pub spans : Spans ts us (port_tokens p)
  pub at : place.0 ≡ place_at ts (1 + length (range_tokens p.width))

-- the tokens of a declaration
abbrev pub decl_tokens : Decl → List Token
decl_tokens d = Word (decl_word d.reg) ∷ (range_tokens d.width ++ Name d.name ∷ tree.quoted ";" ∷ [])

-- a declaration, and where its name stands
pub record ReadsDecl (ts us : List (At Token)) (d : Decl) (place : Place) : Type 0 where
  pub wide : IsTrue (is_width d.width)
  pub spans : Spans ts us (decl_tokens d)
  pub at : place.0 ≡ place_at ts (1 + length (range_tokens d.width))

-- ports, each behind a comma, and where their names stand
pub data ReadsPorts : List (At Token) → List (At Token) → List Port → List Place → Type 0 where
  no_port : {ts : List (At Token)} → ReadsPorts ts ts [] []
  one_port : {ts us vs ws : List (At Token)} {comma : At Token} {p : Port} {place : Place} {ps : List Port} {places : List Place}
      → Takes grammar (Quoted (codes ",")) ts comma us → ReadsPort us vs p place → ReadsPorts vs ws ps places → ReadsPorts ts ws (p ∷ ps) (place ∷ places)

-- ports that are added to a list
abbrev pub AddsPorts : List (At Token) → List (At Token) → List Port → List Port → List Place → List Place → Type 0
AddsPorts ts us ps qs places names = (more : List Port) × (others : List Place) × (qs ≡ ps ++ more) × (names ≡ places ++ others) × ReadsPorts ts us more others

-- declarations, and where their names stand
pub data ReadsDecls : List (At Token) → List (At Token) → List Decl → List Place → Type 0 where
  no_decl : {ts : List (At Token)} → ReadsDecls ts ts [] []
  one_decl : {ts us vs : List (At Token)} {d : Decl} {place : Place} {ds : List Decl} {places : List Place}
      → ReadsDecl ts us d place → ReadsDecls us vs ds places → ReadsDecls ts vs (d ∷ ds) (place ∷ places)

abbrev pub AddsDecls : List (At Token) → List (At Token) → List Decl → List Place → List Place → Type 0
AddsDecls ts us ds places names = (others : List Place) × (names ≡ places ++ others) × ReadsDecls ts us ds others

-- a statement, which stands at its first token
pub record ReadsStatement (ts us : List (At Token)) (s : Stmt) (e : Event) : Type 0 where
  pub stmt : Statement
  pub spans : Spans ts us (stmt_tokens stmt)
  pub says : IsStatement s e stmt
  pub at : s.place.0 ≡ place_at ts 0

-- what stands behind the clock of a statement with a reset, which stands at this place
pub record ReadsReset (clock : List ℕ) (place : ℕ) (ts us : List (At Token)) (s : Stmt) (e : Event) : Type 0 where
  pub stmt : Statement
  pub tail : List Token
  pub spans : Spans ts us tail
  pub tokens : stmt_tokens stmt
      ≡ tree.quoted "always" ∷ tree.quoted "@" ∷ tree.quoted "(" ∷ tree.quoted "posedge" ∷ Name clock ∷ tail
  pub says : IsStatement s e stmt
  pub at : s.place.0 ≡ place

-- the parts of a statement

-- what takes an expression, and the expression
abbrev pub transfer : Form Terminal Rule
transfer = id then quoted "<=" then Non Expr then quoted ";"

abbrev pub equation : Form Terminal Rule
equation = id then quoted "=" then Non Expr then quoted ";"

abbrev pub ReadsMarked : Token → List (At Token) → List (At Token) → List ℕ → VExpr → Type 0
ReadsMarked mark ts us to x = (e : Term) × Spans ts us (Name to ∷ mark ∷ (term_tokens e ++ tree.quoted ";" ∷ [])) × (expr_seen x ≡ capped (expr_of e))

-- a block behind its clock, and a reset behind its event and behind its test
abbrev pub behind_clock : Form Terminal Rule
behind_clock = quoted ")" then transfer or Non Reset

abbrev pub behind_test : Form Terminal Rule
behind_test = id then quoted "<=" then Tok Constant then quoted ";" then quoted "else" then transfer

abbrev pub behind_event : Form Terminal Rule
behind_event = quoted "if" then quoted "(" then Opt (quoted "!") then id then quoted ")" then behind_test

-- the event of a clock, which stands at this place
pub record ReadsClock (ts us : List (At Token)) (place : Place) (clock : List ℕ) : Type 0 where
  pub spans : Spans ts us (tree.quoted "always" ∷ tree.quoted "@" ∷ tree.quoted "(" ∷ tree.quoted "posedge" ∷ Name clock ∷ [])
  pub at : place.0 ≡ place_at ts 0

abbrev pub ReadsEvent : List (At Token) → List (At Token) → Bool → List ℕ → Type 0
ReadsEvent ts us low pin = Spans ts us (tree.quoted "or" ∷ Word (edge_word low) ∷ Name pin ∷ tree.quoted ")" ∷ [])

abbrev pub ReadsTest : List (At Token) → List (At Token) → Bool → List ℕ → Type 0
ReadsTest ts us negated test = Spans ts us (tree.quoted "if" ∷ tree.quoted "(" ∷ (negation negated ++ Name test ∷ tree.quoted ")" ∷ []))

abbrev pub ReadsValue : List (At Token) → List (At Token) → List ℕ → (width value : ℕ) → Type 0
ReadsValue ts us to width value = Spans ts us (Name to ∷ tree.quoted "<=" ∷ Const width value ∷ tree.quoted ";" ∷ [])

-- statements
pub data ReadsStatements : List (At Token) → List (At Token) → List Stmt → List Event → Type 0 where
  no_statement : {ts : List (At Token)} → ReadsStatements ts ts [] []
  one_statement : {ts us vs : List (At Token)} {s : Stmt} {e : Event} {ss : List Stmt} {es : List Event}
      → ReadsStatement ts us s e → ReadsStatements us vs ss es → ReadsStatements ts vs (s ∷ ss) (e ∷ es)

abbrev pub AddsStatements : List (At Token) → List (At Token) → List Stmt → List Event → List Event → Type 0
AddsStatements ts us ss events all = (es : List Event) × (all ≡ events ++ es) × ReadsStatements ts us ss es

-- a module, before what is left
abbrev pub ReadsModule : List (At Token) → List (At Token) → Parsed → Type 0
ReadsModule ts us x = us ≡ [] → (t : Tree) × IsSyntax ts x t

-- the tokens stop being a module before so many that are left
abbrev pub StopsThere : List (At Token) → Unread → Type 0
StopsThere ts (unread.Syntax left) = (us : List (At Token)) × StopsAt grammar (Non Module) ts us × (left ≡ length us)
StopsThere ts unread.NoMemory = Unit {0}

-- what a token of the text does to the brackets that are open
abbrev pub nesting_in : List ℕ → VSpot → Nesting
nesting_in bytes s = nesting (spotted bytes s)
