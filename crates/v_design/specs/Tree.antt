-- The module tree and its tokens: a constructor for each production of a subset of IEEE 1364-2005, annex A.
use Prim.Native.String.{String}
use Rattle.std.specs.List.{list_all, flat_map}
use Rattle.std.specs.Str.{bytes_eq}
use Rattle.std.specs.Prelude.{ℕ, ◌+◌, ◌-◌, ◌<◌, Bool, true, false, ◌==◌, nat_lt, nat_le, ◌&&◌, ◌||◌, if◌then◌else◌, IsTrue, List, [], ◌∷◌, ◌++◌, length, codes}
use Rattle.v_design.specs.Lexemes.{Token, Word, Name, Number, Const, Spells}
use Rattle.v_design.specs.declared.design.VOne.{VOne}
use Rattle.v_design.specs.declared.design.VOne.TheVariants.{Not, All, Any, Odd}
use Rattle.v_design.specs.declared.design.VTwo.{VTwo}
use Rattle.v_design.specs.declared.design.VTwo.TheVariants.{Add, Sub, And, Or, Xor, Eq, Ne, Lt, Le, Gt, Ge}
use Rattle.rb_base.specs.declared.ports.Dir.{Dir}
use Rattle.rb_base.specs.declared.ports.Dir.TheVariants.{In, Out}
use Rattle.rb_base.specs.declared.ports.Port.{Port}
use Rattle.v_design.specs.declared.design.Decl.{Decl}

mutual
  -- expr = opnd | ( "~" | "&" | "|" | "^" ) opnd | opnd op opnd | opnd "?" opnd ":" opnd
  pub data Term : Type 0 where
    Plain : Operand → Term
    Prefixed : VOne → Operand → Term
    Joined : VTwo → Operand → Operand → Term
    Chosen : Operand → Operand → Operand → Term

  -- opnd = id | id "[" dec "]" | id "[" dec ":" dec "]" | const | "{" opnd { "," opnd } "}" | "(" expr ")"
  pub data Operand : Type 0 where
    Whole : List ℕ → Operand
    Bit : List ℕ → ℕ → Operand
    Part : List ℕ → ℕ → ℕ → Operand
    Sized : ℕ → ℕ → Operand
    Braced : Operand → Operands → Operand
    Grouped : Term → Operand

  pub data Operands : Type 0 where
    no_more : Operands
    and_also : Operand → Operands → Operands

-- stmt = "assign" id "=" expr ";"
--      | "always" "@" "(" "posedge" id ")" id "<=" expr ";"
--      | "always" "@" "(" "posedge" id "or" ( "posedge" | "negedge" ) id ")"
--        "if" "(" [ "!" ] id ")" id "<=" const ";" "else" id "<=" expr ";"
-- The last names its reset in the event and in the test, and its register in both branches.
pub data Statement : Type 0 where
  Assign : (to : List ℕ) → Term → Statement
  Clocked : (clock to : List ℕ) → Term → Statement
  Resettable : (clock : List ℕ) (low : Bool) (reset : List ℕ) (negated : Bool) (test to : List ℕ) (width value : ℕ) (again : List ℕ) → Term
      → Statement

-- module = "module" id "(" port { "," port } ")" ";" { decl } { stmt } "endmodule"
pub record Tree : Type 0 where
  pub name : List ℕ
  pub ports : List Port
  pub decls : List Decl
  pub stmts : List Statement

-- a quoted word or mark of the grammar
abbrev pub quoted : String → Token
quoted text = Word (codes text)

-- the operators of one operand
abbrev pub one_word : VOne → List ℕ
one_word Not = codes "~"
one_word All = codes "&"
one_word Any = codes "|"
one_word Odd = codes "^"

-- op = "+" | "-" | "&" | "|" | "^" | "==" | "!=" | "<" | "<=" | ">" | ">="
abbrev pub two_word : VTwo → List ℕ
two_word Add = codes "+"
two_word Sub = codes "-"
two_word And = codes "&"
two_word Or = codes "|"
two_word Xor = codes "^"
two_word Eq = codes "=="
two_word Ne = codes "!="
two_word Lt = codes "<"
two_word Le = codes "<="
two_word Gt = codes ">"
two_word Ge = codes ">="

abbrev mutual
  -- the tokens of an expression
  pub term_tokens : Term → List Token
  term_tokens (Plain a) = operand_tokens a
  term_tokens (Prefixed op a) = Word (one_word op) ∷ operand_tokens a
  term_tokens (Joined op a b) = operand_tokens a ++ (Word (two_word op) ∷ operand_tokens b)
  term_tokens (Chosen c a b) =
      operand_tokens c ++ (quoted "?" ∷ (operand_tokens a ++ (quoted ":" ∷ operand_tokens b)))

  pub operand_tokens : Operand → List Token
  operand_tokens (Whole n) = Name n ∷ []
  operand_tokens (Bit n k) = Name n ∷ quoted "[" ∷ Number k ∷ quoted "]" ∷ []
  operand_tokens (Part n hi lo) = Name n ∷ quoted "[" ∷ Number hi ∷ quoted ":" ∷ Number lo ∷ quoted "]" ∷ []
  operand_tokens (Sized w v) = Const w v ∷ []
  operand_tokens (Braced a rest) = quoted "{" ∷ (operand_tokens a ++ (operands_tokens rest ++ quoted "}" ∷ []))
  operand_tokens (Grouped e) = quoted "(" ∷ (term_tokens e ++ quoted ")" ∷ [])

  pub operands_tokens : Operands → List Token
  operands_tokens no_more = []
  operands_tokens (and_also a rest) = quoted "," ∷ (operand_tokens a ++ operands_tokens rest)

-- range = "[" dec ":" "0" "]", and none where the width is 1
abbrev pub range_tokens : ℕ → List Token
range_tokens w = if w == 1 then [] else quoted "[" ∷ Number (w - 1) ∷ quoted ":" ∷ Number 0 ∷ quoted "]" ∷ []

-- the word of a side
abbrev pub dir_word : Dir → List ℕ
dir_word In = codes "input"
dir_word Out = codes "output"

-- port = ( "input" | "output" ) [ range ] id
abbrev pub port_tokens : Port → List Token
port_tokens p = Word (dir_word p.dir) ∷ (range_tokens p.width ++ Name p.name ∷ [])

-- port { "," port }
abbrev pub ports_tokens : List Port → List Token
ports_tokens [] = []
ports_tokens (p ∷ []) = port_tokens p
ports_tokens (p ∷ q ∷ ps) = port_tokens p ++ (quoted "," ∷ ports_tokens (q ∷ ps))

-- the word of a declaration
abbrev pub decl_word : Bool → List ℕ
decl_word true = codes "reg"
decl_word false = codes "wire"

-- decl = ( "wire" | "reg" ) [ range ] id ";"
abbrev pub decls_tokens : List Decl → List Token
decls_tokens [] = []
decls_tokens (d ∷ ds) = Word (decl_word d.reg) ∷ (range_tokens d.width ++ (Name d.name ∷ quoted ";" ∷ decls_tokens ds))

-- the edge at which a reset acts: the falling one where it is active at 0
abbrev pub edge_word : Bool → List ℕ
edge_word true = codes "negedge"
edge_word false = codes "posedge"

-- [ "!" ]
abbrev pub negation : Bool → List Token
negation true = quoted "!" ∷ []
negation false = []

-- the tokens of a statement
abbrev pub stmt_tokens : Statement → List Token
stmt_tokens (Assign to e) = quoted "assign" ∷ Name to ∷ quoted "=" ∷ (term_tokens e ++ quoted ";" ∷ [])
stmt_tokens (Clocked clock to e) = quoted "always" ∷ quoted "@" ∷ quoted "(" ∷ quoted "posedge" ∷ Name clock ∷ quoted ")"
    ∷ Name to ∷ quoted "<=" ∷ (term_tokens e ++ quoted ";" ∷ [])
stmt_tokens (Resettable clock low reset negated test to width value again e) =
    quoted "always" ∷ quoted "@" ∷ quoted "(" ∷ quoted "posedge" ∷ Name clock
    ∷ quoted "or" ∷ Word (edge_word low) ∷ Name reset ∷ quoted ")"
    ∷ quoted "if" ∷ quoted "(" ∷ (negation negated ++ (Name test ∷ quoted ")"
    ∷ Name to ∷ quoted "<=" ∷ Const width value ∷ quoted ";"
    ∷ quoted "else" ∷ Name again ∷ quoted "<=" ∷ (term_tokens e ++ quoted ";" ∷ [])))

-- { stmt }
abbrev pub stmts_tokens : List Statement → List Token
stmts_tokens ss = flat_map stmt_tokens ss

-- the tokens of a module
abbrev pub tokens_of : Tree → List Token
tokens_of t = quoted "module" ∷ Name t.name ∷ quoted "(" ∷ (ports_tokens t.ports ++ (quoted ")" ∷ quoted ";"
    ∷ (decls_tokens t.decls ++ (stmts_tokens t.stmts ++ quoted "endmodule" ∷ []))))

-- a bracket that is opened, and one that is closed
abbrev pub opens : List ℕ → Bool
opens w = bytes_eq w (codes "(") || bytes_eq w (codes "{")

abbrev pub closes : List ℕ → Bool
closes w = bytes_eq w (codes ")") || bytes_eq w (codes "}")

-- never more than 64 brackets ( or { are open, where some are open already
abbrev pub nests : ℕ → List Token → Bool
nests opened [] = true
nests opened (Word w ∷ ts) = if opens w then nat_lt opened 64 && nests (opened + 1) ts
    else (if closes w then nests (opened - 1) ts else nests opened ts)
nests opened (_ ∷ ts) = nests opened ts

-- a net has 1 to 128 bits
abbrev pub is_width : ℕ → Bool
is_width w = nat_le 1 w && nat_le w 128

-- each port, and each declaration, has such a width
abbrev pub port_widths : List Port → Bool
port_widths ps = list_all (λ p. is_width p.width) ps

abbrev pub decl_widths : List Decl → Bool
decl_widths ds = list_all (λ d. is_width d.width) ds

-- the bytes are this module tree
pub record IsTree (bytes : List ℕ) (t : Tree) : Type 0 where
  pub spelled : Spells bytes (tokens_of t)
  pub ported : 0 < length t.ports
  pub ranges : IsTrue (port_widths t.ports && decl_widths t.decls)
  pub nested : IsTrue (nests 0 (tokens_of t))
