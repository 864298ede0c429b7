-- The grammar of a module as a table (a subset of IEEE 1364-2005, annex A).
use Prim.Native.String.{String}
use Rattle.std.specs.Str.{bytes_eq}
use Rattle.std.specs.Prelude.{ℕ, Bool, true, false, ◌&&◌, ◌==◌, nat_le, if◌then◌else◌, List, codes}
use Rattle.rb_grammar.specs.Forms.{Form, Tok, Non, ◌or◌, Opt, Many, ◌then◌, Grammar}
use Rattle.rb_grammar.specs.Spelling.{At}
use Rattle.rb_grammar.specs.declared.nesting.Nesting.{Nesting}
use Rattle.rb_grammar.specs.declared.nesting.Nesting.TheVariants.{Opens, Closes, Neither}
use Rattle.v_design.specs.Lexemes.{Token, Word, Name, Number, Const}
use Rattle.v_design.specs.Tree.{opens, closes}

-- a quoted word or mark, an identifier, a decimal number, one of 1 to 127, the number 0, or a constant
pub data Terminal : Type 0 where
  Quoted : List ℕ → Terminal
  Identifier Decimal High Zero Constant : Terminal

-- the token is of the terminal
abbrev pub is : Terminal → Token → Bool
is (Quoted text) (Word word) = bytes_eq word text
is Identifier (Name name) = true
is Decimal (Number n) = true
is High (Number n) = nat_le 1 n && nat_le n 127
is Zero (Number n) = n == 0
is Constant (Const width value) = true
is a t = false

pub data Rule : Type 0 where
  Module Port Side Range Decl Stmt Block Reset Edge Expr Prefix Infix Operand Select : Rule

abbrev pub quoted : String → Form Terminal Rule
quoted text = Tok (Quoted (codes text))

abbrev pub id : Form Terminal Rule
id = Tok Identifier

-- module  = "module" id "(" port { "," port } ")" ";" { decl } { stmt } "endmodule" .
-- port    = side [ range ] id .
-- side    = "input" | "output" .
-- range   = "[" high ":" "0" "]" .
-- decl    = ( "wire" | "reg" ) [ range ] id ";" .
-- stmt    = "assign" id "=" expr ";" | block .
-- block   = "always" "@" "(" "posedge" id ( ")" id "<=" expr ";" | reset ) .
-- reset   = "or" edge id ")" "if" "(" [ "!" ] id ")" id "<=" const ";" "else" id "<=" expr ";" .
-- edge    = "posedge" | "negedge" .
-- expr    = prefix operand | operand [ infix operand | "?" operand ":" operand ] .
-- prefix  = "~" | "&" | "|" | "^" .
-- infix   = "+" | "-" | "&" | "|" | "^" | "==" | "!=" | "<" | "<=" | ">" | ">=" .
-- operand = id [ select ] | const | "{" operand { "," operand } "}" | "(" expr ")" .
-- select  = "[" dec [ ":" dec ] "]" .
abbrev pub rule : Rule → Form Terminal Rule
rule Module =
    quoted "module" then id then quoted "(" then Non Port then Many (quoted "," then Non Port) then quoted ")" then quoted ";"
    then Many (Non Decl) then Many (Non Stmt) then quoted "endmodule"
rule Port = Non Side then Opt (Non Range) then id
rule Side = quoted "input" or quoted "output"
rule Range = quoted "[" then Tok High then quoted ":" then Tok Zero then quoted "]"
rule Decl = (quoted "wire" or quoted "reg") then Opt (Non Range) then id then quoted ";"
rule Stmt = quoted "assign" then id then quoted "=" then Non Expr then quoted ";" or Non Block
rule Block =
    quoted "always" then quoted "@" then quoted "(" then quoted "posedge" then id
    then (quoted ")" then id then quoted "<=" then Non Expr then quoted ";" or Non Reset)
rule Reset =
    quoted "or" then Non Edge then id then quoted ")" then quoted "if" then quoted "(" then Opt (quoted "!") then id then quoted ")"
    then id then quoted "<=" then Tok Constant then quoted ";" then quoted "else" then id then quoted "<=" then Non Expr then quoted ";"
rule Edge = quoted "posedge" or quoted "negedge"
rule Expr =
    Non Prefix then Non Operand
    or Non Operand then Opt (Non Infix then Non Operand or quoted "?" then Non Operand then quoted ":" then Non Operand)
rule Prefix = quoted "~" or quoted "&" or quoted "|" or quoted "^"
rule Infix =
    quoted "+" or quoted "-" or quoted "&" or quoted "|" or quoted "^" or quoted "==" or quoted "!="
    or quoted "<" or quoted "<=" or quoted ">" or quoted ">="
rule Operand =
    id then Opt (Non Select) or Tok Constant
    or quoted "{" then Non Operand then Many (quoted "," then Non Operand) then quoted "}" or quoted "(" then Non Expr then quoted ")"
rule Select = quoted "[" then Tok Decimal then Opt (quoted ":" then Tok Decimal) then quoted "]"

-- the grammar, over tokens at their places
abbrev pub grammar : Grammar Terminal Rule (At Token)
grammar = record { is = λ a t. is a t.token; rule = rule }

-- which words are brackets that nest
abbrev pub word_nesting : List ℕ → Nesting
word_nesting word = if opens word then Opens else (if closes word then Closes else Neither)

abbrev pub nesting_of : Token → Nesting
nesting_of (Word word) = word_nesting word
nesting_of t = Neither

abbrev pub nesting : At Token → Nesting
nesting t = nesting_of t.token

-- how many of them may be open
abbrev pub most_open : ℕ
most_open = 64
