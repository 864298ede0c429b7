-- The grammar of a source: this profile of SystemRDL 2.0, annex B.
use Rattle.rdl_base.specs.declared.keyword.Keyword.{Keyword}
use Rattle.rdl_base.specs.declared.keyword.Keyword.TheVariants as words
use Rattle.rb_grammar.specs.Forms.{Form, Tok, Non, ◌or◌, Opt, Many, ◌then◌, Grammar}
use Rattle.rdl_tree.specs.declared.token.Mark.{Mark}
use Rattle.rdl_tree.specs.declared.token.Mark.TheVariants as marks
use Rattle.rdl_tree.specs.declared.token.Token.{Token}
use Rattle.rdl_tree.specs.declared.token.Terminal.{Terminal}
use Rattle.rdl_tree.specs.declared.token.Terminal.TheVariants as terminals
use Rattle.rdl_tree.specs.Tokens.{is}

pub data Rule : Type 0 where
  Source Item Component Body Kind Params Param ParamType Made Insts InstList Args Arg Inst Index Range Enum Entry Default Local Trigger Dynamic Prop Given Path Step Expr Binary Operator Prefix Primary : Rule

abbrev pub name : Form Terminal Rule
name = Tok terminals.Name

abbrev pub mark : Mark → Form Terminal Rule
mark m = Tok (terminals.Mark m)

abbrev pub word : Keyword → Form Terminal Rule
word k = Tok (terminals.Reserved k)

-- one or more, with commas between
abbrev pub listed : Form Terminal Rule → Form Terminal Rule
listed f = f then Many (mark marks.Comma then f)

-- a value behind a mark
abbrev pub behind : Mark → Form Terminal Rule
behind m = mark m then Non Expr

-- source    = { item } .
-- item      = component | enum | made | default | local | dynamic .
-- component = [ "internal" ] kind ( name [ params ] body [ [ "internal" ] insts ] | body [ "internal" ] instlist ) ";" .
-- body      = "{" { item } "}" .
-- kind      = "addrmap" | "regfile" | "reg" | "field" | "signal" .
-- params    = "#" "(" param { "," param } ")" .
-- param     = paramtype name [ "=" expr ] .
-- paramtype = ( "longint" | "bit" ) [ "unsigned" ] | "boolean" | "string" .
-- made      = [ "internal" ] [ "alias" name ] name insts ";" .
-- insts     = [ args ] instlist .
-- instlist  = inst { "," inst } .
-- args      = "#" "(" arg { "," arg } ")" .
-- arg       = "." name "(" expr ")" .
-- inst      = name ( { index } | range ) [ "=" expr ] [ "@" expr ] [ "+=" expr ] [ "%=" expr ] .
-- index     = "[" expr "]" .
-- range     = "[" expr ":" expr "]" .
-- enum      = "enum" name "{" { entry } "}" ";" .
-- entry     = name [ "=" expr ] [ "{" { local } "}" ] ";" .
-- default   = "default" local .
-- local     = prop [ "=" given ] ";" | trigger prop ";" .
-- trigger   = "posedge" | "negedge" | "bothedge" | "level" | "nonsticky" .
-- dynamic   = path "->" prop [ "=" given ] ";" .
-- prop      = name | "woset" | "woclr" | "rclr" | "rset" .
-- given     = expr | "rw" | "wr" | "r" | "w" | "rw1" | "w1" | "na" | "woset" | "woclr" | "wot" | "wzs" | "wzc" | "wzt"
--           | "wclr" | "wset" | "rclr" | "rset" | "compact" | "regalign" | "fullalign" .
-- path      = step { "." step } .
-- step      = name { index } .
-- expr      = binary [ "?" binary ":" binary ] .
-- binary    = prefix { operator prefix } .
-- operator  = "||" | "&&" | "|" | "^" | "&" | "==" | "!=" | "<" | "<=" | ">" | ">=" | "<<" | ">>" | "+" | "-" | "*" | "/"
--           | "%" | "**" .
-- prefix    = [ "!" ] primary .
-- primary   = number | string | "true" | "false" | "(" expr ")" | name "::" name | path [ "->" prop ] .
abbrev pub rule : Rule → Form Terminal Rule
rule Source = Many (Non Item)
rule Item = Non Component or Non Enum or Non Made or Non Default or Non Local or Non Dynamic
rule Component =
    Opt (word words.Internal) then Non Kind
    then (name then Opt (Non Params) then Non Body then Opt (Opt (word words.Internal) then Non Insts) or Non Body then Opt (word words.Internal) then Non InstList)
    then mark marks.Semicolon
rule Body = mark marks.OpenBrace then Many (Non Item) then mark marks.CloseBrace
rule Kind = word words.Addrmap or word words.Regfile or word words.Reg or word words.Field or word words.Signal
rule Params = mark marks.Hash then mark marks.OpenParen then listed (Non Param) then mark marks.CloseParen
rule Param = Non ParamType then name then Opt (behind marks.Equals)
rule ParamType = (word words.Longint or word words.Bit) then Opt (word words.Unsigned) or word words.Boolean or word words.String
rule Made = Opt (word words.Internal) then Opt (word words.Alias then name) then name then Non Insts then mark marks.Semicolon
rule Insts = Opt (Non Args) then Non InstList
rule InstList = listed (Non Inst)
rule Args = mark marks.Hash then mark marks.OpenParen then listed (Non Arg) then mark marks.CloseParen
rule Arg = mark marks.Dot then name then mark marks.OpenParen then Non Expr then mark marks.CloseParen
rule Inst =
    name then (Many (Non Index) or Non Range)
    then Opt (behind marks.Equals) then Opt (behind marks.At) then Opt (behind marks.PlusEquals) then Opt (behind marks.PercentEquals)
rule Index = mark marks.OpenBracket then Non Expr then mark marks.CloseBracket
rule Range = mark marks.OpenBracket then Non Expr then mark marks.Colon then Non Expr then mark marks.CloseBracket
rule Enum = word words.Enum then name then mark marks.OpenBrace then Many (Non Entry) then mark marks.CloseBrace then mark marks.Semicolon
rule Entry = name then Opt (behind marks.Equals) then Opt (mark marks.OpenBrace then Many (Non Local) then mark marks.CloseBrace) then mark marks.Semicolon
rule Default = word words.Default then Non Local
rule Local = Non Prop then Opt (mark marks.Equals then Non Given) then mark marks.Semicolon or Non Trigger then Non Prop then mark marks.Semicolon
rule Trigger = word words.Posedge or word words.Negedge or word words.Bothedge or word words.Level or word words.Nonsticky
rule Dynamic = Non Path then mark marks.Arrow then Non Prop then Opt (mark marks.Equals then Non Given) then mark marks.Semicolon
rule Prop = name or word words.Woset or word words.Woclr or word words.Rclr or word words.Rset
rule Given =
    Non Expr or word words.Rw or word words.Wr or word words.R or word words.W or word words.Rw1 or word words.W1 or word words.Na or word words.Woset or word words.Woclr
    or word words.Wot or word words.Wzs or word words.Wzc or word words.Wzt or word words.Wclr or word words.Wset or word words.Rclr or word words.Rset
    or word words.Compact or word words.Regalign or word words.Fullalign
rule Path = Non Step then Many (mark marks.Dot then Non Step)
rule Step = name then Many (Non Index)
rule Expr = Non Binary then Opt (mark marks.Question then Non Binary then mark marks.Colon then Non Binary)
rule Binary = Non Prefix then Many (Non Operator then Non Prefix)
rule Operator =
    mark marks.OrOr or mark marks.AndAnd or mark marks.Or or mark marks.Caret or mark marks.And or mark marks.EqualEqual or mark marks.NotEqual or mark marks.Less or mark marks.LessEqual
    or mark marks.Greater or mark marks.GreaterEqual or mark marks.ShiftLeft or mark marks.ShiftRight or mark marks.Plus or mark marks.Minus or mark marks.Star or mark marks.Slash
    or mark marks.Percent or mark marks.StarStar
rule Prefix = Opt (mark marks.Not) then Non Primary
rule Primary =
    Tok terminals.Number or Tok terminals.Str or word words.True or word words.False or mark marks.OpenParen then Non Expr then mark marks.CloseParen
    or name then mark marks.ColonColon then name or Non Path then Opt (mark marks.Arrow then Non Prop)

-- the grammar
abbrev pub grammar : Grammar Terminal Rule Token
grammar = record { is = is; rule = rule }
