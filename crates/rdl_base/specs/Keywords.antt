-- The reserved words of a source (this project's list).
use Rattle.std.specs.Prelude.{ℕ, Bool, List, [], ◌∷◌, map, codes}
use Rattle.std.specs.List.{list_any}
use Rattle.std.specs.Str.{bytes_eq}
use Rattle.rdl_base.specs.declared.keyword.Keyword.{Keyword}
use Rattle.rdl_base.specs.declared.keyword.Keyword.TheVariants.{Addrmap, Regfile, Reg, Field, Signal, Enum, Alias, Default, Internal, Posedge, Negedge, Bothedge, Level, Nonsticky, True, False, Longint, Bit, Unsigned, Boolean, String, Rw, Wr, R, W, Rw1, W1, Na, Woset, Woclr, Wot, Wzs, Wzc, Wzt, Wclr, Wset, Rclr, Rset, Compact, Regalign, Fullalign, Constraint, Mem, External, Struct, Abstract, Property, Ruser, Wuser, Accesstype, Addressingtype, Onreadtype, Onwritetype}

-- how each is spelled
abbrev pub word : Keyword → List ℕ
word Addrmap = codes "addrmap"
word Regfile = codes "regfile"
word Reg = codes "reg"
word Field = codes "field"
word Signal = codes "signal"
word Enum = codes "enum"
word Alias = codes "alias"
word Default = codes "default"
word Internal = codes "internal"
word Posedge = codes "posedge"
word Negedge = codes "negedge"
word Bothedge = codes "bothedge"
word Level = codes "level"
word Nonsticky = codes "nonsticky"
word True = codes "true"
word False = codes "false"
word Longint = codes "longint"
word Bit = codes "bit"
word Unsigned = codes "unsigned"
word Boolean = codes "boolean"
word String = codes "string"
word Rw = codes "rw"
word Wr = codes "wr"
word R = codes "r"
word W = codes "w"
word Rw1 = codes "rw1"
word W1 = codes "w1"
word Na = codes "na"
word Woset = codes "woset"
word Woclr = codes "woclr"
word Wot = codes "wot"
word Wzs = codes "wzs"
word Wzc = codes "wzc"
word Wzt = codes "wzt"
word Wclr = codes "wclr"
word Wset = codes "wset"
word Rclr = codes "rclr"
word Rset = codes "rset"
word Compact = codes "compact"
word Regalign = codes "regalign"
word Fullalign = codes "fullalign"
word Constraint = codes "constraint"
word Mem = codes "mem"
word External = codes "external"
word Struct = codes "struct"
word Abstract = codes "abstract"
word Property = codes "property"
word Ruser = codes "ruser"
word Wuser = codes "wuser"
word Accesstype = codes "accesstype"
word Addressingtype = codes "addressingtype"
word Onreadtype = codes "onreadtype"
word Onwritetype = codes "onwritetype"

-- all of them
unfoldable pub keywords : List Keyword
keywords = Addrmap ∷ Regfile ∷ Reg ∷ Field ∷ Signal ∷ Enum ∷ Alias ∷ Default ∷ Internal ∷ Posedge ∷ Negedge ∷ Bothedge ∷ Level ∷ Nonsticky ∷ True ∷ False ∷ Longint ∷ Bit ∷ Unsigned ∷ Boolean ∷ String ∷ Rw ∷ Wr ∷ R ∷ W ∷ Rw1 ∷ W1 ∷ Na ∷ Woset ∷ Woclr ∷ Wot ∷ Wzs ∷ Wzc ∷ Wzt ∷ Wclr ∷ Wset ∷ Rclr ∷ Rset ∷ Compact ∷ Regalign ∷ Fullalign ∷ Constraint ∷ Mem ∷ External ∷ Struct ∷ Abstract ∷ Property ∷ Ruser ∷ Wuser ∷ Accesstype ∷ Addressingtype ∷ Onreadtype ∷ Onwritetype ∷ []

-- the list of the reserved words
unfoldable pub reserved : List (List ℕ)
reserved = map word keywords

-- the text is a reserved word
unfoldable pub is_reserved : List ℕ → Bool
is_reserved text = list_any (λ word. bytes_eq word text) reserved
