-- The table of what the rules begin with.
use Rattle.std.specs.Str.{bytes_eq}
use Rattle.std.specs.Cmp.Lexicographic.{bytes_decides}
use Rattle.std.proofs.Common.{◌≡◌, ℕ, Bool, true, false, not, List, [], ◌∷◌, ◌++◌, codes, map, refl, ap, sym, ◌∙◌}
use Rattle.std.proofs.lemmas.Bool.{false_from_ne_true, both_ways, not-true}
use Rattle.rb_grammar.specs.Firsts.{Table, tells, IsTableOf}
use Rattle.v_design.specs.Lexemes.{Token, Word, Name, Number, Const}
use Rattle.v_syntax.specs.Grammar.{Terminal, Quoted, Identifier, Decimal, High, Zero, Constant, is, Rule, Module, Port, Side, Range, Decl, Stmt, Block, Reset, Edge, Expr, Prefix, Infix, Operand, Select, rule, grammar}

abbrev pub prefixes : List Terminal
prefixes = map Quoted (map codes ("~" ∷ "&" ∷ "|" ∷ "^" ∷ []))

abbrev pub infixes : List Terminal
infixes = map Quoted (map codes ("+" ∷ "-" ∷ "&" ∷ "|" ∷ "^" ∷ "==" ∷ "!=" ∷ "<" ∷ "<=" ∷ ">" ∷ ">=" ∷ []))

abbrev pub operands : List Terminal
operands = Identifier ∷ Constant ∷ Quoted (codes "{") ∷ Quoted (codes "(") ∷ []

abbrev pub first : Rule → List Terminal
first Module = Quoted (codes "module") ∷ []
first Port = Quoted (codes "input") ∷ Quoted (codes "output") ∷ []
first Side = Quoted (codes "input") ∷ Quoted (codes "output") ∷ []
first Range = Quoted (codes "[") ∷ []
first Decl = Quoted (codes "wire") ∷ Quoted (codes "reg") ∷ []
first Stmt = Quoted (codes "assign") ∷ Quoted (codes "always") ∷ []
first Block = Quoted (codes "always") ∷ []
first Reset = Quoted (codes "or") ∷ []
first Edge = Quoted (codes "posedge") ∷ Quoted (codes "negedge") ∷ []
first Expr = prefixes ++ operands
first Prefix = prefixes
first Infix = infixes
first Operand = operands
first Select = Quoted (codes "[") ∷ []

abbrev pub same : Terminal → Terminal → Bool
same (Quoted a) (Quoted b) = bytes_eq a b
same Identifier Identifier = true
same Decimal Decimal = true
same High High = true
same Zero Zero = true
same Constant Constant = true
same a b = false

-- a token may be of both
abbrev pub overlap : Terminal → Terminal → Bool
overlap (Quoted a) (Quoted b) = bytes_eq a b
overlap Identifier Identifier = true
overlap Constant Constant = true
overlap Decimal Decimal = true
overlap Decimal High = true
overlap Decimal Zero = true
overlap High Decimal = true
overlap High High = true
overlap High Zero = true
overlap Zero Decimal = true
overlap Zero High = true
overlap Zero Zero = true
overlap a b = false

abbrev pub table : Table Terminal Rule
table = record { first = first; empty = λ x. false; same = same; apart = λ a b. not (overlap a b) }

each : (x : Rule) → tells table x (rule x) ≡ true
each Module = refl
each Port = refl
each Side = refl
each Range = refl
each Decl = refl
each Stmt = refl
each Block = refl
each Reset = refl
each Edge = refl
each Expr = refl
each Prefix = refl
each Infix = refl
each Operand = refl
each Select = refl

exact : (a b : Terminal) → same a b ≡ true → a ≡ b
exact (Quoted a) (Quoted b) e = ap Quoted ((bytes_decides a b).0 e)
exact Identifier Identifier e = refl
exact Decimal Decimal e = refl
exact High High e = refl
exact Zero Zero e = refl
exact Constant Constant e = refl
exact _ _ e = cc

alike : (a : Terminal) → same a a ≡ true
alike (Quoted a) = (bytes_decides a a).1 refl
alike Identifier = refl
alike Decimal = refl
alike High = refl
alike Zero = refl
alike Constant = refl

-- a quoted word or mark is one text
other_text : (a b w : List ℕ) → not (bytes_eq a b) ≡ true → bytes_eq w a ≡ true → bytes_eq w b ≡ false
other_text a b w h e = false_from_ne_true (bytes_eq w b) (λ f.
    let one : w ≡ a = (bytes_decides w a).0 e in
    let two : w ≡ b = (bytes_decides w b).0 f in
    both_ways (bytes_eq a b) (not-true (bytes_eq a b) h) ((bytes_decides a b).1 (sym one ∙ two)))

none : (a b : Terminal) (t : Token) → not (overlap a b) ≡ true → is a t ≡ true → is b t ≡ false
none (Quoted a) (Quoted b) (Word w) p q = other_text a b w p q
none (Quoted a) Identifier (Word w) p q = refl
none (Quoted a) Decimal (Word w) p q = refl
none (Quoted a) High (Word w) p q = refl
none (Quoted a) Zero (Word w) p q = refl
none (Quoted a) Constant (Word w) p q = refl
none (Quoted a) b (Name n) p q = cc
none (Quoted a) b (Number n) p q = cc
none (Quoted a) b (Const w v) p q = cc
none Identifier Identifier t p q = cc
none Identifier (Quoted b) (Name n) p q = refl
none Identifier Decimal (Name n) p q = refl
none Identifier High (Name n) p q = refl
none Identifier Zero (Name n) p q = refl
none Identifier Constant (Name n) p q = refl
none Identifier b (Word w) p q = cc
none Identifier b (Number n) p q = cc
none Identifier b (Const w v) p q = cc
none Constant Constant t p q = cc
none Constant (Quoted b) (Const w v) p q = refl
none Constant Decimal (Const w v) p q = refl
none Constant High (Const w v) p q = refl
none Constant Zero (Const w v) p q = refl
none Constant Identifier (Const w v) p q = refl
none Constant b (Word w) p q = cc
none Constant b (Name n) p q = cc
none Constant b (Number n) p q = cc
none Decimal (Quoted b) (Number n) p q = refl
none Decimal Identifier (Number n) p q = refl
none Decimal Constant (Number n) p q = refl
none High (Quoted b) (Number n) p q = refl
none High Identifier (Number n) p q = refl
none High Constant (Number n) p q = refl
none Zero (Quoted b) (Number n) p q = refl
none Zero Identifier (Number n) p q = refl
none Zero Constant (Number n) p q = refl
none a b t p q = cc

pub right : IsTableOf grammar table
right = record { one = exact; none = λ a b t p q. none a b t.token p q; each = each; alike = alike }
