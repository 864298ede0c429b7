-- A module tree in its printed layout.
use Rattle.std.proofs.Common.{ℕ, ◌-◌, ◌==◌, Bool, true, false, if◌then◌else◌, List, [], ◌∷◌, ◌++◌, codes}
use Rattle.rb_grammar.specs.Printing.{Cell}
use Rattle.v_design.specs.Lexemes.{Token, Word, Name, Number, Const}
use Rattle.v_design.specs.Tree.{Tree, Statement, Assign, Clocked, Resettable, Term, Operand, Operands, Plain, Prefixed, Joined, Chosen, Whole, Bit, Part, Sized, Braced, Grouped, no_more, and_also, one_word, two_word, dir_word, decl_word, edge_word}
use Rattle.rb_base.specs.declared.ports.Port.{Port}
use Rattle.v_design.specs.declared.design.Decl.{Decl}

abbrev pub at : List ℕ → Token → Cell Token
at gap token = record { gap = gap; token = token }

-- behind a space, and behind nothing
abbrev pub far : List ℕ → Cell Token
far w = at (32 ∷ []) (Word w)

abbrev pub near : List ℕ → Cell Token
near w = at [] (Word w)

abbrev mutual
  pub term_cells : List ℕ → Term → List (Cell Token)
  term_cells g (Plain a) = operand_cells g a
  term_cells g (Prefixed op a) = at g (Word (one_word op)) ∷ operand_cells [] a
  term_cells g (Joined op a b) = operand_cells g a ++ (far (two_word op) ∷ operand_cells (32 ∷ []) b)
  term_cells g (Chosen c a b) = operand_cells g c ++ (far (codes "?") ∷ (operand_cells (32 ∷ []) a ++ (far (codes ":") ∷ operand_cells (32 ∷ []) b)))

  pub operand_cells : List ℕ → Operand → List (Cell Token)
  operand_cells g (Whole n) = at g (Name n) ∷ []
  operand_cells g (Bit n k) = at g (Name n) ∷ near (codes "[") ∷ at [] (Number k) ∷ near (codes "]") ∷ []
  operand_cells g (Part n hi lo) = at g (Name n) ∷ near (codes "[") ∷ at [] (Number hi) ∷ near (codes ":") ∷ at [] (Number lo) ∷ near (codes "]") ∷ []
  operand_cells g (Sized w v) = at g (Const w v) ∷ []
  operand_cells g (Braced a rest) = at g (Word (codes "{")) ∷ (operand_cells [] a ++ (operands_cells rest ++ near (codes "}") ∷ []))
  operand_cells g (Grouped e) = at g (Word (codes "(")) ∷ (term_cells [] e ++ near (codes ")") ∷ [])

  pub operands_cells : Operands → List (Cell Token)
  operands_cells no_more = []
  operands_cells (and_also a rest) = near (codes ",") ∷ (operand_cells (32 ∷ []) a ++ operands_cells rest)

abbrev pub range_cells : ℕ → List (Cell Token)
range_cells w = if w == 1 then [] else far (codes "[") ∷ at [] (Number (w - 1)) ∷ near (codes ":") ∷ at [] (Number 0) ∷ near (codes "]") ∷ []

-- a line of its own
abbrev pub line : List ℕ
line = 10 ∷ codes "  "

abbrev pub port_cells : Port → List (Cell Token)
port_cells p = at line (Word (dir_word p.dir)) ∷ (range_cells p.width ++ at (32 ∷ []) (Name p.name) ∷ [])

abbrev pub ports_cells : List Port → List (Cell Token)
ports_cells [] = []
ports_cells (p ∷ []) = port_cells p
ports_cells (p ∷ q ∷ ps) = port_cells p ++ (near (codes ",") ∷ ports_cells (q ∷ ps))

abbrev pub decls_cells : List Decl → List (Cell Token)
decls_cells [] = []
decls_cells (d ∷ ds) = at line (Word (decl_word d.reg)) ∷ (range_cells d.width ++ (at (32 ∷ []) (Name d.name) ∷ near (codes ";") ∷ decls_cells ds))

abbrev pub negation_cells : Bool → List (Cell Token)
negation_cells true = near (codes "!") ∷ []
negation_cells false = []

abbrev pub stmt_cells : Statement → List (Cell Token)
stmt_cells (Assign to e) = at line (Word (codes "assign")) ∷ at (32 ∷ []) (Name to) ∷ far (codes "=") ∷ (term_cells (32 ∷ []) e ++ near (codes ";") ∷ [])
stmt_cells (Clocked clock to e) = at line (Word (codes "always")) ∷ far (codes "@") ∷ near (codes "(") ∷ near (codes "posedge") ∷ at (32 ∷ []) (Name clock) ∷ near (codes ")")
    ∷ at (32 ∷ []) (Name to) ∷ far (codes "<=") ∷ (term_cells (32 ∷ []) e ++ near (codes ";") ∷ [])
stmt_cells (Resettable clock low reset negated test to width value again e) = at line (Word (codes "always")) ∷ far (codes "@") ∷ near (codes "(") ∷ near (codes "posedge") ∷ at (32 ∷ []) (Name clock)
    ∷ far (codes "or") ∷ far (edge_word low) ∷ at (32 ∷ []) (Name reset) ∷ near (codes ")")
    ∷ at (10 ∷ codes "    ") (Word (codes "if")) ∷ far (codes "(") ∷ (negation_cells negated ++ (at [] (Name test) ∷ near (codes ")") ∷ at (32 ∷ []) (Name to) ∷ far (codes "<=") ∷ at (32 ∷ []) (Const width value) ∷ near (codes ";")
    ∷ at (10 ∷ codes "    ") (Word (codes "else")) ∷ at (32 ∷ []) (Name again) ∷ far (codes "<=") ∷ (term_cells (32 ∷ []) e ++ near (codes ";") ∷ [])))

abbrev pub stmts_cells : List Statement → List (Cell Token)
stmts_cells [] = []
stmts_cells (s ∷ ss) = stmt_cells s ++ stmts_cells ss

abbrev pub tree_cells : Tree → List (Cell Token)
tree_cells t = near (codes "module") ∷ at (32 ∷ []) (Name t.name) ∷ far (codes "(") ∷ (ports_cells t.ports ++ (at (10 ∷ []) (Word (codes ")")) ∷ near (codes ";")
    ∷ (decls_cells t.decls ++ (stmts_cells t.stmts ++ at (10 ∷ []) (Word (codes "endmodule")) ∷ []))))
