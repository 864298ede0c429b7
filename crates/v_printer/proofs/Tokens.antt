-- The cells of a module tree hold its tokens.
use Rattle.std.proofs.Common.{◌≡◌, ℕ, ◌-◌, ◌==◌, Bool, true, false, if◌then◌else◌, List, [], ◌∷◌, ◌++◌, codes, refl, ap, ◌∙◌}
use Rattle.std.proofs.lemmas.List.{map-append}
use Rattle.rb_grammar.specs.Printing.{Cell, cell_tokens}
use Rattle.rb_base.specs.declared.ports.Port.{Port}
use Rattle.v_design.specs.declared.design.Decl.{Decl}
use Rattle.v_design.specs.Lexemes.{Token, Word, Name, Number, Const}
use Rattle.v_design.specs.Tree.{Tree, Statement, Assign, Clocked, Resettable, Term, Operand, Operands, Plain, Prefixed, Joined, Chosen, Whole, Bit, Part, Sized, Braced, Grouped, no_more, and_also, quoted, one_word, two_word, term_tokens, operand_tokens, operands_tokens, range_tokens, port_tokens, ports_tokens, decls_tokens, negation, stmt_tokens, stmts_tokens, tokens_of, dir_word, decl_word, edge_word}
use Rattle.v_design.proofs.TreeText.{at, far, near, term_cells, operand_cells, operands_cells, range_cells, port_cells, ports_cells, decls_cells, negation_cells, stmt_cells, stmts_cells, tree_cells}

abbrev Cells : Type 0
Cells = List (Cell Token)

joined : (xs ys : Cells) (ts us : List Token) → cell_tokens xs ≡ ts → cell_tokens ys ≡ us → cell_tokens (xs ++ ys) ≡ ts ++ us
joined xs ys ts us e f = map-append (λ (c : Cell Token). c.token) xs ys ∙ (ap (λ l. l ++ cell_tokens ys) e ∙ ap (λ l. ts ++ l) f)

mutual
  term_same : (g : List ℕ) (e : Term) → cell_tokens (term_cells g e) ≡ term_tokens e
  term_same g (Plain a) = operand_same g a
  term_same g (Prefixed op a) = ap (λ l. Word (one_word op) ∷ l) (operand_same [] a)
  term_same g (Joined op a b) = joined (operand_cells g a) _ (operand_tokens a) _ (operand_same g a) (ap (λ l. Word (two_word op) ∷ l) (operand_same (32 ∷ []) b))
  term_same g (Chosen c a b) = joined (operand_cells g c) _ (operand_tokens c) _ (operand_same g c)
      (ap (λ l. quoted "?" ∷ l) (joined (operand_cells (32 ∷ []) a) _ (operand_tokens a) _ (operand_same (32 ∷ []) a) (ap (λ l. quoted ":" ∷ l) (operand_same (32 ∷ []) b))))

  operand_same : (g : List ℕ) (a : Operand) → cell_tokens (operand_cells g a) ≡ operand_tokens a
  operand_same g (Whole n) = refl
  operand_same g (Bit n k) = refl
  operand_same g (Part n hi lo) = refl
  operand_same g (Sized w v) = refl
  operand_same g (Braced a rest) = ap (λ l. quoted "{" ∷ l) (joined (operand_cells [] a) _ (operand_tokens a) _ (operand_same [] a)
      (joined (operands_cells rest) (near (codes "}") ∷ []) (operands_tokens rest) (quoted "}" ∷ []) (operands_same rest) refl))
  operand_same g (Grouped e) = ap (λ l. quoted "(" ∷ l) (joined (term_cells [] e) (near (codes ")") ∷ []) (term_tokens e) (quoted ")" ∷ []) (term_same [] e) refl)

  operands_same : (rest : Operands) → cell_tokens (operands_cells rest) ≡ operands_tokens rest
  operands_same no_more = refl
  operands_same (and_also a rest) = ap (λ l. quoted "," ∷ l) (joined (operand_cells (32 ∷ []) a) _ (operand_tokens a) _ (operand_same (32 ∷ []) a) (operands_same rest))

range_same : (w : ℕ) → cell_tokens (range_cells w) ≡ range_tokens w
range_same w = go (w == 1)
  where
    some : Cells
    some = far (codes "[") ∷ at [] (Number (w - 1)) ∷ near (codes ":") ∷ at [] (Number 0) ∷ near (codes "]") ∷ []

    go : (b : Bool) → cell_tokens (if b then [] else (far (codes "[") ∷ at [] (Number (w - 1)) ∷ near (codes ":") ∷ at [] (Number 0) ∷ near (codes "]") ∷ []))
        ≡ (if b then [] else quoted "[" ∷ Number (w - 1) ∷ quoted ":" ∷ Number 0 ∷ quoted "]" ∷ [])
    go true = refl
    go false = refl

port_same : (p : Port) → cell_tokens (port_cells p) ≡ port_tokens p
port_same p = ap (λ l. Word (dir_word p.dir) ∷ l) (joined (range_cells p.width) (at (32 ∷ []) (Name p.name) ∷ []) (range_tokens p.width) (Name p.name ∷ []) (range_same p.width) refl)

ports_same : (ps : List Port) → cell_tokens (ports_cells ps) ≡ ports_tokens ps
ports_same [] = refl
ports_same (p ∷ []) = port_same p
ports_same (p ∷ q ∷ ps) = joined (port_cells p) _ (port_tokens p) _ (port_same p) (ap (λ l. quoted "," ∷ l) (ports_same (q ∷ ps)))

decls_same : (ds : List Decl) → cell_tokens (decls_cells ds) ≡ decls_tokens ds
decls_same [] = refl
decls_same (d ∷ ds) = ap (λ l. Word (decl_word d.reg) ∷ l) (joined (range_cells d.width) _ (range_tokens d.width) _ (range_same d.width) (ap (λ l. Name d.name ∷ quoted ";" ∷ l) (decls_same ds)))

negation_same : (b : Bool) → cell_tokens (negation_cells b) ≡ negation b
negation_same true = refl
negation_same false = refl

ended : (e : Term) → cell_tokens (term_cells (32 ∷ []) e ++ near (codes ";") ∷ []) ≡ term_tokens e ++ quoted ";" ∷ []
ended e = joined (term_cells (32 ∷ []) e) (near (codes ";") ∷ []) (term_tokens e) (quoted ";" ∷ []) (term_same (32 ∷ []) e) refl

stmt_same : (s : Statement) → cell_tokens (stmt_cells s) ≡ stmt_tokens s
stmt_same (Assign to e) = ap (λ l. quoted "assign" ∷ Name to ∷ quoted "=" ∷ l) (ended e)
stmt_same (Clocked clock to e) = ap (λ l. quoted "always" ∷ quoted "@" ∷ quoted "(" ∷ quoted "posedge" ∷ Name clock ∷ quoted ")" ∷ Name to ∷ quoted "<=" ∷ l) (ended e)
stmt_same (Resettable clock low reset negated test to width value again e) =
    ap (λ l. quoted "always" ∷ quoted "@" ∷ quoted "(" ∷ quoted "posedge" ∷ Name clock ∷ quoted "or" ∷ Word (edge_word low) ∷ Name reset ∷ quoted ")" ∷ quoted "if" ∷ quoted "(" ∷ l)
    (joined (negation_cells negated) _ (negation negated) _ (negation_same negated)
    (ap (λ l. Name test ∷ quoted ")" ∷ Name to ∷ quoted "<=" ∷ Const width value ∷ quoted ";" ∷ quoted "else" ∷ Name again ∷ quoted "<=" ∷ l) (ended e)))

stmts_same : (ss : List Statement) → cell_tokens (stmts_cells ss) ≡ stmts_tokens ss
stmts_same [] = refl
stmts_same (s ∷ ss) = joined (stmt_cells s) (stmts_cells ss) (stmt_tokens s) (stmts_tokens ss) (stmt_same s) (stmts_same ss)

pub tree_same : (t : Tree) → cell_tokens (tree_cells t) ≡ tokens_of t
tree_same t = ap (λ l. quoted "module" ∷ Name t.name ∷ quoted "(" ∷ l) (joined (ports_cells t.ports) _ (ports_tokens t.ports) _ (ports_same t.ports)
    (ap (λ l. quoted ")" ∷ quoted ";" ∷ l) (joined (decls_cells t.decls) _ (decls_tokens t.decls) _ (decls_same t.decls)
    (joined (stmts_cells t.stmts) (at (10 ∷ []) (Word (codes "endmodule")) ∷ []) (stmts_tokens t.stmts) (quoted "endmodule" ∷ []) (stmts_same t.stmts) refl))))
