-- The text of a netlist is that of its module's cells.
use Rattle.std.specs.Fmt.{digits, decimal}
use Rattle.std.proofs.Common.{◌≡◌, ℕ, ◌-◌, ◌==◌, Bool, true, false, if◌then◌else◌, List, [], ◌∷◌, ◌++◌, codes, refl, ap, sym, ◌∙◌, append_assoc}
use Rattle.rb_grammar.specs.Printing.{Cell, cells_text}
use Rattle.rb_base.specs.declared.ports.Port.{Port}
use Rattle.v_design.specs.declared.design.Decl.{Decl}
use Rattle.v_design.specs.Lexemes.{Token, Name, Number}
use Rattle.v_design.specs.Tree.{Tree, Statement, Assign, Clocked, Resettable, Term, Operand, Operands, Plain, Prefixed, Joined, Chosen, Whole, Bit, Part, Sized, Braced, Grouped, no_more, and_also, one_word, two_word, dir_word, decl_word, edge_word}
use Rattle.v_design.proofs.Printing.{printer}
use Rattle.v_design.proofs.TreeText.{at, far, near, term_cells, operand_cells, operands_cells, range_cells, port_cells, ports_cells, decls_cells, negation_cells, stmt_cells, stmts_cells, tree_cells}
use Rattle.v_design.specs.Header.{range_text, port_text, ports_text, header}
use Rattle.v_printer.specs.Layout.{constant_text, term_text, operand_text, operands_text, decl_text, negation_text, stmt_text, each_text}

abbrev pub laid : List (Cell Token) → List ℕ → List ℕ
laid cs last = cells_text printer cs last

decimal_zero : decimal 0 ≡ 48 ∷ []
unfolding digits
decimal_zero = refl

pub laid-append : (xs ys : List (Cell Token)) (last : List ℕ) → laid (xs ++ ys) last ≡ laid xs (laid ys last)
laid-append [] ys last = refl
laid-append (c ∷ cs) ys last = ap (λ l. c.gap ++ (printer.word_of c.token ++ l)) (laid-append cs ys last)

-- regrouped texts
two_parts : (g a b l : List ℕ) → g ++ (a ++ (b ++ l)) ≡ g ++ ((a ++ b) ++ l)
two_parts g a b l = simp append_assoc

bit_text : (g n d l : List ℕ) → g ++ (n ++ (91 ∷ (d ++ (93 ∷ l)))) ≡ g ++ ((n ++ (91 ∷ (d ++ (93 ∷ [])))) ++ l)
bit_text g n d l = simp append_assoc

part_text : (g n d e l : List ℕ) → g ++ (n ++ (91 ∷ (d ++ (58 ∷ (e ++ (93 ∷ l)))))) ≡ g ++ ((n ++ (91 ∷ (d ++ (58 ∷ (e ++ (93 ∷ [])))))) ++ l)
part_text g n d e l = simp append_assoc

joined_text : (g a w b l : List ℕ) → g ++ (a ++ (32 ∷ (w ++ (32 ∷ (b ++ l))))) ≡ g ++ ((a ++ (32 ∷ (w ++ (32 ∷ b)))) ++ l)
joined_text g a w b l = simp append_assoc

chosen_text : (g c a b l : List ℕ) → g ++ (c ++ (32 ∷ 63 ∷ 32 ∷ (a ++ (32 ∷ 58 ∷ 32 ∷ (b ++ l))))) ≡ g ++ ((c ++ (32 ∷ 63 ∷ 32 ∷ (a ++ (32 ∷ 58 ∷ 32 ∷ b)))) ++ l)
chosen_text g c a b l = simp append_assoc

enclosed_text : (o k : ℕ) (g a b l : List ℕ) → g ++ (o ∷ (a ++ (b ++ (k ∷ l)))) ≡ g ++ ((o ∷ (a ++ (b ++ (k ∷ [])))) ++ l)
enclosed_text o k g a b l = simp append_assoc

grouped_text : (g a l : List ℕ) → g ++ (40 ∷ (a ++ (41 ∷ l))) ≡ g ++ ((40 ∷ (a ++ (41 ∷ []))) ++ l)
grouped_text g a l = simp append_assoc

comma_text : (a b l : List ℕ) → 44 ∷ 32 ∷ (a ++ (b ++ l)) ≡ (44 ∷ 32 ∷ (a ++ b)) ++ l
comma_text a b l = simp append_assoc

mutual
  term_laid : (g : List ℕ) (e : Term) (l : List ℕ) → laid (term_cells g e) l ≡ g ++ (term_text e ++ l)
  term_laid g (Plain a) l = operand_laid g a l
  term_laid g (Prefixed op a) l = ap (λ x. g ++ (one_word op ++ x)) (operand_laid [] a l) ∙ two_parts g (one_word op) (operand_text a) l
  term_laid g (Joined op a b) l =
      laid-append (operand_cells g a) (far (two_word op) ∷ operand_cells (32 ∷ []) b) l
      ∙ (operand_laid g a (32 ∷ (two_word op ++ laid (operand_cells (32 ∷ []) b) l))
      ∙ (ap (λ x. g ++ (operand_text a ++ (32 ∷ (two_word op ++ x)))) (operand_laid (32 ∷ []) b l)
      ∙ joined_text g (operand_text a) (two_word op) (operand_text b) l))
  term_laid g (Chosen c a b) l =
      laid-append (operand_cells g c) (far (codes "?") ∷ (operand_cells (32 ∷ []) a ++ (far (codes ":") ∷ operand_cells (32 ∷ []) b))) l
      ∙ (operand_laid g c (32 ∷ 63 ∷ laid (operand_cells (32 ∷ []) a ++ (far (codes ":") ∷ operand_cells (32 ∷ []) b)) l)
      ∙ (ap (λ x. g ++ (operand_text c ++ (32 ∷ 63 ∷ x))) (laid-append (operand_cells (32 ∷ []) a) (far (codes ":") ∷ operand_cells (32 ∷ []) b) l
      ∙ (operand_laid (32 ∷ []) a (32 ∷ 58 ∷ laid (operand_cells (32 ∷ []) b) l)
      ∙ ap (λ x. 32 ∷ (operand_text a ++ (32 ∷ 58 ∷ x))) (operand_laid (32 ∷ []) b l)))
      ∙ chosen_text g (operand_text c) (operand_text a) (operand_text b) l))

  operand_laid : (g : List ℕ) (a : Operand) (l : List ℕ) → laid (operand_cells g a) l ≡ g ++ (operand_text a ++ l)
  operand_laid g (Whole n) l = refl
  operand_laid g (Bit n k) l = bit_text g n (decimal k) l
  operand_laid g (Part n hi lo) l = part_text g n (decimal hi) (decimal lo) l
  operand_laid g (Sized w v) l = refl
  operand_laid g (Braced a rest) l =
      ap (λ x. g ++ (123 ∷ x)) (laid-append (operand_cells [] a) (operands_cells rest ++ near (codes "}") ∷ []) l
      ∙ (operand_laid [] a (laid (operands_cells rest ++ near (codes "}") ∷ []) l)
      ∙ ap (λ x. operand_text a ++ x) (laid-append (operands_cells rest) (near (codes "}") ∷ []) l ∙ operands_laid rest (125 ∷ l))))
      ∙ enclosed_text 123 125 g (operand_text a) (operands_text rest) l
  operand_laid g (Grouped e) l =
      ap (λ x. g ++ (40 ∷ x)) (laid-append (term_cells [] e) (near (codes ")") ∷ []) l ∙ term_laid [] e (41 ∷ l)) ∙ grouped_text g (term_text e) l

  operands_laid : (rest : Operands) (l : List ℕ) → laid (operands_cells rest) l ≡ operands_text rest ++ l
  operands_laid no_more l = refl
  operands_laid (and_also a rest) l =
      ap (λ x. 44 ∷ x) (laid-append (operand_cells (32 ∷ []) a) (operands_cells rest) l
      ∙ (operand_laid (32 ∷ []) a (laid (operands_cells rest) l) ∙ ap (λ x. 32 ∷ (operand_text a ++ x)) (operands_laid rest l)))
      ∙ comma_text (operand_text a) (operands_text rest) l

range_parts : (d l : List ℕ) → 32 ∷ 91 ∷ (d ++ (58 ∷ 48 ∷ 93 ∷ 32 ∷ l)) ≡ 32 ∷ ((91 ∷ (d ++ (58 ∷ 48 ∷ 93 ∷ 32 ∷ []))) ++ l)
range_parts d l = simp append_assoc

range_laid : (w : ℕ) (l : List ℕ) → laid (range_cells w) (32 ∷ l) ≡ 32 ∷ (range_text w ++ l)
range_laid w l = go (w == 1)
  where
    go : (b : Bool) → laid (if b then [] else (far (codes "[") ∷ at [] (Number (w - 1)) ∷ near (codes ":") ∷ at [] (Number 0) ∷ near (codes "]") ∷ [])) (32 ∷ l)
        ≡ 32 ∷ ((if b then [] else codes "[" ++ (decimal (w - 1) ++ codes ":0] ")) ++ l)
    go true = refl
    go false = ap (λ z. 32 ∷ 91 ∷ (decimal (w - 1) ++ (58 ∷ (z ++ (93 ∷ 32 ∷ l))))) decimal_zero ∙ range_parts (decimal (w - 1)) l

port_parts : (d r n l : List ℕ) → 10 ∷ 32 ∷ 32 ∷ (d ++ (32 ∷ (r ++ (n ++ l)))) ≡ 10 ∷ ((32 ∷ 32 ∷ (d ++ (32 ∷ (r ++ n)))) ++ l)
port_parts d r n l = simp append_assoc

port_laid : (p : Port) (l : List ℕ) → laid (port_cells p) l ≡ 10 ∷ (port_text p ++ l)
port_laid p l =
    ap (λ x. 10 ∷ 32 ∷ 32 ∷ (dir_word p.dir ++ x)) (laid-append (range_cells p.width) (at (32 ∷ []) (Name p.name) ∷ []) l ∙ range_laid p.width (p.name ++ l))
    ∙ port_parts (dir_word p.dir) (range_text p.width) p.name l

pub ports_laid : (ps : List Port) (l : List ℕ) → laid (ports_cells ps) (10 ∷ l) ≡ 10 ∷ (ports_text ps ++ l)
ports_laid [] l = refl
ports_laid (p ∷ []) l = port_laid p (10 ∷ l) ∙ ap (λ x. 10 ∷ x) (sym (append_assoc (port_text p) (10 ∷ []) l))
ports_laid (p ∷ q ∷ ps) l =
    laid-append (port_cells p) (near (codes ",") ∷ ports_cells (q ∷ ps)) (10 ∷ l)
    ∙ (port_laid p (44 ∷ laid (ports_cells (q ∷ ps)) (10 ∷ l))
    ∙ (ap (λ x. 10 ∷ (port_text p ++ (44 ∷ x))) (ports_laid (q ∷ ps) l)
    ∙ ap (λ x. 10 ∷ x) (sym (append_assoc (port_text p) (44 ∷ 10 ∷ ports_text (q ∷ ps)) l))))

decl_parts : (d r n l : List ℕ) → 10 ∷ 32 ∷ 32 ∷ (d ++ (32 ∷ (r ++ (n ++ (59 ∷ 10 ∷ l))))) ≡ 10 ∷ ((32 ∷ 32 ∷ (d ++ (32 ∷ (r ++ (n ++ (59 ∷ 10 ∷ [])))))) ++ l)
decl_parts d r n l = simp append_assoc

pub decls_laid : (ds : List Decl) (l : List ℕ) → laid (decls_cells ds) (10 ∷ l) ≡ 10 ∷ (each_text decl_text ds ++ l)
decls_laid [] l = refl
decls_laid (d ∷ ds) l =
    ap (λ x. 10 ∷ 32 ∷ 32 ∷ (decl_word d.reg ++ x)) (laid-append (range_cells d.width) (at (32 ∷ []) (Name d.name) ∷ near (codes ";") ∷ decls_cells ds) (10 ∷ l)
    ∙ (range_laid d.width (d.name ++ (59 ∷ laid (decls_cells ds) (10 ∷ l))) ∙ ap (λ x. 32 ∷ (range_text d.width ++ (d.name ++ (59 ∷ x)))) (decls_laid ds l)))
    ∙ (decl_parts (decl_word d.reg) (range_text d.width) d.name (each_text decl_text ds ++ l)
    ∙ ap (λ x. 10 ∷ x) (sym (append_assoc (decl_text d) (each_text decl_text ds) l)))

ended : (e : Term) (l : List ℕ) → laid (term_cells (32 ∷ []) e ++ near (codes ";") ∷ []) l ≡ 32 ∷ (term_text e ++ (59 ∷ l))
ended e l = laid-append (term_cells (32 ∷ []) e) (near (codes ";") ∷ []) l ∙ term_laid (32 ∷ []) e (59 ∷ l)

assign_parts : (n e l : List ℕ) → codes "\n  assign " ++ (n ++ (codes " = " ++ (e ++ (59 ∷ 10 ∷ l)))) ≡ 10 ∷ ((codes "  assign " ++ (n ++ (codes " = " ++ (e ++ codes ";\n")))) ++ l)
assign_parts n e l = simp append_assoc

clocked_parts : (c n e l : List ℕ) → codes "\n  always @(posedge " ++ (c ++ (codes ") " ++ (n ++ (codes " <= " ++ (e ++ (59 ∷ 10 ∷ l))))))
    ≡ 10 ∷ ((codes "  always @(posedge " ++ (c ++ (codes ") " ++ (n ++ (codes " <= " ++ (e ++ codes ";\n")))))) ++ l)
clocked_parts c n e l = simp append_assoc

resettable_parts : (c w r g t n v a e l : List ℕ)
    → codes "\n  always @(posedge " ++ (c ++ (codes " or " ++ (w ++ (codes " " ++ (r ++ (codes ")\n    if (" ++ (g ++ (t ++ (codes ") " ++ (n ++ (codes " <= " ++ (v ++ (codes ";\n    else " ++ (a ++ (codes " <= " ++ (e ++ (59 ∷ 10 ∷ l)))))))))))))))))
    ≡ 10 ∷ ((codes "  always @(posedge " ++ (c ++ (codes " or " ++ (w ++ (codes " " ++ (r ++ (codes ")\n    if (" ++ (g ++ (t ++ (codes ") " ++ (n ++ (codes " <= " ++ (v ++ (codes ";\n    else " ++ (a ++ (codes " <= " ++ (e ++ codes ";\n"))))))))))))))))) ++ l)
resettable_parts c w r g t n v a e l = simp append_assoc

negation_laid : (b : Bool) (l : List ℕ) → laid (negation_cells b) l ≡ negation_text b ++ l
negation_laid true l = refl
negation_laid false l = refl

stmt_laid : (s : Statement) (l : List ℕ) → laid (stmt_cells s) (10 ∷ l) ≡ 10 ∷ (stmt_text s ++ l)
stmt_laid (Assign to e) l = ap (λ x. codes "\n  assign " ++ (to ++ (codes " =" ++ x))) (ended e (10 ∷ l)) ∙ assign_parts to (term_text e) l
stmt_laid (Clocked clock to e) l = ap (λ x. codes "\n  always @(posedge " ++ (clock ++ (codes ") " ++ (to ++ (codes " <=" ++ x))))) (ended e (10 ∷ l)) ∙ clocked_parts clock to (term_text e) l
stmt_laid (Resettable clock low reset negated test to width value again e) l =
    ap (λ x. codes "\n  always @(posedge " ++ (clock ++ (codes " or " ++ (edge_word low ++ (codes " " ++ (reset ++ (codes ")\n    if (" ++ x)))))))
    (laid-append (negation_cells negated) _ (10 ∷ l) ∙ (negation_laid negated _
    ∙ ap (λ x. negation_text negated ++ (test ++ (codes ") " ++ (to ++ (codes " <= " ++ (constant_text width value ++ (codes ";\n    else " ++ (again ++ (codes " <=" ++ x)))))))))
    (ended e (10 ∷ l))))
    ∙ resettable_parts clock (edge_word low) reset (negation_text negated) test to (constant_text width value) again (term_text e) l

pub stmts_laid : (ss : List Statement) (l : List ℕ) → laid (stmts_cells ss) (10 ∷ l) ≡ 10 ∷ (each_text stmt_text ss ++ l)
stmts_laid [] l = refl
stmts_laid (s ∷ ss) l =
    laid-append (stmt_cells s) (stmts_cells ss) (10 ∷ l)
    ∙ (ap (laid (stmt_cells s)) (stmts_laid ss l)
    ∙ (stmt_laid s (each_text stmt_text ss ++ l)
    ∙ ap (λ x. 10 ∷ x) (sym (append_assoc (stmt_text s) (each_text stmt_text ss) l))))

-- the text of a module
abbrev pub tree_text : Tree → List ℕ
tree_text t = header t.name t.ports ++ (each_text decl_text t.decls ++ (each_text stmt_text t.stmts ++ codes "endmodule\n"))

whole_parts : (n p x : List ℕ) → codes "module " ++ (n ++ (codes " (\n" ++ (p ++ (codes ");\n" ++ x)))) ≡ (codes "module " ++ (n ++ (codes " (\n" ++ (p ++ codes ");\n")))) ++ x
whole_parts n p x = simp append_assoc

pub tree_laid : (t : Tree) → laid (tree_cells t) (10 ∷ []) ≡ tree_text t
tree_laid t =
    ap (λ x. codes "module " ++ (t.name ++ (codes " (" ++ x)))
    (laid-append (ports_cells t.ports) _ (10 ∷ [])
    ∙ (ports_laid t.ports _
    ∙ ap (λ x. 10 ∷ (ports_text t.ports ++ (codes ");" ++ x)))
    (laid-append (decls_cells t.decls) _ (10 ∷ [])
    ∙ (ap (laid (decls_cells t.decls)) (laid-append (stmts_cells t.stmts) _ (10 ∷ []) ∙ stmts_laid t.stmts (codes "endmodule\n"))
    ∙ decls_laid t.decls (each_text stmt_text t.stmts ++ codes "endmodule\n")))))
    ∙ whole_parts t.name (ports_text t.ports) (each_text decl_text t.decls ++ (each_text stmt_text t.stmts ++ codes "endmodule\n"))
