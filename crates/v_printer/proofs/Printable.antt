-- The cells of a printed module can be printed.
use Rattle.std.specs.List.{AllByRecursion, list_all}
use Rattle.std.proofs.Common.{◌≡◌, ℕ, ◌-◌, ◌<◌, ◌≤◌, ◌^◌, ◌==◌, Bool, true, false, ◌&&◌, if◌then◌else◌, nat_le, nat_lt, List, [], ◌∷◌, ◌++◌, codes, refl, sym, subst, arith, append_assoc}
use Rattle.std.proofs.lemmas.Bool.Decides.{nat_tests}
use Rattle.rb_base.specs.declared.ports.Dir.{Dir}
use Rattle.rb_base.specs.declared.ports.Dir.TheVariants.{In, Out}
use Rattle.rb_base.specs.declared.ports.Port.{Port}
use Rattle.rb_grammar.specs.Separators.{is_blank}
use Rattle.rb_grammar.specs.Printing.{Cell, joins, printable}
use Rattle.v_design.specs.declared.design.Decl.{Decl}
use Rattle.v_design.specs.declared.design.VOne.{VOne}
use Rattle.v_design.specs.declared.design.VOne.TheVariants as one
use Rattle.v_design.specs.declared.design.VTwo.{VTwo}
use Rattle.v_design.specs.declared.design.VTwo.TheVariants as two
use Rattle.v_design.specs.Lexemes.{Token, Word, Name, Number, Const}
use Rattle.v_design.specs.Tree.{Tree, Statement, Assign, Clocked, Resettable, Term, Plain, Prefixed, Joined, Chosen, Whole, Bit, Part, Sized, Braced, no_more, and_also, one_word, two_word, dir_word, decl_word, edge_word}
use Rattle.v_design.proofs.Printing.{printer, has_word}
use Rattle.v_design.proofs.TreeText.{at, far, near, term_cells, negation_cells, range_cells, port_cells, ports_cells, decls_cells, stmt_cells, stmts_cells, tree_cells}
use Rattle.rtl_net.specs.Net.{Net, Has, width_in, CanWire}
use Rattle.rtl_net.specs.declared.node.Id.{Id}
use Rattle.rtl_net.specs.declared.node.NetExpr.{NetExpr}
use Rattle.rtl_net.specs.declared.node.NetExpr.TheVariants as exprs
use Rattle.v_printer.specs.Module.{node_name, selected, term_of}

abbrev Cells : Type 0
Cells = List (Cell Token)

pub record Prints (cs : Cells) : Type 0 where
  pub is : printable printer cs ≡ true

abbrev is_gap : List ℕ → Bool
is_gap [] = false
is_gap (b ∷ bs) = true

-- they begin behind a blank, or there are none
abbrev pub begins : Cells → Bool
begins [] = true
begins (c ∷ cs) = is_gap c.gap

pub record Opens (cs : Cells) : Type 0 where
  pub is : begins cs ≡ true

Word_fits : Token → Type 0
Word_fits t = has_word t ≡ true

cell : {c : Cell Token} {cs : Cells} → list_all is_blank c.gap ≡ true → has_word c.token ≡ true → joins printer c.token cs ≡ true → Prints cs → Prints (c ∷ cs)
cell a b d e = record { is = rw (a, b, d, e.is) }

joins_opens : (t : Token) (cs : Cells) → Opens cs → joins printer t cs ≡ true
joins_opens t [] o = refl
joins_opens t (c ∷ cs) o = go c.gap o.is
  where
    go : (gap : List ℕ) → is_gap gap ≡ true → joins printer t (record { gap = gap; token = c.token } ∷ cs) ≡ true
    go [] h = cc
    go (b ∷ bs) h = refl

one_fits : (op : VOne) → has_word (Word (one_word op)) ≡ true
one_fits one.Not = refl
one_fits one.All = refl
one_fits one.Any = refl
one_fits one.Odd = refl

two_fits : (op : VTwo) → has_word (Word (two_word op)) ≡ true
two_fits two.Add = refl
two_fits two.Sub = refl
two_fits two.And = refl
two_fits two.Or = refl
two_fits two.Xor = refl
two_fits two.Eq = refl
two_fits two.Ne = refl
two_fits two.Lt = refl
two_fits two.Le = refl
two_fits two.Gt = refl
two_fits two.Ge = refl

number_fits : (n : ℕ) → n ≤ 128 → nat_lt n (2 ^ 64) ≡ true
number_fits n h = grind (arith, nat_tests)

pub const_fits : (w v : ℕ) → 0 < w → w ≤ 128 → v < 2 ^ w → has_word (Const w v) ≡ true
const_fits w v p q r = both (nat_le 1 w) (nat_le w 128) (nat_lt v (2 ^ w)) (grind (arith, nat_tests)) (grind (arith, nat_tests)) (less v (2 ^ w) r)
  where
    less : (a b : ℕ) → a < b → nat_lt a b ≡ true
    less a b h = grind (arith, nat_tests)

    both : (a b c : Bool) → a ≡ true → b ≡ true → c ≡ true → (a && b && c) ≡ true
    both a b c p q r = rw (p, q, r)

-- an expression before the mark that ends its statement
abbrev Ends : Cells → Cells
Ends cs = near (codes ";") ∷ cs

pub record PrintsTerm (e : Term) : Type 0 where
  pub prints : (cs : Cells) → Prints (Ends cs) → Prints (term_cells (32 ∷ []) e ++ Ends cs)
  pub joined : (t : Token) (rest : Cells) → joins printer t ((term_cells (32 ∷ []) e ++ near (codes ";") ∷ []) ++ rest) ≡ true

whole_prints : (n : List ℕ) → has_word (Name n) ≡ true → PrintsTerm (Plain (Whole n))
whole_prints n h = record { prints = λ cs p. cell refl h refl p; joined = λ t rest. refl }

sized_prints : (w v : ℕ) → has_word (Const w v) ≡ true → PrintsTerm (Plain (Sized w v))
sized_prints w v h = record { prints = λ cs p. cell refl h refl p; joined = λ t rest. refl }

bit_prints : (n : List ℕ) (k : ℕ) → has_word (Name n) ≡ true → k ≤ 128 → PrintsTerm (Plain (Bit n k))
bit_prints n k h m = record { prints = λ cs p. cell refl h refl (cell refl refl refl (cell refl (number_fits k m) refl (cell refl refl refl p))); joined = λ t rest. refl }

part_prints : (n : List ℕ) (hi lo : ℕ) → has_word (Name n) ≡ true → hi ≤ 128 → lo ≤ 128 → PrintsTerm (Plain (Part n hi lo))
part_prints n hi lo h m l = record { prints = λ cs p. cell refl h refl (cell refl refl refl (cell refl (number_fits hi m) refl (cell refl refl refl (cell refl (number_fits lo l) refl (cell refl refl refl p))))); joined = λ t rest. refl }

one_touches : (op : VOne) (n : List ℕ) (cs : Cells) → joins printer (Word (one_word op)) (at [] (Name n) ∷ cs) ≡ true
one_touches one.Not n cs = refl
one_touches one.All n cs = refl
one_touches one.Any n cs = refl
one_touches one.Odd n cs = refl

one_prints : (op : VOne) (n : List ℕ) → has_word (Name n) ≡ true → PrintsTerm (Prefixed op (Whole n))
one_prints op n h = record { prints = λ cs p. cell refl (one_fits op) (one_touches op n (Ends cs)) (cell refl h refl p); joined = λ t rest. refl }

two_prints : (op : VTwo) (m n : List ℕ) → has_word (Name m) ≡ true → has_word (Name n) ≡ true → PrintsTerm (Joined op (Whole m) (Whole n))
two_prints op m n g h = record { prints = λ cs p. cell refl g refl (cell refl (two_fits op) refl (cell refl h refl p)); joined = λ t rest. refl }

and_one_prints : (m : List ℕ) → has_word (Name m) ≡ true → PrintsTerm (Joined two.And (Whole m) (Sized 1 1))
and_one_prints m g = record { prints = λ cs p. cell refl g refl (cell refl refl refl (cell refl refl refl p)); joined = λ t rest. refl }

cat_prints : (m n : List ℕ) → has_word (Name m) ≡ true → has_word (Name n) ≡ true → PrintsTerm (Plain (Braced (Whole m) (and_also (Whole n) no_more)))
cat_prints m n g h = record { prints = λ cs p. cell refl refl refl (cell refl g refl (cell refl refl refl (cell refl h refl (cell refl refl refl p)))); joined = λ t rest. refl }

pick_prints : (c m n : List ℕ) → has_word (Name c) ≡ true → has_word (Name m) ≡ true → has_word (Name n) ≡ true → PrintsTerm (Chosen (Whole c) (Whole m) (Whole n))
pick_prints c m n f g h = record { prints = λ cs p. cell refl f refl (cell refl refl refl (cell refl g refl (cell refl refl refl (cell refl h refl p)))); joined = λ t rest. refl }

selected_prints : (w : ℕ) (n : List ℕ) (hi lo : ℕ) → has_word (Name n) ≡ true → hi ≤ 128 → lo ≤ 128 → PrintsTerm (selected w n hi lo)
selected_prints w n hi lo h m l = go (w == 1) (hi == lo)
  where
    go : (b d : Bool) → PrintsTerm (if b then Joined two.And (Whole n) (Sized 1 1) else Plain (if d then Bit n hi else Part n hi lo))
    go true d = and_one_prints n h
    go false true = bit_prints n hi h m
    go false false = part_prints n hi lo h m l

module _ (net : Net) (word : (id : Id) → Has net id → has_word (Name (node_name net.nodes id.0)) ≡ true) (most : (id : Id) → width_in net id ≤ 128) where
  pub expr_prints : (e : NetExpr) → CanWire net e → PrintsTerm (term_of net e)
  expr_prints (exprs.Const w x) h = sized_prints w x (const_fits w x h.0 h.1 h.2)
  expr_prints (exprs.Part a hi lo) h = let m : width_in net a ≤ 128 = most a in selected_prints (width_in net a) (node_name net.nodes a.0) hi lo (word a h.0) (omega (arith, h.2)) (omega (arith, h.1, h.2))
  expr_prints (exprs.Cat a b) h = cat_prints _ _ (word a h.0) (word b h.1)
  expr_prints (exprs.Not a) h = one_prints one.Not _ (word a h)
  expr_prints (exprs.All a) h = one_prints one.All _ (word a h)
  expr_prints (exprs.Any a) h = one_prints one.Any _ (word a h)
  expr_prints (exprs.Odd a) h = one_prints one.Odd _ (word a h)
  expr_prints (exprs.Add a b) h = two_prints two.Add _ _ (word a h.0) (word b h.1)
  expr_prints (exprs.Sub a b) h = two_prints two.Sub _ _ (word a h.0) (word b h.1)
  expr_prints (exprs.And a b) h = two_prints two.And _ _ (word a h.0) (word b h.1)
  expr_prints (exprs.Or a b) h = two_prints two.Or _ _ (word a h.0) (word b h.1)
  expr_prints (exprs.Xor a b) h = two_prints two.Xor _ _ (word a h.0) (word b h.1)
  expr_prints (exprs.Eq a b) h = two_prints two.Eq _ _ (word a h.0) (word b h.1)
  expr_prints (exprs.Lt a b) h = two_prints two.Lt _ _ (word a h.0) (word b h.1)
  expr_prints (exprs.Pick c a b) h = pick_prints _ _ _ (word c h.0) (word a h.1) (word b h.2)

-- lines before others
pub record PrintsLine (xs : Cells) : Type 0 where
  pub prints : (rest : Cells) → Opens rest → Prints rest → Prints (xs ++ rest)
  pub opens : (rest : Cells) → Opens rest → Opens (xs ++ rest)

last_mark : (cs : Cells) → Opens cs → Prints cs → Prints (near (codes ";") ∷ cs)
last_mark cs o p = cell refl refl (joins_opens (Word (codes ";")) cs o) p

ended : (e : Term) → PrintsTerm e → (rest : Cells) → Opens rest → Prints rest → Prints ((term_cells (32 ∷ []) e ++ near (codes ";") ∷ []) ++ rest)
ended e t rest o p = subst Prints (sym (append_assoc (term_cells (32 ∷ []) e) (near (codes ";") ∷ []) rest)) (t.prints rest (last_mark rest o p))

bool_edge : (low : Bool) → has_word (Word (edge_word low)) ≡ true
bool_edge true = refl
bool_edge false = refl

assign_prints : (to : List ℕ) (e : Term) → has_word (Name to) ≡ true → PrintsTerm e → PrintsLine (stmt_cells (Assign to e))
assign_prints to e h t = record {
  prints = λ rest o p. cell refl refl refl (cell refl h refl (cell refl refl (t.joined (Word (codes "=")) rest) (ended e t rest o p)));
  opens = λ rest o. record { is = refl };
}

clocked_prints : (to : List ℕ) (e : Term) → has_word (Name to) ≡ true → PrintsTerm e → PrintsLine (stmt_cells (Clocked (codes "PCLK") to e))
clocked_prints to e h t = record {
  prints = λ rest o p. cell refl refl refl (cell refl refl refl (cell refl refl refl (cell refl refl refl (cell refl refl refl (cell refl refl refl
      (cell refl h refl (cell refl refl (t.joined (Word (codes "<=")) rest) (ended e t rest o p))))))));
  opens = λ rest o. record { is = refl };
}

-- the bracket, the test and what follows it in a block with a reset
abbrev after_test : (pin to : List ℕ) → (w v : ℕ) → Term → Cells → Cells
after_test pin to w v e rest = at [] (Name pin) ∷ near (codes ")") ∷ at (32 ∷ []) (Name to) ∷ far (codes "<=") ∷ at (32 ∷ []) (Const w v) ∷ near (codes ";")
    ∷ at (10 ∷ codes "    ") (Word (codes "else")) ∷ at (32 ∷ []) (Name to) ∷ far (codes "<=") ∷ ((term_cells (32 ∷ []) e ++ near (codes ";") ∷ []) ++ rest)

tested : (low : Bool) (pin to : List ℕ) (w v : ℕ) (e : Term) (rest : Cells) → Prints (after_test pin to w v e rest)
    → Prints (far (codes "(") ∷ ((negation_cells low ++ (at [] (Name pin) ∷ near (codes ")") ∷ at (32 ∷ []) (Name to) ∷ far (codes "<=") ∷ at (32 ∷ []) (Const w v) ∷ near (codes ";")
    ∷ at (10 ∷ codes "    ") (Word (codes "else")) ∷ at (32 ∷ []) (Name to) ∷ far (codes "<=") ∷ (term_cells (32 ∷ []) e ++ near (codes ";") ∷ []))) ++ rest))
tested true pin to w v e rest p = cell refl refl refl (cell refl refl refl p)
tested false pin to w v e rest p = cell refl refl refl p

resettable_prints : (low : Bool) (pin to : List ℕ) (w v : ℕ) (e : Term) → has_word (Name pin) ≡ true → has_word (Name to) ≡ true → has_word (Const w v) ≡ true → PrintsTerm e
    → PrintsLine (stmt_cells (Resettable (codes "PCLK") low pin low pin to w v to e))
resettable_prints low pin to w v e q h k t = record {
  prints = λ rest o p. cell refl refl refl (cell refl refl refl (cell refl refl refl (cell refl refl refl (cell refl refl refl
      (cell refl refl refl (cell refl (bool_edge low) refl (cell refl q refl (cell refl refl refl
      (cell refl refl refl (tested low pin to w v e rest (cell refl q refl (cell refl refl refl (cell refl h refl (cell refl refl refl (cell refl k refl (cell refl refl refl
      (cell refl refl refl (cell refl h refl (cell refl refl (t.joined (Word (codes "<=")) rest) (ended e t rest o p))))))))))))))))))));
  opens = λ rest o. record { is = refl };
}

-- a range before a name
range_prints : (w : ℕ) (cs : Cells) → w ≤ 128 → Opens cs → Prints cs → Prints (range_cells w ++ cs)
range_prints w cs m o p = go (w == 1)
  where
    less : w - 1 ≤ 128
    less = omega arith

    go : (b : Bool) → Prints ((if b then [] else far (codes "[") ∷ at [] (Number (w - 1)) ∷ near (codes ":") ∷ at [] (Number 0) ∷ near (codes "]") ∷ []) ++ cs)
    go true = p
    go false = cell refl refl refl (cell refl (number_fits (w - 1) less) refl (cell refl refl refl (cell refl refl refl (cell refl refl (joins_opens (Word (codes "]")) cs o) p))))

range_joins : (t : Token) (w : ℕ) (n : List ℕ) (cs : Cells) → joins printer t (range_cells w ++ at (32 ∷ []) (Name n) ∷ cs) ≡ true
range_joins t w n cs = go (w == 1)
  where
    go : (b : Bool) → joins printer t ((if b then [] else far (codes "[") ∷ at [] (Number (w - 1)) ∷ near (codes ":") ∷ at [] (Number 0) ∷ near (codes "]") ∷ []) ++ at (32 ∷ []) (Name n) ∷ cs) ≡ true
    go true = refl
    go false = refl

pub record IsNamed (name : List ℕ) (w : ℕ) : Type 0 where
  pub word : has_word (Name name) ≡ true
  pub most : w ≤ 128

decl_fits : (b : Bool) → has_word (Word (decl_word b)) ≡ true
decl_fits true = refl
decl_fits false = refl

dir_fits : (d : Dir) → has_word (Word (dir_word d)) ≡ true
dir_fits In = refl
dir_fits Out = refl

pub decls_print : (ds : List Decl) → AllByRecursion (λ d. IsNamed d.name d.width) ds → PrintsLine (decls_cells ds)
decls_print [] h = record { prints = λ rest o p. p; opens = λ rest o. o }
decls_print (d ∷ ds) h =
    let more = decls_print ds h.1 in record {
      prints = λ rest o p. cell refl (decl_fits d.reg) (moved (λ cs. joins printer (Word (decl_word d.reg)) cs ≡ true) rest (range_joins (Word (decl_word d.reg)) d.width d.name (near (codes ";") ∷ (decls_cells ds ++ rest))))
          (moved Prints rest (range_prints d.width (at (32 ∷ []) (Name d.name) ∷ near (codes ";") ∷ (decls_cells ds ++ rest)) h.0.most (record { is = refl })
          (cell refl h.0.word refl (last_mark (decls_cells ds ++ rest) (more.opens rest o) (more.prints rest o p)))));
      opens = λ rest o. record { is = refl };
    }
  where
    moved : (P : Cells → Type 0) (rest : Cells) → P (range_cells d.width ++ (at (32 ∷ []) (Name d.name) ∷ near (codes ";") ∷ (decls_cells ds ++ rest)))
        → P ((range_cells d.width ++ (at (32 ∷ []) (Name d.name) ∷ near (codes ";") ∷ decls_cells ds)) ++ rest)
    moved P rest h = subst P (sym (append_assoc (range_cells d.width) (at (32 ∷ []) (Name d.name) ∷ near (codes ";") ∷ decls_cells ds) rest)) h

pub stmts_print : (ss : List Statement) → AllByRecursion (λ s. PrintsLine (stmt_cells s)) ss → PrintsLine (stmts_cells ss)
stmts_print [] h = record { prints = λ rest o p. p; opens = λ rest o. o }
stmts_print (s ∷ ss) h =
    let more = stmts_print ss h.1 in record {
      prints = λ rest o p. subst Prints (sym (append_assoc (stmt_cells s) (stmts_cells ss) rest)) (h.0.prints (stmts_cells ss ++ rest) (more.opens rest o) (more.prints rest o p));
      opens = λ rest o. subst Opens (sym (append_assoc (stmt_cells s) (stmts_cells ss) rest)) (h.0.opens (stmts_cells ss ++ rest) (more.opens rest o));
    }

-- a port before a cell behind a blank or a comma
port_prints : (p : Port) (cs : Cells) → IsNamed p.name p.width → joins printer (Name p.name) cs ≡ true → Prints cs → Prints (port_cells p ++ cs)
port_prints p cs h j q =
    cell refl (dir_fits p.dir) (moved (λ xs. joins printer (Word (dir_word p.dir)) xs ≡ true) (range_joins (Word (dir_word p.dir)) p.width p.name cs))
    (moved Prints (range_prints p.width (at (32 ∷ []) (Name p.name) ∷ cs) h.most (record { is = refl }) (cell refl h.word j q)))
  where
    moved : (P : Cells → Type 0) → P (range_cells p.width ++ (at (32 ∷ []) (Name p.name) ∷ cs)) → P ((range_cells p.width ++ at (32 ∷ []) (Name p.name) ∷ []) ++ cs)
    moved P h = subst P (sym (append_assoc (range_cells p.width) (at (32 ∷ []) (Name p.name) ∷ []) cs)) h

comma_joins : (ps : List Port) (p : Port) (rest : Cells) → joins printer (Word (codes ",")) (ports_cells (p ∷ ps) ++ rest) ≡ true
comma_joins [] p rest = refl
comma_joins (q ∷ ps) p rest = refl

pub ports_print : (ps : List Port) → AllByRecursion (λ p. IsNamed p.name p.width) ps → (rest : Cells) → Opens rest → Prints rest → Prints (ports_cells ps ++ rest)
ports_print [] h rest o q = q
ports_print (p ∷ []) h rest o q = port_prints p rest h.0 (joins_opens (Name p.name) rest o) q
ports_print (p ∷ r ∷ ps) h rest o q =
    subst Prints (sym (append_assoc (port_cells p) (near (codes ",") ∷ ports_cells (r ∷ ps)) rest))
    (port_prints p (near (codes ",") ∷ (ports_cells (r ∷ ps) ++ rest)) h.0 refl (cell refl refl (comma_joins ps r rest) (ports_print (r ∷ ps) h.1 rest o q)))

ports_opens : (ps : List Port) (rest : Cells) → Opens rest → joins printer (Word (codes "(")) (ports_cells ps ++ rest) ≡ true
ports_opens [] rest o = joins_opens (Word (codes "(")) rest o
ports_opens (p ∷ []) rest o = refl
ports_opens (p ∷ q ∷ ps) rest o = refl

-- the whole module
pub tree_prints : (t : Tree) → has_word (Name t.name) ≡ true → AllByRecursion (λ p. IsNamed p.name p.width) t.ports → AllByRecursion (λ d. IsNamed d.name d.width) t.decls
    → AllByRecursion (λ s. PrintsLine (stmt_cells s)) t.stmts → Prints (tree_cells t)
tree_prints t n ps ds ss =
    let last : Cells = at (10 ∷ []) (Word (codes "endmodule")) ∷ [] in
    let end : Prints last = cell refl refl refl (record { is = refl }) in
    let ss' = stmts_print t.stmts ss in
    let ds' = decls_print t.decls ds in
    let so : Opens last = record { is = refl } in
    let body : Prints (decls_cells t.decls ++ (stmts_cells t.stmts ++ last)) = ds'.prints (stmts_cells t.stmts ++ last) (ss'.opens last so) (ss'.prints last so end) in
    let close : Prints (at (10 ∷ []) (Word (codes ")")) ∷ near (codes ";") ∷ (decls_cells t.decls ++ (stmts_cells t.stmts ++ last)))
    = cell refl refl refl (last_mark (decls_cells t.decls ++ (stmts_cells t.stmts ++ last)) (ds'.opens (stmts_cells t.stmts ++ last) (ss'.opens last so)) body) in
    cell refl refl refl (cell refl n refl (cell refl refl (ports_opens t.ports _ (record { is = refl })) (ports_print t.ports ps _ (record { is = refl }) close)))

pub assign_line : (to : List ℕ) (e : Term) → has_word (Name to) ≡ true → PrintsTerm e → PrintsLine (stmt_cells (Assign to e))
assign_line = assign_prints

pub clocked_line : (to n : List ℕ) → has_word (Name to) ≡ true → has_word (Name n) ≡ true → PrintsLine (stmt_cells (Clocked (codes "PCLK") to (Plain (Whole n))))
clocked_line to n h k = clocked_prints to (Plain (Whole n)) h (whole_prints n k)

pub resettable_line : (low : Bool) (pin to n : List ℕ) (w v : ℕ) → has_word (Name pin) ≡ true → has_word (Name to) ≡ true → has_word (Name n) ≡ true → has_word (Const w v) ≡ true
    → PrintsLine (stmt_cells (Resettable (codes "PCLK") low pin low pin to w v to (Plain (Whole n))))
resettable_line low pin to n w v q h k c = resettable_prints low pin to w v (Plain (Whole n)) q h c (whole_prints n k)

pub shown_line : (to n : List ℕ) → has_word (Name to) ≡ true → has_word (Name n) ≡ true → PrintsLine (stmt_cells (Assign to (Plain (Whole n))))
shown_line to n h k = assign_prints to (Plain (Whole n)) h (whole_prints n k)
