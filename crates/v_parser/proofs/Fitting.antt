-- A tree's tokens fit the grammar.
use Rattle.std.proofs.Common.{◌≡◌, ℕ, ◌-◌, ◌<◌, ◌==◌, nat_le, cond, Bool, true, false, List, [], ◌∷◌, ◌++◌, length, refl, ap, sym, ◌∙◌, subst, append_assoc, append-nil, arith}
use Rattle.std.proofs.lemmas.Bool.Decides.{nat_tests}
use Rattle.rb_base.specs.declared.ports.Dir.{Dir}
use Rattle.rb_base.specs.declared.ports.Dir.TheVariants.{In, Out}
use Rattle.rb_base.specs.declared.ports.Port.{Port}
use Rattle.rb_grammar.specs.Spelling.{At, tokens_of}
use Rattle.rb_grammar.specs.Forms.{Form, Tok, Non, ◌or◌, Opt, Many, ◌then◌, Grammar, Fits, token, rule, first, second, none, some, no_turn, turn, both}
use Rattle.v_design.specs.Lexemes.{Token, Word, Name, Number}
use Rattle.v_design.specs.Tree.{Tree, Term, Operand, Operands, Plain, Prefixed, Joined, Chosen, Whole, Bit, Part, Sized, Braced, Grouped, no_more, and_also, Statement, Assign, Clocked, Resettable}
use Rattle.v_design.specs.Tree.{one_word, two_word, dir_word, decl_word, edge_word, negation, term_tokens, operand_tokens, operands_tokens, range_tokens, port_tokens, ports_tokens, decls_tokens, stmt_tokens, stmts_tokens, is_width, port_widths, decl_widths}
use Rattle.v_design.specs.Tree as tree
use Rattle.v_design.specs.declared.design.VOne.{VOne}
use Rattle.v_design.specs.declared.design.VOne.TheVariants.{Not, All, Any, Odd}
use Rattle.v_design.specs.declared.design.VTwo.{VTwo}
use Rattle.v_design.specs.declared.design.VTwo.TheVariants.{Add, Sub, And, Or, Xor, Eq, Ne, Lt, Le, Gt, Ge}
use Rattle.v_design.specs.declared.design.Decl.{Decl}
use Rattle.v_design.proofs.Tests.{and-left, and-right}
use Rattle.v_syntax.specs.Grammar.{Terminal, Quoted, Identifier, Decimal, High, Zero, Constant, is, Rule, quoted, grammar}
use Rattle.v_syntax.specs.Grammar as rules
use Rattle.v_syntax.specs.Syntax.{IsShaped}
use Rattle.v_parser.specs.Reading.{decl_tokens}
use Rattle.v_parser.proofs.Whole.{more_tokens, all_tokens}

-- the grammar over tokens without their places
abbrev plain : Grammar Terminal Rule Token
plain = record { is = is; rule = rules.rule }

abbrev FitsPlain : Form Terminal Rule → List Token → Type 0
FitsPlain f xs = Fits plain f xs

-- Tokens at their places fit what they fit without.

record Split (ts : List (At Token)) (xs ys : List Token) : Type 0 where
  pub front : List (At Token)
  pub back : List (At Token)
  pub list : ts ≡ front ++ back
  pub before : tokens_of front ≡ xs
  pub behind : tokens_of back ≡ ys

split : (ts : List (At Token)) (xs ys : List Token) → tokens_of ts ≡ xs ++ ys → Split ts xs ys
split ts [] ys e = record { front = []; back = ts; list = refl; before = refl; behind = e }
split [] (x ∷ xs) ys e = cc
split (t ∷ ts) (x ∷ xs) ys e =
    let s = split ts xs ys cc in
    let same : t.token ≡ x = cc in
    record { front = t ∷ s.front; back = s.back; list = ap (λ z. t ∷ z) s.list; before = ap (λ z. t.token ∷ z) s.before ∙ ap (λ z. z ∷ xs) same; behind = s.behind }

one_token : (a : Terminal) (x : Token) (ts : List (At Token)) → tokens_of ts ≡ x ∷ [] → is a x ≡ true → Fits grammar (Tok a) ts
one_token a x [] e h = cc
one_token a x (t ∷ []) e h = let same : t.token ≡ x = cc in token (ap (is a) same ∙ h)
one_token a x (t ∷ u ∷ ts) e h = cc

nothing : (ts : List (At Token)) → tokens_of ts ≡ [] → ts ≡ []
nothing [] e = refl
nothing (t ∷ ts) e = cc

placed_fit : {f : Form Terminal Rule} {xs : List Token} → Fits plain f xs → (ts : List (At Token)) → tokens_of ts ≡ xs → Fits grammar f ts
placed_fit (token {a = a} {t = t} i) ts e = one_token a t ts e i
placed_fit (rule p) ts e = rule (placed_fit p ts e)
placed_fit (first p) ts e = first (placed_fit p ts e)
placed_fit (second p) ts e = second (placed_fit p ts e)
placed_fit (none {f = f}) ts e = subst (λ z. Fits grammar (Opt f) z) (sym (nothing ts e)) none
placed_fit (some p) ts e = some (placed_fit p ts e)
placed_fit (no_turn {f = f}) ts e = subst (λ z. Fits grammar (Many f) z) (sym (nothing ts e)) no_turn
placed_fit (turn {us = us} {vs = vs} w p q) ts e = let s = split ts us vs (e ∙ w) in turn s.list (placed_fit p s.front s.before) (placed_fit q s.back s.behind)
placed_fit (both {us = us} {vs = vs} w p q) ts e = let s = split ts us vs (e ∙ w) in both s.list (placed_fit p s.front s.before) (placed_fit q s.back s.behind)

-- a token, and then the rest
next : {a : Terminal} {t : Token} {g : Form Terminal Rule} {xs : List Token} → is a t ≡ true → Fits plain g xs → Fits plain (Tok a then g) (t ∷ xs)
next {t = t} h p = both {us = t ∷ []} refl (token h) p

-- Expressions.

prefix_fits : (op : VOne) → FitsPlain (Non rules.Prefix) (Word (one_word op) ∷ [])
prefix_fits Not = rule (first (token refl))
prefix_fits All = rule (second (first (token refl)))
prefix_fits Any = rule (second (second (first (token refl))))
prefix_fits Odd = rule (second (second (second (token refl))))

infix_fits : (op : VTwo) → FitsPlain (Non rules.Infix) (Word (two_word op) ∷ [])
infix_fits Add = rule (first (token refl))
infix_fits Sub = rule (second (first (token refl)))
infix_fits And = rule (second (second (first (token refl))))
infix_fits Or = rule (second (second (second (first (token refl)))))
infix_fits Xor = rule (second (second (second (second (first (token refl))))))
infix_fits Eq = rule (second (second (second (second (second (first (token refl)))))))
infix_fits Ne = rule (second (second (second (second (second (second (first (token refl))))))))
infix_fits Lt = rule (second (second (second (second (second (second (second (first (token refl)))))))))
infix_fits Le = rule (second (second (second (second (second (second (second (second (first (token refl))))))))))
infix_fits Gt = rule (second (second (second (second (second (second (second (second (second (first (token refl)))))))))))
infix_fits Ge = rule (second (second (second (second (second (second (second (second (second (second (token refl)))))))))))

mutual
  term_fits : (e : Term) → FitsPlain (Non rules.Expr) (term_tokens e)
  term_fits (Plain a) = rule (second (both (sym (append-nil (operand_tokens a))) (operand_fits a) none))
  term_fits (Prefixed op a) = rule (first (both {us = Word (one_word op) ∷ []} refl (prefix_fits op) (operand_fits a)))
  term_fits (Joined op a b) = rule (second (both refl (operand_fits a) (some (first (both {us = Word (two_word op) ∷ []} refl (infix_fits op) (operand_fits b))))))
  term_fits (Chosen c a b) = rule (second (both refl (operand_fits c) (some (second (next refl (both refl (operand_fits a) (next refl (operand_fits b))))))))

  operand_fits : (a : Operand) → FitsPlain (Non rules.Operand) (operand_tokens a)
  operand_fits (Whole n) = rule (first (next refl none))
  operand_fits (Bit n k) = rule (first (next refl (some (rule (next refl (next refl (both {us = []} refl none (token refl))))))))
  operand_fits (Part n hi lo) = rule (first (next refl (some (rule (next refl (next refl (both {us = tree.quoted ":" ∷ Number lo ∷ []} refl (some (next refl (token refl))) (token refl))))))))
  operand_fits (Sized w v) = rule (second (first (token refl)))
  operand_fits (Braced a rest) = rule (second (second (first (next refl (both refl (operand_fits a) (both refl (operands_fits rest) (token refl)))))))
  operand_fits (Grouped e) = rule (second (second (second (next refl (both refl (term_fits e) (token refl))))))

  operands_fits : (rest : Operands) → FitsPlain (Many (quoted "," then Non rules.Operand)) (operands_tokens rest)
  operands_fits no_more = no_turn
  operands_fits (and_also a rest) = turn {us = tree.quoted "," ∷ operand_tokens a} refl (next refl (operand_fits a)) (operands_fits rest)

-- Ports and declarations.

high : (w : ℕ) → is_width w ≡ true → (w == 1) ≡ false → is High (Number (w - 1)) ≡ true
high w h e = let low : nat_le 1 (w - 1) ≡ true = grind (arith, nat_tests) in let less : nat_le (w - 1) 127 ≡ true = grind (arith, nat_tests) in rw (low, less) refl

range_fits : (w : ℕ) → is_width w ≡ true → FitsPlain (Opt (Non rules.Range)) (range_tokens w)
range_fits w h = go (w == 1) refl
  where
    go : (b : Bool) → (w == 1) ≡ b → FitsPlain (Opt (Non rules.Range)) (cond b [] (tree.quoted "[" ∷ Number (w - 1) ∷ tree.quoted ":" ∷ Number 0 ∷ tree.quoted "]" ∷ []))
    go true e = none
    go false e = some (rule (next refl (next (high w h e) (next refl (next refl (token refl))))))

side_fits : (dir : Dir) → FitsPlain (Non rules.Side) (Word (dir_word dir) ∷ [])
side_fits In = rule (first (token refl))
side_fits Out = rule (second (token refl))

port_fits : (p : Port) → is_width p.width ≡ true → FitsPlain (Non rules.Port) (port_tokens p)
port_fits p h = rule (both {us = Word (dir_word p.dir) ∷ []} refl (side_fits p.dir) (both refl (range_fits p.width h) (token refl)))

more_fits : (ps : List Port) → port_widths ps ≡ true → FitsPlain (Many (quoted "," then Non rules.Port)) (more_tokens ps)
more_fits [] h = no_turn
more_fits (p ∷ ps) h = turn {us = tree.quoted "," ∷ port_tokens p} refl (next refl (port_fits p (and-left (is_width p.width) (port_widths ps) h))) (more_fits ps (and-right (is_width p.width) (port_widths ps) h))

word_fits : (reg : Bool) → FitsPlain (quoted "wire" or quoted "reg") (Word (decl_word reg) ∷ [])
word_fits false = first (token refl)
word_fits true = second (token refl)

decl_fits : (d : Decl) → is_width d.width ≡ true → FitsPlain (Non rules.Decl) (decl_tokens d)
decl_fits d h = rule (both {us = Word (decl_word d.reg) ∷ []} refl (word_fits d.reg) (both refl (range_fits d.width h) (next refl (token refl))))

decls_fits : (ds : List Decl) → decl_widths ds ≡ true → FitsPlain (Many (Non rules.Decl)) (decls_tokens ds)
decls_fits [] h = no_turn
decls_fits (d ∷ ds) h =
    turn {us = decl_tokens d} (ap (λ z. Word (decl_word d.reg) ∷ z) (sym (append_assoc (range_tokens d.width) (Name d.name ∷ tree.quoted ";" ∷ []) (decls_tokens ds))))
    (decl_fits d (and-left (is_width d.width) (decl_widths ds) h)) (decls_fits ds (and-right (is_width d.width) (decl_widths ds) h))

-- Statements.

edge_fits : (low : Bool) → FitsPlain (Non rules.Edge) (Word (edge_word low) ∷ [])
edge_fits false = rule (first (token refl))
edge_fits true = rule (second (token refl))

negation_fits : (negated : Bool) → FitsPlain (Opt (quoted "!")) (negation negated)
negation_fits false = none
negation_fits true = some (token refl)

stmt_fits : (s : Statement) → FitsPlain (Non rules.Stmt) (stmt_tokens s)
stmt_fits (Assign to e) = rule (first (next refl (next refl (next refl (both refl (term_fits e) (token refl))))))
stmt_fits (Clocked clock to e) =
    rule (second (rule (next refl (next refl (next refl (next refl (next refl (first (next refl (next refl (next refl (both refl (term_fits e) (token refl)))))))))))))
stmt_fits (Resettable clock low reset negated test to width value again e) =
    rule (second (rule (next refl (next refl (next refl (next refl (next refl (second (rule
    (next refl (both {us = Word (edge_word low) ∷ []} refl (edge_fits low) (next refl (next refl (next refl (next refl (both refl (negation_fits negated) (next refl (next refl
    (next refl (next refl (next refl (next refl (next refl (next refl (next refl (both refl (term_fits e) (token refl)))))))))))))))))))))))))))

stmts_fits : (ss : List Statement) → FitsPlain (Many (Non rules.Stmt)) (stmts_tokens ss)
stmts_fits [] = no_turn
stmts_fits (s ∷ ss) = turn {us = stmt_tokens s} refl (stmt_fits s) (stmts_fits ss)

-- Modules.

ports_fit : (ps : List Port) {g : Form Terminal Rule} {rest : List Token} → 0 < length ps → port_widths ps ≡ true → FitsPlain g rest → FitsPlain (Non rules.Port then Many (quoted "," then Non rules.Port) then g) (ports_tokens ps ++ rest)
ports_fit [] l h r = absurd (omega (arith, l))
ports_fit (p ∷ ps) {rest = rest} l h r =
    both {us = port_tokens p} (ap (λ z. z ++ rest) (all_tokens p ps) ∙ append_assoc (port_tokens p) (more_tokens ps) rest) (port_fits p (and-left (is_width p.width) (port_widths ps) h))
    (both refl (more_fits ps (and-right (is_width p.width) (port_widths ps) h)) r)

module_fits : (t : Tree) → IsShaped t → FitsPlain (Non rules.Module) (tree.tokens_of t)
module_fits t s =
    rule (next refl (next refl (next refl (ports_fit t.ports s.ported (and-left (port_widths t.ports) (decl_widths t.decls) s.ranges)
    (next refl (next refl (both refl (decls_fits t.decls (and-right (port_widths t.ports) (decl_widths t.decls) s.ranges)) (both refl (stmts_fits t.stmts) (token refl)))))))))

pub tree_fits : (t : Tree) → IsShaped t → (ts : List (At Token)) → tokens_of ts ≡ tree.tokens_of t → Fits grammar (Non rules.Module) ts
tree_fits t s ts e = placed_fit (module_fits t s) ts e
