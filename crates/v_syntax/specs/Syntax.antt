-- What the tokens of a module say: when the parts of the program stand for a module tree.
use Rattle.std.specs.Prelude.{◌≡◌, ℕ, ◌+◌, ◌<◌, min, ◌&&◌, IsTrue, List, [], ◌∷◌, ◌++◌, length, map, ⊤}
use Rattle.rb_grammar.specs.Spelling.{At, tokens_of}
use Rattle.v_design.specs.Lexemes.{Token}
use Rattle.v_design.specs.Expr.{Expr, Exprs, Net, Bits, Const, Cat, One, Two, Pick, none, more}
use Rattle.v_design.specs.Design.{Step, step_of}
use Rattle.v_design.specs.Seen.{step_seen}
use Rattle.v_design.specs.Tree.{Tree, Statement, Assign, Clocked, Resettable, range_tokens, ports_tokens, decls_tokens, stmt_tokens, port_widths, decl_widths}
use Rattle.v_design.specs.Tree as tree
use Rattle.v_design.specs.declared.design.Stmt.{Stmt}
use Rattle.v_syntax.specs.Tokens.{place_at}
use Rattle.v_syntax.specs.declared.parsed.Event.{Event}
use Rattle.v_syntax.specs.declared.parsed.Event.TheVariants as event
use Rattle.v_syntax.specs.declared.parsed.Parsed.{Parsed}

abbrev mutual
  -- the expression where each bit number above 255 is 255: no net is so wide
  pub capped : Expr → Expr
  capped (Net n) = Net n
  capped (Bits n hi lo) = Bits n (min hi 255) (min lo 255)
  capped (Const w v) = Const w v
  capped (Cat es) = Cat (capped_all es)
  capped (One op e) = One op (capped e)
  capped (Two op a b) = Two op (capped a) (capped b)
  capped (Pick c a b) = Pick (capped c) (capped a) (capped b)

  pub capped_all : Exprs → Exprs
  capped_all none = none
  capped_all (more e es) = more (capped e) (capped_all es)

abbrev pub capped_step : Step → Step
capped_step s = record { to = s.to; clocked = s.clocked; reset = s.reset; expr = capped s.expr }

-- what a statement spells beyond what it does
abbrev pub IsEvent : Event → Statement → Type 0
IsEvent event.None (Assign to e) = ⊤
IsEvent (event.Clock c) (Clocked clock to e) = c.now ≡ clock
IsEvent (event.Reset c n t a) (Resettable clock low reset negated test to width value again e) = (c.now ≡ clock) × (n ≡ negated) × (t.now ≡ test) × (a.now ≡ again)
IsEvent _ _ = ⊥

-- a statement does and spells what that of the tree does and spells
pub record IsStatement (s : Stmt) (e : Event) (t : Statement) : Type 0 where
  pub does : step_seen s ≡ capped_step (step_of t)
  pub spells : IsEvent e t

abbrev pub AreStatements : List Stmt → List Event → List Statement → Type 0
AreStatements [] [] [] = ⊤
AreStatements (s ∷ ss) (e ∷ es) (t ∷ ts) = IsStatement s e t × AreStatements ss es ts
AreStatements _ _ _ = ⊥

-- the numbers of the tokens that are declared names, where the first declaration begins with number k: a word and a
-- range stand before each name, and a comma or a semicolon behind it
abbrev pub names_from : ℕ → (widths : List ℕ) → List ℕ
names_from k [] = []
names_from k (w ∷ ws) = (k + 1 + length (range_tokens w)) ∷ names_from (k + 3 + length (range_tokens w)) ws

-- how many tokens stand before the first declaration: the header's, with `module`, the name, and three marks
abbrev pub decls_from : Tree → ℕ
decls_from t = 5 + length (ports_tokens t.ports)

-- how many stand before the first statement
abbrev pub statements_from : Tree → ℕ
statements_from t = decls_from t + length (decls_tokens t.decls)

-- the numbers of the tokens with which the statements begin, the first with number k
abbrev pub starts_from : ℕ → List Statement → List ℕ
starts_from k [] = []
starts_from k (s ∷ ss) = k ∷ starts_from (k + length (stmt_tokens s)) ss

-- where the declared names stand, in order
abbrev pub declared_places : Tree → List (At Token) → List ℕ
declared_places t ts = map (place_at ts) (names_from 3 (map (λ p. p.width) t.ports) ++ names_from (decls_from t) (map (λ d. d.width) t.decls))

-- where the statements begin, in order
abbrev pub statement_places : Tree → List (At Token) → List ℕ
statement_places t ts = map (place_at ts) (starts_from (statements_from t) t.stmts)

-- what the grammar asks of a tree beyond its tokens: there is a port, and ranges end within 127
pub record IsShaped (t : Tree) : Type 0 where
  pub ported : 0 < length t.ports
  pub ranges : IsTrue (port_widths t.ports && decl_widths t.decls)

-- these are the tokens of the tree, and the parts stand for it
pub record IsSyntax (ts : List (At Token)) (x : Parsed) (t : Tree) : Type 0 where
  pub tokens : tokens_of ts ≡ tree.tokens_of t
  pub shaped : IsShaped t
  pub name : x.name.now ≡ t.name
  pub ports : x.ports.items ≡ t.ports
  pub decls : x.decls.items ≡ t.decls
  pub stmts : AreStatements x.stmts.items x.events.items t.stmts
  pub declared : map (λ p. p.0) x.declared.items ≡ declared_places t ts
  pub starts : map (λ s. s.place.0) x.stmts.items ≡ statement_places t ts
  pub before : x.before ≡ statements_from t
