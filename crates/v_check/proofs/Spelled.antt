-- The names among the tokens of statements.
use Rattle.std.specs.List.{flat_map}
use Rattle.std.specs.Str.{bytes_eq}
use Rattle.std.proofs.Common.{◌≡◌, ℕ, zero, suc, ◌+◌, ◌-◌, ◌≤◌, Bool, true, false, Some, List, [], ◌∷◌, ◌++◌, length, slice_get, refl, ap, sym, ◌∙◌, inl, inr, append_assoc, length-append, arith}
use Rattle.std.proofs.lemmas.Bool.{or_cases}
use Rattle.std.proofs.lemmas.List.{append-nil}
use Rattle.rb_grammar.specs.Spelling.{At}
use Rattle.rb_grammar.specs.Spelling as spelling
use Rattle.v_design.proofs.Tests.{same-refl, same-true}
use Rattle.v_design.proofs.Names.{or-left, or-right}
use Rattle.v_design.specs.Lexemes.{Token, Word, Name, Number, Const, among}
use Rattle.v_design.specs.Expr.{nets_of, nets_of_each}
use Rattle.v_design.specs.Design.{expr_of, operand_of, operands_of}
use Rattle.v_design.specs.Tree.{Tree, Term, Operand, Operands, Plain, Prefixed, Joined, Chosen, Whole, Bit, Part, Sized, Braced, Grouped, no_more, and_also, Statement, Assign, Clocked, Resettable, term_tokens, operand_tokens, operands_tokens, ports_tokens, decls_tokens, stmt_tokens, stmts_tokens, negation, quoted}
use Rattle.v_design.specs.Tree as tree
use Rattle.v_design.specs.WellFormed.{used}
use Rattle.v_syntax.specs.Syntax.{statements_from}
use Rattle.plain_lemmas.proofs.Lists.{get-behind}

-- the names among tokens
abbrev pub names_in : List Token → List (List ℕ)
names_in [] = []
names_in (Name n ∷ ts) = n ∷ names_in ts
names_in (Word w ∷ ts) = names_in ts
names_in (Number n ∷ ts) = names_in ts
names_in (Const w v ∷ ts) = names_in ts

names-append : (xs ys : List Token) → names_in (xs ++ ys) ≡ names_in xs ++ names_in ys
names-append [] ys = refl
names-append (Name n ∷ xs) ys = ap (λ l. n ∷ l) (names-append xs ys)
names-append (Word w ∷ xs) ys = names-append xs ys
names-append (Number n ∷ xs) ys = names-append xs ys
names-append (Const w v ∷ xs) ys = names-append xs ys

mutual
  term-names : (e : Term) → names_in (term_tokens e) ≡ nets_of (expr_of e)
  term-names (Plain a) = operand-names a
  term-names (Prefixed op a) = operand-names a
  term-names (Joined op a b) = names-append (operand_tokens a) _ ∙ rw (operand-names a, operand-names b) refl
  term-names (Chosen c a b) =
      names-append (operand_tokens c) _
      ∙ rw (operand-names c) (ap (λ l. nets_of (operand_of c) ++ l) (names-append (operand_tokens a) _ ∙ rw (operand-names a, operand-names b) refl))

  operand-names : (a : Operand) → names_in (operand_tokens a) ≡ nets_of (operand_of a)
  operand-names (Whole n) = refl
  operand-names (Bit n k) = refl
  operand-names (Part n hi lo) = refl
  operand-names (Sized w v) = refl
  operand-names (Braced a rest) =
      names-append (operand_tokens a) _
      ∙ rw (operand-names a) (ap (λ l. nets_of (operand_of a) ++ l) (names-append (operands_tokens rest) _ ∙ (append-nil (names_in (operands_tokens rest)) ∙ operands-names rest)))
  operand-names (Grouped e) = names-append (term_tokens e) _ ∙ (append-nil (names_in (term_tokens e)) ∙ term-names e)

  operands-names : (rest : Operands) → names_in (operands_tokens rest) ≡ nets_of_each (operands_of rest)
  operands-names no_more = refl
  operands-names (and_also a rest) = names-append (operand_tokens a) _ ∙ rw (operand-names a, operands-names rest) refl

-- the expression and the semicolon of a statement
end-names : (e : Term) → names_in (term_tokens e ++ quoted ";" ∷ []) ≡ nets_of (expr_of e)
end-names e = names-append (term_tokens e) _ ∙ (append-nil (names_in (term_tokens e)) ∙ term-names e)

negation-names : (b : Bool) (ts : List Token) → names_in (negation b ++ ts) ≡ names_in ts
negation-names true ts = refl
negation-names false ts = refl

stmt-names : (s : Statement) → names_in (stmt_tokens s) ≡ used s
stmt-names (Assign to e) = ap (λ l. to ∷ l) (end-names e)
stmt-names (Clocked c to e) = ap (λ l. c ∷ to ∷ l) (end-names e)
stmt-names (Resettable c low reset negated test to width value again e) =
    ap (λ l. c ∷ reset ∷ l) (negation-names negated _ ∙ ap (λ l. test ∷ to ∷ again ∷ l) (end-names e))

pub stmts-names : (ss : List Statement) → names_in (stmts_tokens ss) ≡ flat_map used ss
stmts-names [] = refl
stmts-names (s ∷ ss) = names-append (stmt_tokens s) (stmts_tokens ss) ∙ rw (stmt-names s, stmts-names ss) refl

-- a name among tokens stands at a place
pub name-token : (ts : List Token) (k : ℕ) (n : List ℕ) → slice_get ts k ≡ Some (Name n) → among (names_in ts) n ≡ true
name-token [] k n h = cc h
name-token (Name m ∷ ts) zero n h = or-left (bytes_eq m n) (among (names_in ts) n) (let e : m ≡ n = cc in ap (λ x. bytes_eq m x) (sym e) ∙ same-refl m)
name-token (Word w ∷ ts) zero n h = cc h
name-token (Number m ∷ ts) zero n h = cc h
name-token (Const w v ∷ ts) zero n h = cc h
name-token (Name m ∷ ts) (suc k) n h = or-right (bytes_eq m n) (among (names_in ts) n) (name-token ts k n h)
name-token (Word w ∷ ts) (suc k) n h = name-token ts k n h
name-token (Number m ∷ ts) (suc k) n h = name-token ts k n h
name-token (Const w v ∷ ts) (suc k) n h = name-token ts k n h

pub token-name : (ts : List Token) (n : List ℕ) → among (names_in ts) n ≡ true → (k : ℕ) × (slice_get ts k ≡ Some (Name n))
token-name [] n h = cc h
token-name (Name m ∷ ts) n h = elim (or_cases (bytes_eq m n) (among (names_in ts) n) h) [
  | inl here ↦ (0, ap (λ x. Some (Name x)) (same-true m n here))
  | inr there ↦ let (k, at) = token-name ts n there in (suc k, at)
]
token-name (Word w ∷ ts) n h = let (k, at) = token-name ts n h in (suc k, at)
token-name (Number m ∷ ts) n h = let (k, at) = token-name ts n h in (suc k, at)
token-name (Const w v ∷ ts) n h = let (k, at) = token-name ts n h in (suc k, at)

-- the tokens of a module from its statements on
front : Tree → List Token
front t = quoted "module" ∷ Name t.name ∷ quoted "(" ∷ (ports_tokens t.ports ++ (quoted ")" ∷ quoted ";" ∷ decls_tokens t.decls))

tokens-split : (t : Tree) → tree.tokens_of t ≡ front t ++ (stmts_tokens t.stmts ++ quoted "endmodule" ∷ [])
unfolding front
tokens-split t = ap (λ l. quoted "module" ∷ Name t.name ∷ quoted "(" ∷ l) (sym (append_assoc (ports_tokens t.ports) (quoted ")" ∷ quoted ";" ∷ decls_tokens t.decls) (stmts_tokens t.stmts ++ quoted "endmodule" ∷ [])))

front-length : (t : Tree) → length (front t) ≡ statements_from t
unfolding front
front-length t = let e = length-append (ports_tokens t.ports) (quoted ")" ∷ quoted ";" ∷ decls_tokens t.decls) in omega (arith, e)

token-get : (ts : List (At Token)) (k : ℕ) (x : Token) → slice_get (spelling.tokens_of ts) k ≡ Some x → (a : At Token) × (slice_get ts k ≡ Some a) × (a.token ≡ x)
token-get [] k x h = cc h
token-get (a ∷ ts) zero x h = (a, refl, cc)
token-get (a ∷ ts) (suc k) x h = token-get ts k x h

get-token : (ts : List (At Token)) (k : ℕ) (a : At Token) → slice_get ts k ≡ Some a → slice_get (spelling.tokens_of ts) k ≡ Some a.token
get-token [] k a h = cc h
get-token (b ∷ ts) zero a h = let e : b ≡ a = cc in ap (λ y. Some y.token) e
get-token (b ∷ ts) (suc k) a h = get-token ts k a h

module _ (t : Tree) (ts : List (At Token)) (is : spelling.tokens_of ts ≡ tree.tokens_of t) where
  at-statements : (k : ℕ) → slice_get (spelling.tokens_of ts) (statements_from t + k) ≡ slice_get (stmts_tokens t.stmts ++ quoted "endmodule" ∷ []) k
  at-statements k =
      ap (λ l. slice_get l (statements_from t + k)) (is ∙ tokens-split t)
      ∙ (ap (λ n. slice_get (front t ++ (stmts_tokens t.stmts ++ quoted "endmodule" ∷ [])) (n + k)) (sym (front-length t)) ∙ get-behind (front t) (stmts_tokens t.stmts ++ quoted "endmodule" ∷ []) k)

  all-names : names_in (stmts_tokens t.stmts ++ quoted "endmodule" ∷ []) ≡ flat_map used t.stmts
  all-names = names-append (stmts_tokens t.stmts) _ ∙ (append-nil (names_in (stmts_tokens t.stmts)) ∙ stmts-names t.stmts)

  -- a name behind the front is used in a statement
  pub token-used : (k : ℕ) (a : At Token) (n : List ℕ) → statements_from t ≤ k → slice_get ts k ≡ Some a → a.token ≡ Name n → among (flat_map used t.stmts) n ≡ true
  token-used k a n low at name =
      let j = k - statements_from t in
      let same : k ≡ statements_from t + j = omega (arith, low) in
      let here : slice_get (stmts_tokens t.stmts ++ quoted "endmodule" ∷ []) j ≡ Some (Name n)
      = sym (at-statements j) ∙ (ap (slice_get (spelling.tokens_of ts)) (sym same) ∙ (get-token ts k a at ∙ ap Some name)) in
      ap (λ ns. among ns n) (sym all-names) ∙ name-token (stmts_tokens t.stmts ++ quoted "endmodule" ∷ []) j n here

  -- and a name that is used in a statement stands behind the front
  pub used-token : (n : List ℕ) → among (flat_map used t.stmts) n ≡ true → (k : ℕ) × (a : At Token) × (statements_from t ≤ k) × (slice_get ts k ≡ Some a) × (a.token ≡ Name n)
  used-token n h =
      let (j, at) = token-name (stmts_tokens t.stmts ++ quoted "endmodule" ∷ []) n (ap (λ ns. among ns n) all-names ∙ h) in
      let (a, there, name) = token-get ts (statements_from t + j) (Name n) (at-statements j ∙ at) in
      (statements_from t + j, a, omega arith, there, name)
