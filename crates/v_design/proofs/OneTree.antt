-- A list of tokens is at most one tree's.
use Rattle.std.specs.Str.{bytes_eq}
use Rattle.std.proofs.Common.{◌≡◌, ℕ, ◌-◌, ◌<◌, ◌≤◌, ◌==◌, Bool, true, false, ◌&&◌, if◌then◌else◌, Option, Some, None, List, [], ◌∷◌, ◌++◌, length, codes, refl, ap, sym, ◌∙◌, subst, arith, append_assoc}
use Rattle.rb_grammar.specs.Spelling as spelling
use Rattle.v_design.specs.Lexemes.{Token, Word, Name, Number, Const, verilog, Spells}
use Rattle.v_design.specs.Tree.{Tree, Statement, Assign, Clocked, Resettable, Term, Operand, Operands, Plain, Prefixed, Joined, Chosen, Whole, Bit, Part, Sized, Braced, Grouped, no_more, and_also, one_word, two_word, dir_word, decl_word, edge_word, range_tokens, port_tokens, ports_tokens, decls_tokens, negation, stmt_tokens, stmts_tokens, tokens_of, term_tokens, operand_tokens, operands_tokens}
use Rattle.v_design.specs.declared.design.VOne.{VOne}
use Rattle.v_design.specs.declared.design.VOne.TheVariants.{Not, All, Any, Odd}
use Rattle.v_design.specs.declared.design.VTwo.{VTwo}
use Rattle.v_design.specs.declared.design.VTwo.TheVariants.{Add, Sub, And, Or, Xor, Eq, Ne, Lt, Le, Gt, Ge}
use Rattle.rb_base.specs.declared.ports.Dir.{Dir}
use Rattle.rb_base.specs.declared.ports.Dir.TheVariants.{In, Out}
use Rattle.rb_base.specs.declared.ports.Port.{Port}
use Rattle.v_design.specs.declared.design.Decl.{Decl}
use Rattle.v_design.specs.Tree.{IsTree, port_widths, decl_widths}
use Rattle.rb_grammar.proofs.OneSpelling.{spells_once}
use Rattle.std.proofs.lemmas.Bool.Decides.{nat_tests}
use Rattle.std.proofs.lemmas.Map.Views.{exact_unsigned_eq}
use Rattle.std.proofs.Common.{nat_le}
use Rattle.v_design.proofs.Tests.{and-left, and-right, same-refl}

-- two words that are not the bytes_eq are two tokens
words_apart : (v w : List ℕ) → bytes_eq v w ≡ false → Word v ≡ Word w → ⊥
words_apart v w h e =
    let f : v ≡ w = cc in let P : List ℕ → Type 0 = λ z. bytes_eq v z ≡ true in
    let g : bytes_eq v w ≡ true = subst P f (same-refl v) in cc

unfoldable pub one_of : List ℕ → Option VOne
one_of w = if bytes_eq w (codes "~") then Some Not else (if bytes_eq w (codes "&") then Some All else (if bytes_eq w (codes "|") then Some Any else (if bytes_eq w (codes "^") then Some Odd else None)))

pub one_is : (op : VOne) → one_of (one_word op) ≡ Some op
unfolding one_of
one_is Not = refl
one_is All = refl
one_is Any = refl
one_is Odd = refl

one_once : (a b : VOne) → Word (one_word a) ≡ Word (one_word b) → a ≡ b
one_once a b e =
    let f : one_word a ≡ one_word b = cc in
    let g : Some a ≡ Some b = sym (one_is a) ∙ (ap one_of f ∙ one_is b) in cc

unfoldable pub two_of : List ℕ → Option VTwo
two_of w = if bytes_eq w (codes "+") then Some Add else (if bytes_eq w (codes "-") then Some Sub else (if bytes_eq w (codes "&") then Some And else (if bytes_eq w (codes "|") then Some Or else
    (if bytes_eq w (codes "^") then Some Xor else (if bytes_eq w (codes "==") then Some Eq else (if bytes_eq w (codes "!=") then Some Ne else (if bytes_eq w (codes "<") then Some Lt else
    (if bytes_eq w (codes "<=") then Some Le else (if bytes_eq w (codes ">") then Some Gt else (if bytes_eq w (codes ">=") then Some Ge else None))))))))))

pub two_is : (op : VTwo) → two_of (two_word op) ≡ Some op
unfolding two_of
two_is Add = refl
two_is Sub = refl
two_is And = refl
two_is Or = refl
two_is Xor = refl
two_is Eq = refl
two_is Ne = refl
two_is Lt = refl
two_is Le = refl
two_is Gt = refl
two_is Ge = refl

two_once : (a b : VTwo) → Word (two_word a) ≡ Word (two_word b) → a ≡ b
two_once a b e =
    let f : two_word a ≡ two_word b = cc in
    let g : Some a ≡ Some b = sym (two_is a) ∙ (ap two_of f ∙ two_is b) in cc

-- no operator is this word
two_not : (v : List ℕ) → two_of v ≡ None → (op : VTwo) → Word (two_word op) ≡ Word v → ⊥
two_not v h op e = let f : two_word op ≡ v = cc in let g : Some op ≡ None = sym (two_is op) ∙ (ap two_of f ∙ h) in cc

one_not : (v : List ℕ) → one_of v ≡ None → (op : VOne) → Word (one_word op) ≡ Word v → ⊥
one_not v h op e = let f : one_word op ≡ v = cc in let g : Some op ≡ None = sym (one_is op) ∙ (ap one_of f ∙ h) in cc

-- what may follow an operand, and what may follow an expression
pub data Follows : List Token → Type 0 where
  nothing : Follows []
  word : (w : List ℕ) (ts : List Token) → bytes_eq (codes "[") w ≡ false → Follows (Word w ∷ ts)

pub data Ends : List Token → Type 0 where
  ends : (w : List ℕ) (ts : List Token) → two_of w ≡ None → bytes_eq (codes "?") w ≡ false → bytes_eq (codes "[") w ≡ false → Ends (Word w ∷ ts)

ends_follows : (x : List Token) → Ends x → Follows x
ends_follows _ (ends w ts a b c) = word w ts c

no_bracket : (x : List Token) (ts : List Token) → Follows x → x ≡ Word (codes "[") ∷ ts → ⊥
no_bracket _ ts nothing e = cc
no_bracket _ ts (word w us h) e = words_apart (codes "[") w h (let f : Word w ≡ Word (codes "[") = cc in sym f)

-- no expression ends before an operator or a question mark
no_two : (x : List Token) (op : VTwo) (ts : List Token) → Ends x → x ≡ Word (two_word op) ∷ ts → ⊥
no_two _ op ts (ends w us a b c) e = two_not w a op (let f : Word w ≡ Word (two_word op) = cc in sym f)

no_question : (x : List Token) (ts : List Token) → Ends x → x ≡ Word (codes "?") ∷ ts → ⊥
no_question _ ts (ends w us a b c) e = words_apart (codes "?") w b (let f : Word w ≡ Word (codes "?") = cc in sym f)

two_follows : (op : VTwo) (ts : List Token) → Follows (Word (two_word op) ∷ ts)
two_follows op ts = word (two_word op) ts (go op)
  where
    go : (op : VTwo) → bytes_eq (codes "[") (two_word op) ≡ false
    go Add = refl
    go Sub = refl
    go And = refl
    go Or = refl
    go Xor = refl
    go Eq = refl
    go Ne = refl
    go Lt = refl
    go Le = refl
    go Gt = refl
    go Ge = refl

brace_no_one : one_of (codes "{") ≡ None
unfolding one_of
brace_no_one = refl

group_no_one : one_of (codes "(") ≡ None
unfolding one_of
group_no_one = refl

pub close_ends : (ts : List Token) → Ends (Word (codes ")") ∷ ts)
unfolding two_of
close_ends ts = ends (codes ")") ts refl refl refl

semicolon_ends : (ts : List Token) → Ends (Word (codes ";") ∷ ts)
unfolding two_of
semicolon_ends ts = ends (codes ";") ts refl refl refl

question_no_two : two_of (codes "?") ≡ None
unfolding two_of
question_no_two = refl

unary_one : (op : VOne) (a : Operand) (x ts : List Token) → Word (one_word op) ∷ ts ≡ operand_tokens a ++ x → ⊥
unary_one op (Whole n) x ts e = cc
unary_one op (Bit n k) x ts e = cc
unary_one op (Part n hi lo) x ts e = cc
unary_one op (Sized w v) x ts e = cc
unary_one op (Braced a rest) x ts e = one_not (codes "{") brace_no_one op (let f : Word (one_word op) ≡ Word (codes "{") = cc in f)
unary_one op (Grouped t) x ts e = one_not (codes "(") group_no_one op (let f : Word (one_word op) ≡ Word (codes "(") = cc in f)

-- what an operand's and an expression's tokens are in front of others
brace_at : (a : Operand) (rest : Operands) (x : List Token) → operand_tokens (Braced a rest) ++ x ≡ Word (codes "{") ∷ (operand_tokens a ++ (operands_tokens rest ++ (Word (codes "}") ∷ x)))
brace_at a rest x = ap (λ z. Word (codes "{") ∷ z) (append_assoc (operand_tokens a) (operands_tokens rest ++ (Word (codes "}") ∷ [])) x
    ∙ ap (λ z. operand_tokens a ++ z) (append_assoc (operands_tokens rest) (Word (codes "}") ∷ []) x))

group_at : (t : Term) (x : List Token) → operand_tokens (Grouped t) ++ x ≡ Word (codes "(") ∷ (term_tokens t ++ (Word (codes ")") ∷ x))
group_at t x = ap (λ z. Word (codes "(") ∷ z) (append_assoc (term_tokens t) (Word (codes ")") ∷ []) x)

joined_at : (op : VTwo) (a b : Operand) (x : List Token) → term_tokens (Joined op a b) ++ x ≡ operand_tokens a ++ (Word (two_word op) ∷ (operand_tokens b ++ x))
joined_at op a b x = append_assoc (operand_tokens a) (Word (two_word op) ∷ operand_tokens b) x

chosen_at : (c a b : Operand) (x : List Token) → term_tokens (Chosen c a b) ++ x ≡ operand_tokens c ++ (Word (codes "?") ∷ (operand_tokens a ++ (Word (codes ":") ∷ (operand_tokens b ++ x))))
chosen_at c a b x = append_assoc (operand_tokens c) (Word (codes "?") ∷ (operand_tokens a ++ (Word (codes ":") ∷ operand_tokens b))) x
    ∙ ap (λ z. operand_tokens c ++ (Word (codes "?") ∷ z)) (append_assoc (operand_tokens a) (Word (codes ":") ∷ operand_tokens b) x)

tails : {t u : Token} {ts us : List Token} → t ∷ ts ≡ u ∷ us → ts ≡ us
tails e = cc

heads : {t u : Token} {ts us : List Token} → t ∷ ts ≡ u ∷ us → t ≡ u
heads e = cc

word_here : (w : List ℕ) (ts : List Token) → bytes_eq (codes "[") w ≡ false → Follows (Word w ∷ ts)
word_here w ts h = word w ts h

operands_follow : (rest : Operands) (x : List Token) → Follows (operands_tokens rest ++ (Word (codes "}") ∷ x))
operands_follow no_more x = word_here (codes "}") x refl
operands_follow (and_also a rest) x = word_here (codes ",") ((operand_tokens a ++ operands_tokens rest) ++ (Word (codes "}") ∷ x)) refl

mutual
  operand_once : (a b : Operand) (x y : List Token) → Follows x → Follows y → operand_tokens a ++ x ≡ operand_tokens b ++ y → (a ≡ b) × (x ≡ y)
  operand_once (Whole n) (Whole m) x y p q e = (cc, cc)
  operand_once (Whole n) (Bit m j) x y p q e = absurd (no_bracket x (Number j ∷ Word (codes "]") ∷ y) p (tails e))
  operand_once (Whole n) (Part m hj lj) x y p q e = absurd (no_bracket x (Number hj ∷ Word (codes ":") ∷ Number lj ∷ Word (codes "]") ∷ y) p (tails e))
  operand_once (Whole n) (Sized w' v') x y p q e = cc
  operand_once (Whole n) (Braced b more) x y p q e = cc
  operand_once (Whole n) (Grouped u) x y p q e = cc
  operand_once (Bit n k) (Whole m) x y p q e = absurd (no_bracket y (Number k ∷ Word (codes "]") ∷ x) q (sym (tails e)))
  operand_once (Bit n k) (Bit m j) x y p q e = (cc, cc)
  operand_once (Bit n k) (Part m hj lj) x y p q e = absurd (words_apart (codes "]") (codes ":") refl (heads (tails (tails (tails e)))))
  operand_once (Bit n k) (Sized w' v') x y p q e = cc
  operand_once (Bit n k) (Braced b more) x y p q e = cc
  operand_once (Bit n k) (Grouped u) x y p q e = cc
  operand_once (Part n hi lo) (Whole m) x y p q e = absurd (no_bracket y (Number hi ∷ Word (codes ":") ∷ Number lo ∷ Word (codes "]") ∷ x) q (sym (tails e)))
  operand_once (Part n hi lo) (Bit m j) x y p q e = absurd (words_apart (codes ":") (codes "]") refl (heads (tails (tails (tails e)))))
  operand_once (Part n hi lo) (Part m hj lj) x y p q e = (cc, cc)
  operand_once (Part n hi lo) (Sized w' v') x y p q e = cc
  operand_once (Part n hi lo) (Braced b more) x y p q e = cc
  operand_once (Part n hi lo) (Grouped u) x y p q e = cc
  operand_once (Sized w v) (Whole m) x y p q e = cc
  operand_once (Sized w v) (Bit m j) x y p q e = cc
  operand_once (Sized w v) (Part m hj lj) x y p q e = cc
  operand_once (Sized w v) (Sized w' v') x y p q e = (cc, cc)
  operand_once (Sized w v) (Braced b more) x y p q e = cc
  operand_once (Sized w v) (Grouped u) x y p q e = cc
  operand_once (Braced a rest) (Whole m) x y p q e = cc
  operand_once (Braced a rest) (Bit m j) x y p q e = cc
  operand_once (Braced a rest) (Part m hj lj) x y p q e = cc
  operand_once (Braced a rest) (Sized w' v') x y p q e = cc
  operand_once (Braced a rest) (Braced b more) x y p q e =
      (let f : operand_tokens a ++ (operands_tokens rest ++ (Word (codes "}") ∷ x)) ≡ operand_tokens b ++ (operands_tokens more ++ (Word (codes "}") ∷ y)) = tails (sym (brace_at a rest x) ∙ (e ∙ brace_at b more y)) in
      let g : (a ≡ b) × (operands_tokens rest ++ (Word (codes "}") ∷ x) ≡ operands_tokens more ++ (Word (codes "}") ∷ y)) = operand_once a b (operands_tokens rest ++ (Word (codes "}") ∷ x)) (operands_tokens more ++ (Word (codes "}") ∷ y)) (operands_follow rest x) (operands_follow more y) f in
      let h : (rest ≡ more) × (x ≡ y) = operands_once rest more x y g.1 in
      (let g0 = g.0 in let h0 = h.0 in cc, h.1))
  operand_once (Braced a rest) (Grouped u) x y p q e = absurd (words_apart (codes "{") (codes "(") refl (heads e))
  operand_once (Grouped t) (Whole m) x y p q e = cc
  operand_once (Grouped t) (Bit m j) x y p q e = cc
  operand_once (Grouped t) (Part m hj lj) x y p q e = cc
  operand_once (Grouped t) (Sized w' v') x y p q e = cc
  operand_once (Grouped t) (Braced b more) x y p q e = absurd (words_apart (codes "(") (codes "{") refl (heads e))
  operand_once (Grouped t) (Grouped u) x y p q e =
      (let f : term_tokens t ++ (Word (codes ")") ∷ x) ≡ term_tokens u ++ (Word (codes ")") ∷ y) = tails (sym (group_at t x) ∙ (e ∙ group_at u y)) in
      let g : (t ≡ u) × (Word (codes ")") ∷ x ≡ Word (codes ")") ∷ y) = term_once t u (Word (codes ")") ∷ x) (Word (codes ")") ∷ y) (close_ends x) (close_ends y) f in
      (ap Grouped g.0, tails g.1))

  operands_once : (a b : Operands) (x y : List Token) → operands_tokens a ++ (Word (codes "}") ∷ x) ≡ operands_tokens b ++ (Word (codes "}") ∷ y) → (a ≡ b) × (x ≡ y)
  operands_once no_more no_more x y e = (refl, tails e)
  operands_once no_more (and_also b rest) x y e = absurd (words_apart (codes "}") (codes ",") refl (heads e))
  operands_once (and_also a rest) no_more x y e = absurd (words_apart (codes ",") (codes "}") refl (heads e))
  operands_once (and_also a rest) (and_also b more) x y e =
      (let f : operand_tokens a ++ (operands_tokens rest ++ (Word (codes "}") ∷ x)) ≡ operand_tokens b ++ (operands_tokens more ++ (Word (codes "}") ∷ y)) =
      sym (append_assoc (operand_tokens a) (operands_tokens rest) (Word (codes "}") ∷ x)) ∙ (tails e ∙ append_assoc (operand_tokens b) (operands_tokens more) (Word (codes "}") ∷ y)) in
      let g : (a ≡ b) × (operands_tokens rest ++ (Word (codes "}") ∷ x) ≡ operands_tokens more ++ (Word (codes "}") ∷ y)) = operand_once a b (operands_tokens rest ++ (Word (codes "}") ∷ x)) (operands_tokens more ++ (Word (codes "}") ∷ y)) (operands_follow rest x) (operands_follow more y) f in
      let h : (rest ≡ more) × (x ≡ y) = operands_once rest more x y g.1 in
      (let g0 = g.0 in let h0 = h.0 in cc, h.1))

  term_once : (t u : Term) (x y : List Token) → Ends x → Ends y → term_tokens t ++ x ≡ term_tokens u ++ y → (t ≡ u) × (x ≡ y)
  term_once (Plain a) (Plain d) x y p q e = (let h : (a ≡ d) × (x ≡ y) = operand_once a d (x) (y) (ends_follows x p) (ends_follows y q) (e) in (ap Plain h.0, h.1))
  term_once (Plain a) (Prefixed or d) x y p q e = absurd (unary_one or a (x) (operand_tokens d ++ y) (sym (e)))
  term_once (Plain a) (Joined or d f) x y p q e = absurd (let h : (a ≡ d) × (x ≡ Word (two_word or) ∷ (operand_tokens f ++ y)) = operand_once a d (x) (Word (two_word or) ∷ (operand_tokens f ++ y)) (ends_follows x p) (two_follows or ((operand_tokens f ++ y))) ((e ∙ joined_at or d f y)) in no_two x or (operand_tokens f ++ y) p h.1)
  term_once (Plain a) (Chosen g d f) x y p q e = absurd (let h : (a ≡ g) × (x ≡ Word (codes "?") ∷ (operand_tokens d ++ (Word (codes ":") ∷ (operand_tokens f ++ y)))) = operand_once a g (x) (Word (codes "?") ∷ (operand_tokens d ++ (Word (codes ":") ∷ (operand_tokens f ++ y)))) (ends_follows x p) (word_here (codes "?") ((operand_tokens d ++ (Word (codes ":") ∷ (operand_tokens f ++ y)))) refl) ((e ∙ chosen_at g d f y)) in no_question x (operand_tokens d ++ (Word (codes ":") ∷ (operand_tokens f ++ y))) p h.1)
  term_once (Prefixed op a) (Plain d) x y p q e = absurd (unary_one op d (y) (operand_tokens a ++ x) (e))
  term_once (Prefixed op a) (Prefixed or d) x y p q e =
      (let o : op ≡ or = one_once op or (heads e) in
      let h : (a ≡ d) × (x ≡ y) = operand_once a d x y (ends_follows x p) (ends_follows y q) (tails e) in
      (let h0 = h.0 in cc, h.1))
  term_once (Prefixed op a) (Joined or d f) x y p q e = absurd (unary_one op d (Word (two_word or) ∷ (operand_tokens f ++ y)) (operand_tokens a ++ x) ((e ∙ joined_at or d f y)))
  term_once (Prefixed op a) (Chosen g d f) x y p q e = absurd (unary_one op g (Word (codes "?") ∷ (operand_tokens d ++ (Word (codes ":") ∷ (operand_tokens f ++ y)))) (operand_tokens a ++ x) ((e ∙ chosen_at g d f y)))
  term_once (Joined op a b) (Plain d) x y p q e = absurd (let h : (a ≡ d) × (Word (two_word op) ∷ (operand_tokens b ++ x) ≡ y) = operand_once a d (Word (two_word op) ∷ (operand_tokens b ++ x)) (y) (two_follows op ((operand_tokens b ++ x))) (ends_follows y q) (sym (joined_at op a b x) ∙ e) in no_two y op (operand_tokens b ++ x) q (sym h.1))
  term_once (Joined op a b) (Prefixed or d) x y p q e = absurd (unary_one or a (Word (two_word op) ∷ (operand_tokens b ++ x)) (operand_tokens d ++ y) (sym (sym (joined_at op a b x) ∙ e)))
  term_once (Joined op a b) (Joined or d f) x y p q e =
      (let h : (a ≡ d) × (Word (two_word op) ∷ (operand_tokens b ++ x) ≡ Word (two_word or) ∷ (operand_tokens f ++ y)) = operand_once a d (Word (two_word op) ∷ (operand_tokens b ++ x)) (Word (two_word or) ∷ (operand_tokens f ++ y)) (two_follows op ((operand_tokens b ++ x))) (two_follows or ((operand_tokens f ++ y))) (sym (joined_at op a b x) ∙ (e ∙ joined_at or d f y)) in
      let o : op ≡ or = two_once op or (heads h.1) in
      let i : (b ≡ f) × (x ≡ y) = operand_once b f x y (ends_follows x p) (ends_follows y q) (tails h.1) in
      (let h0 = h.0 in let i0 = i.0 in cc, i.1))
  term_once (Joined op a b) (Chosen g d f) x y p q e = absurd (let h : (a ≡ g) × (Word (two_word op) ∷ (operand_tokens b ++ x) ≡ Word (codes "?") ∷ (operand_tokens d ++ (Word (codes ":") ∷ (operand_tokens f ++ y)))) = operand_once a g (Word (two_word op) ∷ (operand_tokens b ++ x)) (Word (codes "?") ∷ (operand_tokens d ++ (Word (codes ":") ∷ (operand_tokens f ++ y)))) (two_follows op ((operand_tokens b ++ x))) (word_here (codes "?") ((operand_tokens d ++ (Word (codes ":") ∷ (operand_tokens f ++ y)))) refl) (sym (joined_at op a b x) ∙ (e ∙ chosen_at g d f y)) in two_not (codes "?") question_no_two op (heads h.1))
  term_once (Chosen c a b) (Plain d) x y p q e = absurd (let h : (c ≡ d) × (Word (codes "?") ∷ (operand_tokens a ++ (Word (codes ":") ∷ (operand_tokens b ++ x))) ≡ y) = operand_once c d (Word (codes "?") ∷ (operand_tokens a ++ (Word (codes ":") ∷ (operand_tokens b ++ x)))) (y) (word_here (codes "?") ((operand_tokens a ++ (Word (codes ":") ∷ (operand_tokens b ++ x)))) refl) (ends_follows y q) (sym (chosen_at c a b x) ∙ e) in no_question y (operand_tokens a ++ (Word (codes ":") ∷ (operand_tokens b ++ x))) q (sym h.1))
  term_once (Chosen c a b) (Prefixed or d) x y p q e = absurd (unary_one or c (Word (codes "?") ∷ (operand_tokens a ++ (Word (codes ":") ∷ (operand_tokens b ++ x)))) (operand_tokens d ++ y) (sym (sym (chosen_at c a b x) ∙ e)))
  term_once (Chosen c a b) (Joined or d f) x y p q e = absurd (let h : (c ≡ d) × (Word (codes "?") ∷ (operand_tokens a ++ (Word (codes ":") ∷ (operand_tokens b ++ x))) ≡ Word (two_word or) ∷ (operand_tokens f ++ y)) = operand_once c d (Word (codes "?") ∷ (operand_tokens a ++ (Word (codes ":") ∷ (operand_tokens b ++ x)))) (Word (two_word or) ∷ (operand_tokens f ++ y)) (word_here (codes "?") ((operand_tokens a ++ (Word (codes ":") ∷ (operand_tokens b ++ x)))) refl) (two_follows or ((operand_tokens f ++ y))) (sym (chosen_at c a b x) ∙ (e ∙ joined_at or d f y)) in two_not (codes "?") question_no_two or (sym (heads h.1)))
  term_once (Chosen c a b) (Chosen g d f) x y p q e =
      (let h : (c ≡ g) × (Word (codes "?") ∷ (operand_tokens a ++ (Word (codes ":") ∷ (operand_tokens b ++ x))) ≡ Word (codes "?") ∷ (operand_tokens d ++ (Word (codes ":") ∷ (operand_tokens f ++ y)))) = operand_once c g (Word (codes "?") ∷ (operand_tokens a ++ (Word (codes ":") ∷ (operand_tokens b ++ x)))) (Word (codes "?") ∷ (operand_tokens d ++ (Word (codes ":") ∷ (operand_tokens f ++ y)))) (word_here (codes "?") ((operand_tokens a ++ (Word (codes ":") ∷ (operand_tokens b ++ x)))) refl) (word_here (codes "?") ((operand_tokens d ++ (Word (codes ":") ∷ (operand_tokens f ++ y)))) refl) (sym (chosen_at c a b x) ∙ (e ∙ chosen_at g d f y)) in
      let i : (a ≡ d) × (Word (codes ":") ∷ (operand_tokens b ++ x) ≡ Word (codes ":") ∷ (operand_tokens f ++ y)) = operand_once a d (Word (codes ":") ∷ (operand_tokens b ++ x)) (Word (codes ":") ∷ (operand_tokens f ++ y)) (word_here (codes ":") (operand_tokens b ++ x) refl) (word_here (codes ":") (operand_tokens f ++ y) refl) (tails h.1) in
      let j : (b ≡ f) × (x ≡ y) = operand_once b f x y (ends_follows x p) (ends_follows y q) (tails i.1) in
      (let h0 = h.0 in let i0 = i.0 in let j0 = j.0 in cc, j.1))

-- a range and a name
width_once : (w v : ℕ) (n m : List ℕ) (x y : List Token) → 1 ≤ w → 1 ≤ v → range_tokens w ++ (Name n ∷ x) ≡ range_tokens v ++ (Name m ∷ y) → (w ≡ v) × (n ≡ m) × (x ≡ y)
width_once w v n m x y p q e = go (w == 1) (v == 1) refl refl e
  where
    range : ℕ → Bool → List Token
    range k b = if b then [] else Word (codes "[") ∷ Number (k - 1) ∷ Word (codes ":") ∷ Number 0 ∷ Word (codes "]") ∷ []

    less : (a b : ℕ) → 1 ≤ a → 1 ≤ b → a - 1 ≡ b - 1 → a ≡ b
    less a b p q e = omega arith

    go : (a b : Bool) → w == 1 ≡ a → v == 1 ≡ b → (if a then [] else Word (codes "[") ∷ Number (w - 1) ∷ Word (codes ":") ∷ Number 0 ∷ Word (codes "]") ∷ []) ++ (Name n ∷ x)
        ≡ (if b then [] else Word (codes "[") ∷ Number (v - 1) ∷ Word (codes ":") ∷ Number 0 ∷ Word (codes "]") ∷ []) ++ (Name m ∷ y) → (w ≡ v) × (n ≡ m) × (x ≡ y)
    go true true a b e = (exact_unsigned_eq w 1 a ∙ sym (exact_unsigned_eq v 1 b), cc, cc)
    go true false a b e = cc
    go false true a b e = cc
    go false false a b e =
        let f : w - 1 ≡ v - 1 = cc in
        (less w v p q f, cc, cc)

edge_once : (a b : Bool) → Word (edge_word a) ≡ Word (edge_word b) → a ≡ b
edge_once true true e = refl
edge_once true false e = absurd (words_apart (codes "negedge") (codes "posedge") refl e)
edge_once false true e = absurd (words_apart (codes "posedge") (codes "negedge") refl e)
edge_once false false e = refl

negation_once : (a b : Bool) (n m : List ℕ) (x y : List Token) → negation a ++ (Name n ∷ x) ≡ negation b ++ (Name m ∷ y) → (a ≡ b) × (n ≡ m) × (x ≡ y)
negation_once true true n m x y e = (refl, cc, cc)
negation_once true false n m x y e = cc
negation_once false true n m x y e = cc
negation_once false false n m x y e = (refl, cc, cc)

stmt_first : (s : Statement) (more x y : List Token) → Word (codes "endmodule") ∷ y ≡ (stmt_tokens s ++ more) ++ x → ⊥
stmt_first (Assign to e) more x y q = words_apart (codes "endmodule") (codes "assign") refl (heads q)
stmt_first (Clocked c to e) more x y q = words_apart (codes "endmodule") (codes "always") refl (heads q)
stmt_first (Resettable c low reset negated test to width value again e) more x y q = words_apart (codes "endmodule") (codes "always") refl (heads q)

stmt_at_assign : (to : List ℕ) (e : Term) (x : List Token) → stmt_tokens (Assign to e) ++ x ≡ Word (codes "assign") ∷ Name to ∷ Word (codes "=") ∷ (term_tokens e ++ (Word (codes ";") ∷ x))
stmt_at_assign to e x = ap (λ z. Word (codes "assign") ∷ Name to ∷ Word (codes "=") ∷ z) (append_assoc (term_tokens e) (Word (codes ";") ∷ []) x)

stmt_once : (s u : Statement) (x y : List Token) → stmt_tokens s ++ x ≡ stmt_tokens u ++ y → (s ≡ u) × (x ≡ y)
stmt_once (Assign to e) (Assign to' e') x y q =
    let f : term_tokens e ++ (Word (codes ";") ∷ x) ≡ term_tokens e' ++ (Word (codes ";") ∷ y) =
    sym (append_assoc (term_tokens e) (Word (codes ";") ∷ []) x) ∙ (tails (tails (tails q)) ∙ append_assoc (term_tokens e') (Word (codes ";") ∷ []) y) in
    let h : (e ≡ e') × (Word (codes ";") ∷ x ≡ Word (codes ";") ∷ y) = term_once e e' (Word (codes ";") ∷ x) (Word (codes ";") ∷ y) (semicolon_ends x) (semicolon_ends y) f in
    let n : Name to ≡ Name to' = heads (tails q) in
    (let h0 = h.0 in cc, tails h.1)
stmt_once (Assign to e) (Clocked c to' e') x y q = absurd (words_apart (codes "assign") (codes "always") refl (heads q))
stmt_once (Assign to e) (Resettable c low reset negated test to' width value again e') x y q = absurd (words_apart (codes "assign") (codes "always") refl (heads q))
stmt_once (Clocked c to e) (Assign to' e') x y q = absurd (words_apart (codes "always") (codes "assign") refl (heads q))
stmt_once (Resettable c low reset negated test to width value again e) (Assign to' e') x y q = absurd (words_apart (codes "always") (codes "assign") refl (heads q))
stmt_once (Clocked c to e) (Resettable c' low reset negated test to' width value again e') x y q = absurd (words_apart (codes ")") (codes "or") refl (heads (tails (tails (tails (tails (tails q)))))))
stmt_once (Resettable c low reset negated test to width value again e) (Clocked c' to' e') x y q = absurd (words_apart (codes "or") (codes ")") refl (heads (tails (tails (tails (tails (tails q)))))))
stmt_once (Clocked c to e) (Clocked c' to' e') x y q =
    let t6 = tails (tails (tails (tails (tails (tails q))))) in
    let f : term_tokens e ++ (Word (codes ";") ∷ x) ≡ term_tokens e' ++ (Word (codes ";") ∷ y) =
    sym (append_assoc (term_tokens e) (Word (codes ";") ∷ []) x) ∙ (tails (tails t6) ∙ append_assoc (term_tokens e') (Word (codes ";") ∷ []) y) in
    let h : (e ≡ e') × (Word (codes ";") ∷ x ≡ Word (codes ";") ∷ y) = term_once e e' (Word (codes ";") ∷ x) (Word (codes ";") ∷ y) (semicolon_ends x) (semicolon_ends y) f in
    let n : Name c ≡ Name c' = heads (tails (tails (tails (tails q)))) in
    let m : Name to ≡ Name to' = heads t6 in
    (let h0 = h.0 in cc, tails h.1)
stmt_once (Resettable c low reset negated test to width value again e) (Resettable c' low' reset' negated' test' to' width' value' again' e') x y q =
    let t5 = tails (tails (tails (tails (tails q)))) in
    let n1 : Name c ≡ Name c' = heads (tails (tails (tails (tails q)))) in
    let l : low ≡ low' = edge_once low low' (heads (tails t5)) in
    let n2 : Name reset ≡ Name reset' = heads (tails (tails t5)) in
    let t11 = tails (tails (tails (tails (tails (tails t5))))) in
    let g = negation_once negated negated' test test' ((Word (codes ")") ∷ Name to ∷ Word (codes "<=") ∷ Const width value ∷ Word (codes ";") ∷ Word (codes "else") ∷ Name again ∷ Word (codes "<=") ∷ (term_tokens e ++ Word (codes ";") ∷ [])) ++ x) ((Word (codes ")") ∷ Name to' ∷ Word (codes "<=") ∷ Const width' value' ∷ Word (codes ";") ∷ Word (codes "else") ∷ Name again' ∷ Word (codes "<=") ∷ (term_tokens e' ++ Word (codes ";") ∷ [])) ++ y)
    (sym (append_assoc (negation negated) (Name test ∷ Word (codes ")") ∷ Name to ∷ Word (codes "<=") ∷ Const width value ∷ Word (codes ";") ∷ Word (codes "else") ∷ Name again ∷ Word (codes "<=") ∷ (term_tokens e ++ Word (codes ";") ∷ [])) x) ∙ (t11 ∙ append_assoc (negation negated') (Name test' ∷ Word (codes ")") ∷ Name to' ∷ Word (codes "<=") ∷ Const width' value' ∷ Word (codes ";") ∷ Word (codes "else") ∷ Name again' ∷ Word (codes "<=") ∷ (term_tokens e' ++ Word (codes ";") ∷ [])) y)) in
    let g0 : negated ≡ negated' = g.0 in
    let g1 : test ≡ test' = g.1 in
    let r = tails g.2 in
    let n3 : Name to ≡ Name to' = heads r in
    let n4 : Const width value ≡ Const width' value' = heads (tails (tails r)) in
    let r5 = tails (tails (tails (tails (tails r)))) in
    let n5 : Name again ≡ Name again' = heads r5 in
    let f : term_tokens e ++ (Word (codes ";") ∷ x) ≡ term_tokens e' ++ (Word (codes ";") ∷ y) =
    sym (append_assoc (term_tokens e) (Word (codes ";") ∷ []) x) ∙ (tails (tails r5) ∙ append_assoc (term_tokens e') (Word (codes ";") ∷ []) y) in
    let h : (e ≡ e') × (Word (codes ";") ∷ x ≡ Word (codes ";") ∷ y) = term_once e e' (Word (codes ";") ∷ x) (Word (codes ";") ∷ y) (semicolon_ends x) (semicolon_ends y) f in
    (let h0 = h.0 in cc, tails h.1)

stmts_once : (ss us : List Statement) (x y : List Token) → stmts_tokens ss ++ (Word (codes "endmodule") ∷ x) ≡ stmts_tokens us ++ (Word (codes "endmodule") ∷ y) → ss ≡ us
stmts_once [] [] x y e = refl
stmts_once [] (u ∷ us) x y e = absurd (stmt_first u (stmts_tokens us) (Word (codes "endmodule") ∷ y) x e)
stmts_once (s ∷ ss) [] x y e = absurd (stmt_first s (stmts_tokens ss) (Word (codes "endmodule") ∷ x) y (sym e))
stmts_once (s ∷ ss) (u ∷ us) x y e =
    let h : (s ≡ u) × (stmts_tokens ss ++ (Word (codes "endmodule") ∷ x) ≡ stmts_tokens us ++ (Word (codes "endmodule") ∷ y)) =
    stmt_once s u (stmts_tokens ss ++ (Word (codes "endmodule") ∷ x)) (stmts_tokens us ++ (Word (codes "endmodule") ∷ y))
    (sym (append_assoc (stmt_tokens s) (stmts_tokens ss) (Word (codes "endmodule") ∷ x)) ∙ (e ∙ append_assoc (stmt_tokens u) (stmts_tokens us) (Word (codes "endmodule") ∷ y))) in
    let i : ss ≡ us = stmts_once ss us x y h.1 in
    let h0 = h.0 in cc

-- what follows the declarations begins none
data NoDecl : List Token → Type 0 where
  no_decl : (w : List ℕ) (ts : List Token) → bytes_eq (codes "reg") w ≡ false → bytes_eq (codes "wire") w ≡ false → NoDecl (Word w ∷ ts)

decl_no : (r : Bool) (ts : List Token) (x : List Token) → NoDecl x → x ≡ Word (decl_word r) ∷ ts → ⊥
decl_no true ts _ (no_decl w us a b) e = words_apart (codes "reg") w a (sym (heads e))
decl_no false ts _ (no_decl w us a b) e = words_apart (codes "wire") w b (sym (heads e))

decl_word_once : (a b : Bool) → Word (decl_word a) ≡ Word (decl_word b) → a ≡ b
decl_word_once true true e = refl
decl_word_once true false e = absurd (words_apart (codes "reg") (codes "wire") refl e)
decl_word_once false true e = absurd (words_apart (codes "wire") (codes "reg") refl e)
decl_word_once false false e = refl

at_least : (w : ℕ) → nat_le 1 w ≡ true → 1 ≤ w
at_least w h = grind (arith, nat_tests)

decl_is : (d b : Decl) → d.reg ≡ b.reg → d.name ≡ b.name → d.width ≡ b.width → d ≡ b
decl_is d b r n w =
    let F : Bool → Decl = λ z. record { reg = z; name = d.name; width = d.width } in
    let G : List ℕ → Decl = λ z. record { reg = b.reg; name = z; width = d.width } in
    let H : ℕ → Decl = λ z. record { reg = b.reg; name = b.name; width = z } in
    ap F r ∙ (ap G n ∙ ap H w)

port_is : (d b : Port) → d.dir ≡ b.dir → d.name ≡ b.name → d.width ≡ b.width → d ≡ b
port_is d b r n w =
    let F : Dir → Port = λ z. record { dir = z; name = d.name; width = d.width } in
    let G : List ℕ → Port = λ z. record { dir = b.dir; name = z; width = d.width } in
    let H : ℕ → Port = λ z. record { dir = b.dir; name = b.name; width = z } in
    ap F r ∙ (ap G n ∙ ap H w)

dir_once : (a b : Dir) → Word (dir_word a) ≡ Word (dir_word b) → a ≡ b
dir_once In In e = refl
dir_once In Out e = absurd (words_apart (codes "input") (codes "output") refl e)
dir_once Out In e = absurd (words_apart (codes "output") (codes "input") refl e)
dir_once Out Out e = refl

port_at : (p : Port) (x : List Token) → port_tokens p ++ x ≡ Word (dir_word p.dir) ∷ (range_tokens p.width ++ (Name p.name ∷ x))
port_at p x = ap (λ z. Word (dir_word p.dir) ∷ z) (append_assoc (range_tokens p.width) (Name p.name ∷ []) x)

port_once : (p q : Port) (x y : List Token) → 1 ≤ p.width → 1 ≤ q.width → port_tokens p ++ x ≡ port_tokens q ++ y → (p ≡ q) × (x ≡ y)
port_once p q x y v w e =
    let f = sym (port_at p x) ∙ (e ∙ port_at q y) in
    let g = width_once p.width q.width p.name q.name x y v w (tails f) in
    (port_is p q (dir_once p.dir q.dir (heads f)) g.1 g.0, g.2)

widths_head : (p : Port) (ps : List Port) → port_widths (p ∷ ps) ≡ true → 1 ≤ p.width
widths_head p ps v = at_least p.width (and-left (nat_le 1 p.width) (nat_le p.width 128) (and-left (nat_le 1 p.width && nat_le p.width 128) (port_widths ps) v))

widths_tail : (p : Port) (ps : List Port) → port_widths (p ∷ ps) ≡ true → port_widths ps ≡ true
widths_tail p ps v = and-right (nat_le 1 p.width && nat_le p.width 128) (port_widths ps) v

ports_once : (ps qs : List Port) (x y : List Token) → 0 < length ps → 0 < length qs → port_widths ps ≡ true → port_widths qs ≡ true
    → ports_tokens ps ++ (Word (codes ")") ∷ x) ≡ ports_tokens qs ++ (Word (codes ")") ∷ y) → (ps ≡ qs) × (x ≡ y)
ports_once [] qs x y a b v w e = absurd (omega (arith, a))
ports_once (p ∷ ps) [] x y a b v w e = absurd (omega (arith, b))
ports_once (p ∷ []) (q ∷ []) x y a b v w e =
    let h = port_once p q (Word (codes ")") ∷ x) (Word (codes ")") ∷ y) (widths_head p [] v) (widths_head q [] w) e in
    (ap (λ z. z ∷ []) h.0, tails h.1)
ports_once (p ∷ []) (q ∷ r ∷ qs) x y a b v w e =
    let h = port_once p q (Word (codes ")") ∷ x) (Word (codes ",") ∷ (ports_tokens (r ∷ qs) ++ (Word (codes ")") ∷ y))) (widths_head p [] v) (widths_head q (r ∷ qs) w)
    (e ∙ append_assoc (port_tokens q) (Word (codes ",") ∷ ports_tokens (r ∷ qs)) (Word (codes ")") ∷ y)) in
    absurd (words_apart (codes ")") (codes ",") refl (heads h.1))
ports_once (p ∷ o ∷ ps) (q ∷ []) x y a b v w e =
    let h = port_once p q (Word (codes ",") ∷ (ports_tokens (o ∷ ps) ++ (Word (codes ")") ∷ x))) (Word (codes ")") ∷ y) (widths_head p (o ∷ ps) v) (widths_head q [] w)
    (sym (append_assoc (port_tokens p) (Word (codes ",") ∷ ports_tokens (o ∷ ps)) (Word (codes ")") ∷ x)) ∙ e) in
    absurd (words_apart (codes ",") (codes ")") refl (heads h.1))
ports_once (p ∷ o ∷ ps) (q ∷ r ∷ qs) x y a b v w e =
    let h = port_once p q (Word (codes ",") ∷ (ports_tokens (o ∷ ps) ++ (Word (codes ")") ∷ x))) (Word (codes ",") ∷ (ports_tokens (r ∷ qs) ++ (Word (codes ")") ∷ y))) (widths_head p (o ∷ ps) v) (widths_head q (r ∷ qs) w)
    (sym (append_assoc (port_tokens p) (Word (codes ",") ∷ ports_tokens (o ∷ ps)) (Word (codes ")") ∷ x)) ∙ (e ∙ append_assoc (port_tokens q) (Word (codes ",") ∷ ports_tokens (r ∷ qs)) (Word (codes ")") ∷ y))) in
    let i = ports_once (o ∷ ps) (r ∷ qs) x y (omega arith) (omega arith) (widths_tail p (o ∷ ps) v) (widths_tail q (r ∷ qs) w) (tails h.1) in
    (ap (λ z. z ∷ (o ∷ ps)) h.0 ∙ ap (λ z. q ∷ z) i.0, i.1)

decl_at : (d : Decl) (ds : List Decl) (x : List Token) → decls_tokens (d ∷ ds) ++ x ≡ Word (decl_word d.reg) ∷ (range_tokens d.width ++ (Name d.name ∷ (Word (codes ";") ∷ (decls_tokens ds ++ x))))
decl_at d ds x = ap (λ z. Word (decl_word d.reg) ∷ z) (append_assoc (range_tokens d.width) (Name d.name ∷ Word (codes ";") ∷ decls_tokens ds) x)

decls_once : (ds es : List Decl) (x y : List Token) → decl_widths ds ≡ true → decl_widths es ≡ true → NoDecl x → NoDecl y → decls_tokens ds ++ x ≡ decls_tokens es ++ y → (ds ≡ es) × (x ≡ y)
decls_once [] [] x y v w p q e = (refl, e)
decls_once [] (d ∷ ds) x y v w p q e = absurd (decl_no d.reg (range_tokens d.width ++ (Name d.name ∷ (Word (codes ";") ∷ (decls_tokens ds ++ y)))) x p (e ∙ decl_at d ds y))
decls_once (d ∷ ds) [] x y v w p q e = absurd (decl_no d.reg (range_tokens d.width ++ (Name d.name ∷ (Word (codes ";") ∷ (decls_tokens ds ++ x)))) y q (sym e ∙ decl_at d ds x))
decls_once (d ∷ ds) (b ∷ bs) x y v w p q e =
    let f = sym (decl_at d ds x) ∙ (e ∙ decl_at b bs y) in
    let r : d.reg ≡ b.reg = decl_word_once d.reg b.reg (heads f) in
    let g = width_once d.width b.width d.name b.name (Word (codes ";") ∷ (decls_tokens ds ++ x)) (Word (codes ";") ∷ (decls_tokens bs ++ y))
    (at_least d.width (and-left (nat_le 1 d.width) (nat_le d.width 128) (and-left (nat_le 1 d.width && nat_le d.width 128) (decl_widths ds) v)))
    (at_least b.width (and-left (nat_le 1 b.width) (nat_le b.width 128) (and-left (nat_le 1 b.width && nat_le b.width 128) (decl_widths bs) w))) (tails f) in
    let h : (ds ≡ bs) × (x ≡ y) = decls_once ds bs x y (and-right (nat_le 1 d.width && nat_le d.width 128) (decl_widths ds) v) (and-right (nat_le 1 b.width && nat_le b.width 128) (decl_widths bs) w) p q (tails g.2) in
    let k : d ≡ b = decl_is d b r g.1 g.0 in
    (ap (λ z. z ∷ ds) k ∙ ap (λ z. b ∷ z) h.0, h.1)

stmts_no_decl : (ss : List Statement) (x : List Token) → NoDecl (stmts_tokens ss ++ (Word (codes "endmodule") ∷ x))
stmts_no_decl [] x = no_decl (codes "endmodule") x refl refl
stmts_no_decl (Assign to e ∷ ss) x = no_decl (codes "assign") _ refl refl
stmts_no_decl (Clocked c to e ∷ ss) x = no_decl (codes "always") _ refl refl
stmts_no_decl (Resettable c low reset negated test to width value again e ∷ ss) x = no_decl (codes "always") _ refl refl

tree_is : (t u : Tree) → t.name ≡ u.name → t.ports ≡ u.ports → t.decls ≡ u.decls → t.stmts ≡ u.stmts → t ≡ u
tree_is t u n p d s =
    let F : List ℕ → Tree = λ z. record { name = z; ports = t.ports; decls = t.decls; stmts = t.stmts } in
    let G : List Port → Tree = λ z. record { name = u.name; ports = z; decls = t.decls; stmts = t.stmts } in
    let H : List Decl → Tree = λ z. record { name = u.name; ports = u.ports; decls = z; stmts = t.stmts } in
    let K : List Statement → Tree = λ z. record { name = u.name; ports = u.ports; decls = u.decls; stmts = z } in
    ap F n ∙ (ap G p ∙ (ap H d ∙ ap K s))

tokens_once : (bytes : List ℕ) (ts us : List Token) → Spells bytes ts → Spells bytes us → ts ≡ us
tokens_once bytes ts us p q = sym p.2 ∙ (ap spelling.tokens_of (spells_once verilog bytes p.0 q.0 p.1 q.1) ∙ q.2)

-- Bytes are at most one module tree.
pub tree_once : (bytes : List ℕ) (t u : Tree) → IsTree bytes t → IsTree bytes u → t ≡ u
tree_once bytes t u a b =
    let e : tokens_of t ≡ tokens_of u = tokens_once bytes (tokens_of t) (tokens_of u) a.spelled b.spelled in
    let n1 : Name t.name ≡ Name u.name = heads (tails e) in
    let n : t.name ≡ u.name = cc in
    let p = ports_once t.ports u.ports (Word (codes ";") ∷ (decls_tokens t.decls ++ (stmts_tokens t.stmts ++ Word (codes "endmodule") ∷ []))) (Word (codes ";") ∷ (decls_tokens u.decls ++ (stmts_tokens u.stmts ++ Word (codes "endmodule") ∷ [])))
    a.ported b.ported (and-left (port_widths t.ports) (decl_widths t.decls) a.ranges) (and-left (port_widths u.ports) (decl_widths u.decls) b.ranges) (tails (tails (tails e))) in
    let d = decls_once t.decls u.decls (stmts_tokens t.stmts ++ Word (codes "endmodule") ∷ []) (stmts_tokens u.stmts ++ Word (codes "endmodule") ∷ [])
    (and-right (port_widths t.ports) (decl_widths t.decls) a.ranges) (and-right (port_widths u.ports) (decl_widths u.decls) b.ranges) (stmts_no_decl t.stmts []) (stmts_no_decl u.stmts []) (tails p.1) in
    let s : t.stmts ≡ u.stmts = stmts_once t.stmts u.stmts [] [] d.1 in
    tree_is t u n p.0 d.0 s
