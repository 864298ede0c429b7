-- Operators that come next.
use Rattle.std.specs.Str.{bytes_eq}
use Rattle.std.specs.Cmp.Lexicographic.{bytes_decides}
use Rattle.std.proofs.Common.{◌≡◌, ℕ, Bool, true, false, cond, Option, Some, None, List, [], ◌∷◌, codes, refl, ap, sym, ◌∙◌, subst}
use Rattle.rb_grammar.specs.Spelling.{At}
use Rattle.rb_grammar.specs.Forms.{Form, Non, Opt, ◌or◌, ◌then◌}
use Rattle.rb_grammar.specs.Readings.{at, Takes, Misses, Same}
use Rattle.rb_grammar.proofs.Following.{◌⟫◌}
use Rattle.rb_grammar.proofs.Barring.{Here, Without, AreOff}
use Rattle.rb_grammar.proofs.Steps.{entering, taking, opening, staying, seen}
use Rattle.v_design.specs.Lexemes.{Token, Word, Name, Number, Const}
use Rattle.v_design.specs.Tree.{one_word, two_word}
use Rattle.v_design.specs.declared.design.VOne.{VOne}
use Rattle.v_design.specs.declared.design.VOne.TheVariants.{Not, All, Any, Odd}
use Rattle.v_design.specs.declared.design.VTwo.{VTwo}
use Rattle.v_design.specs.declared.design.VTwo.TheVariants.{Add, Sub, And, Or, Xor, Eq, Ne, Lt, Le, Gt, Ge}
use Rattle.v_syntax.specs.Grammar.{Terminal, Quoted, is, Rule, Expr, Prefix, Infix, Operand, quoted, grammar}
use Rattle.v_parser.specs.Reading.{Spans, one_of, two_of, one_in, two_in, next_one, next_two, IsPrefix, IsInfix, NoPrefix, NoInfix, after_expr}
use Rattle.v_parser.proofs.Firsts.{table, right, prefixes, infixes}
use Rattle.v_parser.proofs.Walking.{Tokens}

found : {X : Type 0} (spelled : X → List ℕ) (w v : List ℕ) (m n : X) (o : Option X) → v ≡ spelled m → cond (bytes_eq w v) (Some m) o ≡ Some n → (o ≡ Some n → w ≡ spelled n) → w ≡ spelled n
found {X} spelled w v m n o s h g = go (bytes_eq w v) refl h
  where
    go : (b : Bool) → bytes_eq w v ≡ b → cond b (Some m) o ≡ Some n → w ≡ spelled n
    go true e h = let same : m ≡ n = cc in (bytes_decides w v).0 e ∙ (s ∙ ap spelled same)
    go false e h = g h

one_is : (w : List ℕ) (op : VOne) → one_of w ≡ Some op → w ≡ one_word op
one_is w op h =
    found one_word w (codes "~") Not op _ refl h (λ h. found one_word w (codes "&") All op _ refl h (λ h. found one_word w (codes "|") Any op _ refl h (λ h. found one_word w (codes "^") Odd op None refl h (λ h. cc))))

two_is : (w : List ℕ) (op : VTwo) → two_of w ≡ Some op → w ≡ two_word op
two_is w op h =
    found two_word w (codes "+") Add op _ refl h (λ h. found two_word w (codes "-") Sub op _ refl h (λ h. found two_word w (codes "&") And op _ refl h (λ h. found two_word w (codes "|") Or op _ refl h
    (λ h. found two_word w (codes "^") Xor op _ refl h (λ h. found two_word w (codes "==") Eq op _ refl h (λ h. found two_word w (codes "!=") Ne op _ refl h (λ h. found two_word w (codes "<") Lt op _ refl h
    (λ h. found two_word w (codes "<=") Le op _ refl h (λ h. found two_word w (codes ">") Gt op _ refl h (λ h. found two_word w (codes ">=") Ge op None refl h (λ h. cc)))))))))))

one_token : (t : Token) (op : VOne) → one_in t ≡ Some op → t ≡ Word (one_word op)
one_token (Word w) op h = ap Word (one_is w op h)
one_token (Name n) op h = cc
one_token (Number n) op h = cc
one_token (Const w v) op h = cc

two_token : (t : Token) (op : VTwo) → two_in t ≡ Some op → t ≡ Word (two_word op)
two_token (Word w) op h = ap Word (two_is w op h)
two_token (Name n) op h = cc
two_token (Number n) op h = cc
two_token (Const w v) op h = cc

takes_word : (text : List ℕ) (t : At Token) (ts us : Tokens) → ts ≡ t ∷ us → t.token ≡ Word text → Takes grammar (Quoted text) ts t us
takes_word text t ts us e f = record { list = e; token = ap (is (Quoted text)) f ∙ (bytes_decides text text).1 refl }

pub prefix_taken : {ts us : Tokens} (op : VOne) → (p : IsPrefix ts us op) → Takes grammar (Quoted (one_word op)) ts p.1 us
prefix_taken {ts = ts} {us = us} op p = takes_word (one_word op) p.1 ts us p.2 (one_token p.1.token op (sym (ap next_one p.2) ∙ p.0))

pub infix_taken : {ts us : Tokens} (op : VTwo) → (p : IsInfix ts us op) → Takes grammar (Quoted (two_word op)) ts p.1 us
infix_taken {ts = ts} {us = us} op p = takes_word (two_word op) p.1 ts us p.2 (two_token p.1.token op (sym (ap next_two p.2) ∙ p.0))

pub prefix_spans : {ts us : Tokens} (op : VOne) → IsPrefix ts us op → Spans ts us (Word (one_word op) ∷ [])
prefix_spans op p = record { front = p.1 ∷ []; list = p.2; are = ap (λ z. z ∷ []) (one_token p.1.token op (sym (ap next_one p.2) ∙ p.0)) }

pub infix_spans : {ts us : Tokens} (op : VTwo) → IsInfix ts us op → Spans ts us (Word (two_word op) ∷ [])
infix_spans op p = record { front = p.1 ∷ []; list = p.2; are = ap (λ z. z ∷ []) (two_token p.1.token op (sym (ap next_two p.2) ∙ p.0)) }

-- An operator before an operand.

abbrev pub prefixed : Form Terminal Rule
prefixed = Non Prefix then Non Operand

by_prefix : {ts us : Tokens} {t : At Token} (op : VOne) → Takes grammar (Quoted (one_word op)) ts t us → Same grammar after_expr (Non Expr ∷ []) ts (Non Operand ∷ []) us
by_prefix Not k = entering ⟫ opening right (Here (Quoted (codes "~"))) refl (seen k) ⟫ entering ⟫ taking right k refl
by_prefix All k = entering ⟫ opening right (Here (Quoted (codes "&"))) refl (seen k) ⟫ entering ⟫ taking right k refl
by_prefix Any k = entering ⟫ opening right (Here (Quoted (codes "|"))) refl (seen k) ⟫ entering ⟫ taking right k refl
by_prefix Odd k = entering ⟫ opening right (Here (Quoted (codes "^"))) refl (seen k) ⟫ entering ⟫ taking right k refl

pub prefix_step : {ts us : Tokens} (op : VOne) → IsPrefix ts us op → Same grammar after_expr (Non Expr ∷ []) ts (Non Operand ∷ []) us
prefix_step op p = by_prefix op (prefix_taken op p)

-- An operator between operands.

abbrev pub behind_first : Form Terminal Rule
behind_first = Opt (Non Infix then Non Operand or quoted "?" then Non Operand then quoted ":" then Non Operand)

by_infix : {ts us : Tokens} {t : At Token} (op : VTwo) → Takes grammar (Quoted (two_word op)) ts t us → Same grammar after_expr (behind_first ∷ []) ts (Non Operand ∷ []) us
by_infix Add k = opening right (Here (Quoted (codes "+"))) refl (seen k) ⟫ entering ⟫ taking right k refl
by_infix Sub k = opening right (Here (Quoted (codes "-"))) refl (seen k) ⟫ entering ⟫ taking right k refl
by_infix And k = opening right (Here (Quoted (codes "&"))) refl (seen k) ⟫ entering ⟫ taking right k refl
by_infix Or k = opening right (Here (Quoted (codes "|"))) refl (seen k) ⟫ entering ⟫ taking right k refl
by_infix Xor k = opening right (Here (Quoted (codes "^"))) refl (seen k) ⟫ entering ⟫ taking right k refl
by_infix Eq k = opening right (Here (Quoted (codes "=="))) refl (seen k) ⟫ entering ⟫ taking right k refl
by_infix Ne k = opening right (Here (Quoted (codes "!="))) refl (seen k) ⟫ entering ⟫ taking right k refl
by_infix Lt k = opening right (Here (Quoted (codes "<"))) refl (seen k) ⟫ entering ⟫ taking right k refl
by_infix Le k = opening right (Here (Quoted (codes "<="))) refl (seen k) ⟫ entering ⟫ taking right k refl
by_infix Gt k = opening right (Here (Quoted (codes ">"))) refl (seen k) ⟫ entering ⟫ taking right k refl
by_infix Ge k = opening right (Here (Quoted (codes ">="))) refl (seen k) ⟫ entering ⟫ taking right k refl

pub infix_step : {ts us : Tokens} (op : VTwo) → IsInfix ts us op → Same grammar after_expr (behind_first ∷ []) ts (Non Operand ∷ []) us
infix_step op p = by_infix op (infix_taken op p)

-- No operator.

missed : {X : Type 0} (w v : List ℕ) (m : X) (o : Option X) → cond (bytes_eq w v) (Some m) o ≡ None → (bytes_eq w v ≡ false) × (o ≡ None)
missed w v m o h = go (bytes_eq w v) h
  where
    go : (b : Bool) → cond b (Some m) o ≡ None → (b ≡ false) × (o ≡ None)
    go true h = cc
    go false h = (refl, h)

no_one : (t : Token) (us : Tokens) (place : ℕ) → one_in t ≡ None → AreOff grammar table right prefixes (record { token = t; place = place } ∷ us)
no_one (Word w) us place h =
    let a = missed w (codes "~") Not _ h in
    let b = missed w (codes "&") All _ a.1 in
    let c = missed w (codes "|") Any _ b.1 in
    let d = missed w (codes "^") Odd None c.1 in
    (a.0, (b.0, (c.0, (d.0, tt))))
no_one (Name n) us place h = (refl, (refl, (refl, (refl, tt))))
no_one (Number n) us place h = (refl, (refl, (refl, (refl, tt))))
no_one (Const w v) us place h = (refl, (refl, (refl, (refl, tt))))

pub no_prefix : (ts : Tokens) → next_one ts ≡ None → AreOff grammar table right prefixes ts
no_prefix [] h = (refl, (refl, (refl, (refl, tt))))
no_prefix (t ∷ ts) h = no_one t.token ts t.place h

no_two : (t : Token) (us : Tokens) (place : ℕ) → two_in t ≡ None → AreOff grammar table right infixes (record { token = t; place = place } ∷ us)
no_two (Word w) us place h =
    let a = missed w (codes "+") Add _ h in
    let b = missed w (codes "-") Sub _ a.1 in
    let c = missed w (codes "&") And _ b.1 in
    let d = missed w (codes "|") Or _ c.1 in
    let e = missed w (codes "^") Xor _ d.1 in
    let f = missed w (codes "==") Eq _ e.1 in
    let g = missed w (codes "!=") Ne _ f.1 in
    let i = missed w (codes "<") Lt _ g.1 in
    let j = missed w (codes "<=") Le _ i.1 in
    let k = missed w (codes ">") Gt _ j.1 in
    let l = missed w (codes ">=") Ge None k.1 in
    (a.0, (b.0, (c.0, (d.0, (e.0, (f.0, (g.0, (i.0, (j.0, (k.0, (l.0, tt)))))))))))
no_two (Name n) us place h = (refl, (refl, (refl, (refl, (refl, (refl, (refl, (refl, (refl, (refl, (refl, tt)))))))))))
no_two (Number n) us place h = (refl, (refl, (refl, (refl, (refl, (refl, (refl, (refl, (refl, (refl, (refl, tt)))))))))))
no_two (Const w v) us place h = (refl, (refl, (refl, (refl, (refl, (refl, (refl, (refl, (refl, (refl, (refl, tt)))))))))))

pub no_infix : (ts : Tokens) → next_two ts ≡ None → AreOff grammar table right infixes ts
no_infix [] h = (refl, (refl, (refl, (refl, (refl, (refl, (refl, (refl, (refl, (refl, (refl, tt)))))))))))
no_infix (t ∷ ts) h = no_two t.token ts t.place h

-- no operand stands behind the first
pub plain_step : {ts us vs : Tokens} → NoInfix ts us → Misses grammar (Quoted (codes "?")) us vs → Same grammar after_expr (behind_first ∷ []) ts [] vs
plain_step {ts = ts} n m = opening right (Without (Quoted (codes "?") ∷ infixes)) refl (subst (λ z. at grammar (Quoted (codes "?")) z ≡ false) n.1 m.token, no_infix ts n.0) ⟫ staying (m.list ∙ n.1)

-- no operator stands before the operand
pub operand_step : {ts us : Tokens} → NoPrefix ts us → Same grammar after_expr (Non Expr ∷ []) ts (Non Operand ∷ behind_first ∷ []) us
operand_step {ts = ts} n = entering ⟫ opening right (Without prefixes) refl (no_prefix ts n.0) ⟫ staying n.1

pub choice_step : {ts us vs : Tokens} {t : At Token} → NoInfix ts us → Takes grammar (Quoted (codes "?")) us t vs → Same grammar after_expr (behind_first ∷ []) ts (Non Operand ∷ (quoted ":" then Non Operand) ∷ []) vs
choice_step n k = staying n.1 ⟫ taking right k refl
