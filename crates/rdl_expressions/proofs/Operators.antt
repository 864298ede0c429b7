-- Operators: what they are in the grammar, and that operands are joined as tightly as they bind.
use Rattle.std.proofs.Common.{◌≡◌, ℕ, ◌+◌, ◌≤◌, true, None, Some, Result, Ok, Err, OnOk, List, [], ◌∷◌, slice_get, refl, ap, sym, ◌∙◌, subst, arith, inl, inr, lit≤}
use Rattle.std.proofs.lemmas.Bool.{both_ways, cases_Bool, cases_lt}
use Rattle.rb_base.specs.declared.place.Place.{Place}
use Rattle.rb_grammar.specs.declared.stop.Stop.{Stop}
use Rattle.rb_grammar.specs.Forms.{Non}
use Rattle.rb_grammar.specs.Readings.{at, Same}
use Rattle.rb_grammar.proofs.Following.{◌⟫◌}
use Rattle.rb_grammar.proofs.Barring.{Here, Without, AreOff}
use Rattle.rb_grammar.proofs.Steps.{entering, opening, taking, seen}
use Rattle.rdl_tree.specs.declared.expr.Expr.{Expr}
use Rattle.rdl_tree.specs.declared.expr.Expr.TheVariants as expr
use Rattle.rdl_tree.specs.declared.expr.Op.{Op}
use Rattle.rdl_tree.specs.declared.expr.Op.TheVariants as ops
use Rattle.rdl_tree.specs.declared.token.Mark.{Mark}
use Rattle.rdl_tree.specs.declared.token.Mark.TheVariants as marks
use Rattle.rdl_tree.specs.declared.token.Terminal.TheVariants as terminals
use Rattle.rdl_tree.specs.declared.token.Token.{Token}
use Rattle.rdl_tree.specs.declared.token.TokenKind.{TokenKind}
use Rattle.rdl_tree.specs.declared.token.TokenKind.TheVariants as kinds
use Rattle.rdl_tree.specs.Tokens.{same, terminal_of}
use Rattle.rdl_tree.proofs.Spellings.{one_mark}
use Rattle.rdl_tree.specs.Grammar.{Rule, grammar}
use Rattle.rdl_tree.specs.Grammar as rules
use Rattle.rdl_tree.specs.Tree.{IsMark, operator_of, level, DerivesBinary, operand, joined}
use Rattle.rdl_expressions.specs.Following.{after_binary, operands, operators, IsPair, TakesOperator, IsLooser}
use Rattle.rdl_expressions.proofs.Firsts.{table, right}

pub operator_step : {least : ℕ} {ts us : List Token} {op : Op} {place : Place} → TakesOperator least ts us op place → Same grammar after_binary (operands ∷ []) ts (Non rules.Prefix ∷ operands ∷ []) us
operator_step {ts = ts} {us = us} {op = op} h = go h.mark op h.is h.stands
  where
    go : (m : Mark) (o : Op) → operator_of m ≡ Some o → IsMark m ts h.token us → Same grammar after_binary (operands ∷ []) ts (Non rules.Prefix ∷ operands ∷ []) us
    go marks.OrOr o e i = opening right (Here (terminals.Mark marks.OrOr)) refl (seen i) ⟫ entering ⟫ taking right i refl
    go marks.AndAnd o e i = opening right (Here (terminals.Mark marks.AndAnd)) refl (seen i) ⟫ entering ⟫ taking right i refl
    go marks.Or o e i = opening right (Here (terminals.Mark marks.Or)) refl (seen i) ⟫ entering ⟫ taking right i refl
    go marks.Caret o e i = opening right (Here (terminals.Mark marks.Caret)) refl (seen i) ⟫ entering ⟫ taking right i refl
    go marks.And o e i = opening right (Here (terminals.Mark marks.And)) refl (seen i) ⟫ entering ⟫ taking right i refl
    go marks.EqualEqual o e i = opening right (Here (terminals.Mark marks.EqualEqual)) refl (seen i) ⟫ entering ⟫ taking right i refl
    go marks.NotEqual o e i = opening right (Here (terminals.Mark marks.NotEqual)) refl (seen i) ⟫ entering ⟫ taking right i refl
    go marks.Less o e i = opening right (Here (terminals.Mark marks.Less)) refl (seen i) ⟫ entering ⟫ taking right i refl
    go marks.LessEqual o e i = opening right (Here (terminals.Mark marks.LessEqual)) refl (seen i) ⟫ entering ⟫ taking right i refl
    go marks.Greater o e i = opening right (Here (terminals.Mark marks.Greater)) refl (seen i) ⟫ entering ⟫ taking right i refl
    go marks.GreaterEqual o e i = opening right (Here (terminals.Mark marks.GreaterEqual)) refl (seen i) ⟫ entering ⟫ taking right i refl
    go marks.ShiftLeft o e i = opening right (Here (terminals.Mark marks.ShiftLeft)) refl (seen i) ⟫ entering ⟫ taking right i refl
    go marks.ShiftRight o e i = opening right (Here (terminals.Mark marks.ShiftRight)) refl (seen i) ⟫ entering ⟫ taking right i refl
    go marks.Plus o e i = opening right (Here (terminals.Mark marks.Plus)) refl (seen i) ⟫ entering ⟫ taking right i refl
    go marks.Minus o e i = opening right (Here (terminals.Mark marks.Minus)) refl (seen i) ⟫ entering ⟫ taking right i refl
    go marks.Star o e i = opening right (Here (terminals.Mark marks.Star)) refl (seen i) ⟫ entering ⟫ taking right i refl
    go marks.Slash o e i = opening right (Here (terminals.Mark marks.Slash)) refl (seen i) ⟫ entering ⟫ taking right i refl
    go marks.Percent o e i = opening right (Here (terminals.Mark marks.Percent)) refl (seen i) ⟫ entering ⟫ taking right i refl
    go marks.StarStar o e i = opening right (Here (terminals.Mark marks.StarStar)) refl (seen i) ⟫ entering ⟫ taking right i refl
    go _ o e i = cc

no_operator : (ts : List Token) → IsLooser 0 ts → AreOff grammar table right operators ts
no_operator ts h = (h marks.OrOr ops.OrElse refl (omega arith), (h marks.AndAnd ops.AndAlso refl (omega arith), (h marks.Or ops.Or refl (omega arith), (h marks.Caret ops.Xor refl (omega arith), (h marks.And ops.And refl (omega arith), (h marks.EqualEqual ops.Eq refl (omega arith), (h marks.NotEqual ops.Ne refl (omega arith), (h marks.Less ops.Lt refl (omega arith), (h marks.LessEqual ops.Le refl (omega arith), (h marks.Greater ops.Gt refl (omega arith), (h marks.GreaterEqual ops.Ge refl (omega arith), (h marks.ShiftLeft ops.Shl refl (omega arith), (h marks.ShiftRight ops.Shr refl (omega arith), (h marks.Plus ops.Add refl (omega arith), (h marks.Minus ops.Sub refl (omega arith), (h marks.Star ops.Mul refl (omega arith), (h marks.Slash ops.Div refl (omega arith), (h marks.Percent ops.Rem refl (omega arith), (h marks.StarStar ops.Pow refl (omega arith), tt)))))))))))))))))))

-- operands are all of a binary where no operator follows
pub binary_step : {ts us : List Token} → Same grammar after_binary (Non rules.Prefix ∷ operands ∷ []) ts (operands ∷ []) us → IsLooser 0 us → Same grammar after_binary (Non rules.Binary ∷ []) ts [] us
binary_step p h = entering ⟫ p ⟫ opening right (Without operators) refl (no_operator _ h)

pub binary_returns : {X : Type 0} (ts us : List Token) (r : Result X Stop) → OnOk r (Same grammar after_binary (Non rules.Prefix ∷ operands ∷ []) ts (operands ∷ []) us) → OnOk r (IsLooser 0 us) → OnOk r (Same grammar after_binary (Non rules.Binary ∷ []) ts [] us)
binary_returns ts us (Ok x) p h = binary_step p h
binary_returns ts us (Err stop) p h = tt

level_most : (o : Op) → level o ≤ 10
level_most ops.OrElse = lit≤ tt
level_most ops.AndAlso = lit≤ tt
level_most ops.Or = lit≤ tt
level_most ops.Xor = lit≤ tt
level_most ops.And = lit≤ tt
level_most ops.Eq = lit≤ tt
level_most ops.Ne = lit≤ tt
level_most ops.Lt = lit≤ tt
level_most ops.Le = lit≤ tt
level_most ops.Gt = lit≤ tt
level_most ops.Ge = lit≤ tt
level_most ops.Shl = lit≤ tt
level_most ops.Shr = lit≤ tt
level_most ops.Add = lit≤ tt
level_most ops.Sub = lit≤ tt
level_most ops.Mul = lit≤ tt
level_most ops.Div = lit≤ tt
level_most ops.Rem = lit≤ tt
level_most ops.Pow = lit≤ tt

pub looser_all : (k : ℕ) (ts : List Token) → 11 ≤ k → IsLooser k ts
looser_all k ts l = λ m o e le. absurd (omega (arith, level_most o, l, le))

pub loosen : {j k : ℕ} {ts us : List Token} {e : Expr} → j ≤ k → DerivesBinary k ts us e → DerivesBinary j ts us e
loosen l (operand d) = operand d
loosen l (joined e m a i b) = joined e (omega (arith, l, m)) a i b

-- an operator joins what is read so far to what binds more tightly than it does
pub join : (least most : ℕ) (ts us vs ws : List Token) (op : Op) (place : Place) (x y e : Expr) → (k : ℕ) × (least ≤ k) × DerivesBinary k ts us x × IsLooser (k + 1) us → TakesOperator least us vs op place
    → most ≡ level op → IsPair op x y place e → DerivesBinary (most + 1) vs ws y → IsLooser (most + 1) ws → (k : ℕ) × (least ≤ k) × DerivesBinary k ts ws e × IsLooser (k + 1) ws
join least most ts us vs ws op place x y e l h m p d n = (level op, h.tight, subst (λ z. DerivesBinary (level op) ts ws z) (sym p.is) tree, subst (λ (z : ℕ). IsLooser (z + 1) ws) m n)
  where
    near : level op ≤ l.0
    near = elim (cases_lt l.0 (level op)) [
      | inl p ↦ absurd (both_ways (at grammar (terminals.Mark h.mark) us) (l.3 h.mark op h.is (omega (arith, p))) (seen h.stands))
      | inr p ↦ p
    ]

    left : DerivesBinary (level op) ts us p.first.now
    left = subst (λ z. DerivesBinary (level op) ts us z) (sym p.before) (loosen near l.2)

    right_side : DerivesBinary (level op + 1) vs ws p.second.now
    right_side = subst (λ z. DerivesBinary (level op + 1) vs ws z) (sym p.behind) (subst (λ (z : ℕ). DerivesBinary (z + 1) vs ws y) m d)

    tree : DerivesBinary (level op) ts ws (expr.Binary op p.first p.second place)
    tree = subst (λ z. DerivesBinary (level op) ts ws (expr.Binary op p.first p.second z)) (sym h.at) (joined h.is (omega arith) left h.stands right_side)

-- The next token is no operator that binds so tightly.

pub loose_end : (least : ℕ) (ts : List Token) → None ≡ slice_get ts 0 → IsLooser least ts
loose_end least [] e = λ m o f l. refl
loose_end least (t ∷ ts) e = cc

same_mark : (m : Mark) (k : TokenKind) → same (terminals.Mark m) (terminal_of k) ≡ true → k ≡ kinds.Mark m
same_mark m (kinds.Mark n) e = ap kinds.Mark (sym (one_mark m n e))
same_mark m kinds.Word e = cc
same_mark m (kinds.Number n) e = cc
same_mark m kinds.Str e = cc
same_mark m (kinds.Reserved k) e = cc

pub loose_at : (least : ℕ) (ts : List Token) (t : Token) → Some t ≡ slice_get ts 0 → ((m : Mark) (o : Op) → t.kind ≡ kinds.Mark m → operator_of m ≡ Some o → least ≤ level o → ⊥) → IsLooser least ts
loose_at least [] t e n = cc
loose_at least (u ∷ us) t e n = λ m o f l.
    let h : t ≡ u = cc in
    elim (cases_Bool (at grammar (terminals.Mark m) (u ∷ us))) [ inl p ↦ absurd (n m o (same_mark m t.kind (ap (λ (z : Token). same (terminals.Mark m) (terminal_of z.kind)) h ∙ p)) f l) | inr p ↦ p ]
