-- Widths of expressions that agree.
use Rattle.std.proofs.Common.{◌≡◌, ℕ, ◌+◌, Bool, true, false, ◌&&◌, nat_le, if◌then◌else◌, Some, None, refl, ap, sym, ◌∙◌, arith}
use Rattle.std.proofs.lemmas.Bool.Decides.{nat_tests}
use Rattle.v_design.specs.Expr.{Expr, Exprs, Cat, none, more, Widths, width_of, width_of_all, is_sized, are_sized}
use Rattle.v_check.specs.Sizes.{joined, sized_width}
use Rattle.v_check.proofs.Exprs.{behind}

sized-behind : (ws : Widths) (es : Exprs) (e : Expr) → are_sized ws (behind es e) ≡ (are_sized ws es && is_sized ws e)
sized-behind ws none e = alone (is_sized ws e)
  where
    alone : (b : Bool) → (b && true) ≡ b
    alone true = refl
    alone false = refl
sized-behind ws (more x xs) e = ap (λ b. is_sized ws x && b) (sized-behind ws xs e) ∙ assoc (is_sized ws x) (are_sized ws xs) (is_sized ws e)
  where
    assoc : (a b c : Bool) → (a && (b && c)) ≡ (a && b && c)
    assoc true b c = refl
    assoc false b c = refl

width-behind : (ws : Widths) (es : Exprs) (e : Expr) → width_of_all ws (behind es e) ≡ width_of_all ws es + width_of ws e
width-behind ws none e = omega arith
width-behind ws (more x xs) e = ap (λ n. width_of ws x + n) (width-behind ws xs e) ∙ omega arith

-- the width of a concatenation with one part more
pub cat-more : (ws : Widths) (es : Exprs) (e : Expr) → joined (sized_width ws (Cat es)) (sized_width ws e) ≡ sized_width ws (Cat (behind es e))
cat-more ws es e =
    rw (sized-behind ws es e, width-behind ws es e)
    (go (are_sized ws es) (nat_le (width_of_all ws es) 128) (is_sized ws e) (width_of_all ws es) (width_of ws e) refl)
  where
    go : (p q s : Bool) (w v : ℕ) → nat_le w 128 ≡ q → joined (if p && q then Some w else None) (if s then Some v else None) ≡ (if p && s && nat_le (w + v) 128 then Some (w + v) else None)
    go false q s w v h = refl
    go true true true w v h = refl
    go true true false w v h = refl
    go true false false w v h = refl
    go true false true w v h = let wide : nat_le (w + v) 128 ≡ false = grind (arith, nat_tests) in sym (ap (λ b. if b then Some (w + v) else None) wide)
