-- How large an expression is, and its parts.
use Rattle.std.proofs.Common.{◌≡◌, ℕ, zero, suc, ◌+◌, ◌<◌, ◌≤◌, List, [], ◌∷◌, length, get_or, ap, ◌∙◌, Vec, Box, Global, arith}
use Rattle.v_design.specs.declared.design.VExpr.{VExpr}
use Rattle.v_design.specs.declared.design.VExpr.TheVariants as variant
use Rattle.v_design.specs.declared.design.VOne.{VOne}
use Rattle.v_design.specs.declared.design.VTwo.{VTwo}
use Rattle.v_design.specs.Expr.{Expr, Exprs, Net, Bits, Const, Cat, One, Two, Pick, none, more}
use Rattle.v_design.specs.Seen.{expr_seen}
use Rattle.cyc_sim.proofs.Concatenating.{listed, cat_seen, one_seen, two_seen, pick_seen}

mutual
  pub size_of : Expr → ℕ
  size_of (Net n) = 0
  size_of (Bits n hi lo) = 0
  size_of (Const w v) = 0
  size_of (Cat es) = size_of_each es + 1
  size_of (One op e) = size_of e + 1
  size_of (Two op a b) = size_of a + size_of b + 1
  size_of (Pick c a b) = size_of c + size_of a + size_of b + 1

  pub size_of_each : Exprs → ℕ
  size_of_each none = 0
  size_of_each (more e es) = size_of e + size_of_each es

part-size : (items : List VExpr) (i : ℕ) (d : VExpr) → i < length items → d ≡ get_or items i d → size_of (expr_seen d) ≤ size_of_each (listed items)
unfolding size_of
part-size [] i d l is = absurd (omega (arith, l))
part-size (x ∷ xs) zero d l is = let e = ap (λ y. size_of (expr_seen y)) is in omega (arith, e)
part-size (x ∷ xs) (suc i) d l is = let h = part-size xs i d (omega (arith, l)) is in omega (arith, h)

pub part-smaller : (x : VExpr) (v : Vec VExpr Global) (items : List VExpr) (i : ℕ) (d : VExpr) → x ≡ variant.Cat v → items ≡ v.items → i < length items → d ≡ get_or items i d → size_of (expr_seen d) < size_of (expr_seen x)
unfolding size_of
part-smaller x v items i d is same l at =
    let h = part-size items i d l at in let e = ap size_of (ap expr_seen is ∙ cat_seen v) in let f = ap (λ ys. size_of_each (listed ys)) same in omega (arith, h, e, f)

pub of-smaller : (x : VExpr) (op : VOne) (a : Box VExpr Global) (y : VExpr) → x ≡ variant.One op a → y ≡ a.value → size_of (expr_seen y) < size_of (expr_seen x)
unfolding size_of
of-smaller x op a y is same = let e = ap size_of (ap expr_seen is ∙ one_seen op a) in let f = ap (λ z. size_of (expr_seen z)) same in omega (arith, e, f)

pub left-smaller : (x : VExpr) (op : VTwo) (a b : Box VExpr Global) (y : VExpr) → x ≡ variant.Two op a b → y ≡ a.value → size_of (expr_seen y) < size_of (expr_seen x)
unfolding size_of
left-smaller x op a b y is same = let e = ap size_of (ap expr_seen is ∙ two_seen op a b) in let f = ap (λ z. size_of (expr_seen z)) same in omega (arith, e, f)

pub right-smaller : (x : VExpr) (op : VTwo) (a b : Box VExpr Global) (y : VExpr) → x ≡ variant.Two op a b → y ≡ b.value → size_of (expr_seen y) < size_of (expr_seen x)
unfolding size_of
right-smaller x op a b y is same = let e = ap size_of (ap expr_seen is ∙ two_seen op a b) in let f = ap (λ z. size_of (expr_seen z)) same in omega (arith, e, f)

pub test-smaller : (x : VExpr) (a b c : Box VExpr Global) (y : VExpr) → x ≡ variant.Pick a b c → y ≡ a.value → size_of (expr_seen y) < size_of (expr_seen x)
unfolding size_of
test-smaller x a b c y is same = let e = ap size_of (ap expr_seen is ∙ pick_seen a b c) in let f = ap (λ z. size_of (expr_seen z)) same in omega (arith, e, f)

pub chosen-smaller : (x : VExpr) (a b c : Box VExpr Global) (y : VExpr) → x ≡ variant.Pick a b c → y ≡ b.value → size_of (expr_seen y) < size_of (expr_seen x)
unfolding size_of
chosen-smaller x a b c y is same = let e = ap size_of (ap expr_seen is ∙ pick_seen a b c) in let f = ap (λ z. size_of (expr_seen z)) same in omega (arith, e, f)

pub other-smaller : (x : VExpr) (a b c : Box VExpr Global) (y : VExpr) → x ≡ variant.Pick a b c → y ≡ c.value → size_of (expr_seen y) < size_of (expr_seen x)
unfolding size_of
other-smaller x a b c y is same = let e = ap size_of (ap expr_seen is ∙ pick_seen a b c) in let f = ap (λ z. size_of (expr_seen z)) same in omega (arith, e, f)
