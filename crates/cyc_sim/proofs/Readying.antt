-- Expressions whose nets have places and whose widths agree, and their parts.
use Rattle.std.specs.List.{AllByRecursion}
use Rattle.std.specs.Prelude.{IfSome}
use Rattle.std.proofs.Common.{◌≡◌, ℕ, zero, suc, ◌+◌, ◌<◌, ◌≤◌, ◌==◌, true, ◌&&◌, nat_le, nat_lt, IsSome, Option, Some, None, List, [], ◌∷◌, length, take, get_or, ap, sym, subst, ◌∙◌, arith}
use Rattle.v_design.specs.declared.design.VExpr.{VExpr}
use Rattle.v_design.specs.declared.design.VOne.{VOne}
use Rattle.v_design.specs.declared.design.VOne.TheVariants.{Not, All, Any, Odd}
use Rattle.v_design.specs.declared.design.VTwo.{VTwo}
use Rattle.v_design.specs.declared.design.VTwo.TheVariants.{Add, Sub, And, Or, Xor, Eq, Ne, Lt, Le, Gt, Ge}
use Rattle.v_design.specs.Expr.{Expr, Net, Bits, Const, Cat, One, Two, Pick, Widths, nets_of, nets_of_each, width_of, width_of_all, width_under, width_over, is_sized, are_sized}
use Rattle.v_design.specs.Constants.{ConstantsFit, EachConstantFits}
use Rattle.v_design.specs.Seen.{expr_seen}
use Rattle.v_design.proofs.Tests.{and-left, and-right}
use Rattle.v_design.proofs.Names.{each_left, each_right}
use Rattle.cyc_sim.specs.declared.listing.Wire.{Wire}
use Rattle.cyc_sim.specs.declared.listing.Listing.{Listing}
use Rattle.cyc_sim.specs.Compiled.{Known, known_at, Compiles, IsReady}
use Rattle.cyc_sim.proofs.Concatenating.{listed, listed-more, width-behind, CompilesAll, MayCompile}
use Rattle.plain_lemmas.proofs.Numbers.{at-most, less}

under-narrow : (op : VOne) (w : ℕ) → w ≤ 128 → width_under op w ≤ 128
under-narrow Not w h = h
under-narrow All w h = omega arith
under-narrow Any w h = omega arith
under-narrow Odd w h = omega arith

over-narrow : (op : VTwo) (w : ℕ) → w ≤ 128 → width_over op w ≤ 128
over-narrow Add w h = h
over-narrow Sub w h = h
over-narrow And w h = h
over-narrow Or w h = h
over-narrow Xor w h = h
over-narrow Eq w h = omega arith
over-narrow Ne w h = omega arith
over-narrow Lt w h = omega arith
over-narrow Le w h = omega arith
over-narrow Gt w h = omega arith
over-narrow Ge w h = omega arith

-- an expression has at most 128 bits, where its nets and its constants have
width-narrow : (ws : Widths) → ((n : List ℕ) → ws n ≤ 128) → (e : Expr) → is_sized ws e ≡ true → ConstantsFit e → width_of ws e ≤ 128
width-narrow ws h (Net n) s c = h n
width-narrow ws h (Bits n hi lo) s c =
    let l = less hi (ws n) (and-right (nat_le lo hi) (nat_lt hi (ws n)) (and-left (nat_le lo hi && nat_lt hi (ws n)) (nat_lt 1 (ws n)) s)) in
    let k = h n in omega (arith, l, k)
width-narrow ws h (Const w x) s c = c.0
width-narrow ws h (Cat es) s c = at-most (width_of_all ws es) 128 (and-right (are_sized ws es) (nat_le (width_of_all ws es) 128) s)
width-narrow ws h (One op e) s c = under-narrow op (width_of ws e) (width-narrow ws h e s c)
width-narrow ws h (Two op a b) s c =
    let A = is_sized ws a in let B = is_sized ws b in
    over-narrow op (width_of ws a) (width-narrow ws h a (and-left A B (and-left (A && B) (width_of ws a == width_of ws b) s)) c.0)
width-narrow ws h (Pick x a b) s c =
    let X = is_sized ws x in let A = is_sized ws a in let B = is_sized ws b in let O = width_of ws x == 1 in let E = width_of ws a == width_of ws b in
    width-narrow ws h a (and-right X A (and-left (X && A) B (and-left (X && A && B) O (and-left (X && A && B && O) E s)))) c.1

pub compiled-narrow : (known : Known) (e : Expr) (l l' : Listing) (w : Wire) → IsReady known e → Compiles known e l l' w → w.width ≤ 128
compiled-narrow known e l l' w r h = let n = width-narrow r.widths r.narrow e r.sized r.constants in let same = h.width r.widths r.wide in omega (arith, n, same)

-- the bits of a net
pub bits-ordered : (known : Known) (n : List ℕ) (hi lo : ℕ) → IsReady known (Bits n hi lo) → lo ≤ hi
bits-ordered known n hi lo r = let ws = r.widths in
    at-most lo hi (and-left (nat_le lo hi) (nat_lt hi (ws n)) (and-left (nat_le lo hi && nat_lt hi (ws n)) (nat_lt 1 (ws n)) r.sized))

pub bits-narrow : (known : Known) (n : List ℕ) (hi lo : ℕ) → IsReady known (Bits n hi lo) → hi < 128
bits-narrow known n hi lo r = let ws = r.widths in
    let l = less hi (ws n) (and-right (nat_le lo hi) (nat_lt hi (ws n)) (and-left (nat_le lo hi && nat_lt hi (ws n)) (nat_lt 1 (ws n)) r.sized)) in
    let k = r.narrow n in omega (arith, l, k)

-- operands
module _ (known : Known) where
  abbrev HasPlace : List ℕ → Type 0
  HasPlace n = IsSome (known_at known n)

  pub ready-one : (op : VOne) (e : Expr) → IsReady known (One op e) → IsReady known e
  ready-one op e r = record { nets = r.nets; widths = r.widths; wide = r.wide; narrow = r.narrow; sized = r.sized; constants = r.constants }

  pub ready-left : (op : VTwo) (a b : Expr) → IsReady known (Two op a b) → IsReady known a
  ready-left op a b r = let A = is_sized r.widths a in let B = is_sized r.widths b in record {
    nets = each_left HasPlace (nets_of a) (nets_of b) r.nets;
    widths = r.widths;
    wide = r.wide;
    narrow = r.narrow;
    sized = and-left A B (and-left (A && B) (width_of r.widths a == width_of r.widths b) r.sized);
    constants = r.constants.0;
  }

  pub ready-right : (op : VTwo) (a b : Expr) → IsReady known (Two op a b) → IsReady known b
  ready-right op a b r = let A = is_sized r.widths a in let B = is_sized r.widths b in record {
    nets = each_right HasPlace (nets_of a) (nets_of b) r.nets;
    widths = r.widths;
    wide = r.wide;
    narrow = r.narrow;
    sized = and-right A B (and-left (A && B) (width_of r.widths a == width_of r.widths b) r.sized);
    constants = r.constants.1;
  }

  module _ (x a b : Expr) (r : IsReady known (Pick x a b)) where
    all-sized : (is_sized r.widths x && is_sized r.widths a && is_sized r.widths b) ≡ true
    all-sized =
        let X = is_sized r.widths x in let A = is_sized r.widths a in let B = is_sized r.widths b in let O = width_of r.widths x == 1 in let E = width_of r.widths a == width_of r.widths b in
        and-left (X && A && B) O (and-left (X && A && B && O) E r.sized)

    pub ready-test : IsReady known x
    ready-test = let X = is_sized r.widths x in let A = is_sized r.widths a in let B = is_sized r.widths b in record {
      nets = each_left HasPlace (nets_of x) _ r.nets;
      widths = r.widths;
      wide = r.wide;
      narrow = r.narrow;
      sized = and-left X A (and-left (X && A) B all-sized);
      constants = r.constants.0;
    }

    pub ready-chosen : IsReady known a
    ready-chosen = let X = is_sized r.widths x in let A = is_sized r.widths a in let B = is_sized r.widths b in record {
      nets = each_left HasPlace (nets_of a) (nets_of b) (each_right HasPlace (nets_of x) _ r.nets);
      widths = r.widths;
      wide = r.wide;
      narrow = r.narrow;
      sized = and-right X A (and-left (X && A) B all-sized);
      constants = r.constants.1;
    }

    pub ready-other : IsReady known b
    ready-other = let X = is_sized r.widths x in let A = is_sized r.widths a in let B = is_sized r.widths b in record {
      nets = each_right HasPlace (nets_of a) (nets_of b) (each_right HasPlace (nets_of x) _ r.nets);
      widths = r.widths;
      wide = r.wide;
      narrow = r.narrow;
      sized = and-right (X && A) B all-sized;
      constants = r.constants.2;
    }

  -- parts of a concatenation
  part-nets : (items : List VExpr) (i : ℕ) (d : VExpr) → i < length items → d ≡ get_or items i d → AllByRecursion HasPlace (nets_of_each (listed items)) → AllByRecursion HasPlace (nets_of (expr_seen d))
  part-nets [] i d l is h = absurd (omega (arith, l))
  part-nets (x ∷ xs) zero d l is h = subst (λ e. AllByRecursion HasPlace (nets_of (expr_seen e))) (sym is) (each_left HasPlace (nets_of (expr_seen x)) (nets_of_each (listed xs)) h)
  part-nets (x ∷ xs) (suc i) d l is h = part-nets xs i d (omega (arith, l)) is (each_right HasPlace (nets_of (expr_seen x)) (nets_of_each (listed xs)) h)

  part-sized : (ws : Widths) (items : List VExpr) (i : ℕ) (d : VExpr) → i < length items → d ≡ get_or items i d → are_sized ws (listed items) ≡ true → is_sized ws (expr_seen d) ≡ true
  part-sized ws [] i d l is h = absurd (omega (arith, l))
  part-sized ws (x ∷ xs) zero d l is h = ap (λ e. is_sized ws (expr_seen e)) is ∙ and-left (is_sized ws (expr_seen x)) (are_sized ws (listed xs)) h
  part-sized ws (x ∷ xs) (suc i) d l is h = part-sized ws xs i d (omega (arith, l)) is (and-right (is_sized ws (expr_seen x)) (are_sized ws (listed xs)) h)

  part-constants : (items : List VExpr) (i : ℕ) (d : VExpr) → i < length items → d ≡ get_or items i d → EachConstantFits (listed items) → ConstantsFit (expr_seen d)
  part-constants [] i d l is h = absurd (omega (arith, l))
  part-constants (x ∷ xs) zero d l is h = subst (λ e. ConstantsFit (expr_seen e)) (sym is) h.0
  part-constants (x ∷ xs) (suc i) d l is h = part-constants xs i d (omega (arith, l)) is h.1

  pub ready-part : (items : List VExpr) (i : ℕ) (d : VExpr) → i < length items → d ≡ get_or items i d → IsReady known (Cat (listed items)) → IsReady known (expr_seen d)
  ready-part items i d l is r = record {
    nets = part-nets items i d l is r.nets;
    widths = r.widths;
    wide = r.wide;
    narrow = r.narrow;
    sized = part-sized r.widths items i d l is (and-left (are_sized r.widths (listed items)) (nat_le (width_of_all r.widths (listed items)) 128) r.sized);
    constants = part-constants items i d l is r.constants;
  }

  -- the parts before one are no wider than all
  front-width : (ws : Widths) (items : List VExpr) (i : ℕ) → width_of_all ws (listed (take i items)) ≤ width_of_all ws (listed items)
  front-width ws [] i = none i
    where
      none : (i : ℕ) → width_of_all ws (listed (take i [])) ≤ 0
      none zero = omega arith
      none (suc i) = omega arith
  front-width ws (x ∷ xs) zero = omega arith
  front-width ws (x ∷ xs) (suc i) = let h = front-width ws xs i in omega (arith, h)

  -- the parts before one and that one are no wider than all
  pub joined-narrow : (items : List VExpr) (i : ℕ) (d : VExpr) (l l' l'' : Listing) (high low : Wire) → i < length items → d ≡ get_or items i d → IsReady known (Cat (listed items))
      → CompilesAll known (listed (take i items)) l l' high → Compiles known (expr_seen d) l' l'' low → high.width + low.width ≤ 128
  joined-narrow items i d l l' l'' high low within is r h k =
      let ws = r.widths in
      let a = at-most (width_of_all ws (listed items)) 128 (and-right (are_sized ws (listed items)) (nat_le (width_of_all ws (listed items)) 128) r.sized) in
      let b = front-width ws items (i + 1) in
      let e = ap (width_of_all ws) (listed-more items i d within is) ∙ width-behind ws (listed (take i items)) (expr_seen d) in
      let p = h.width ws r.wide in let q = k.width ws r.wide in
      omega (arith, a, b, e, p, q)

  pub behind-narrow : (items : List VExpr) (i : ℕ) (d : VExpr) (l l' l'' : Listing) (high : Option Wire) (low : Wire) → i < length items → d ≡ get_or items i d → IsReady known (Cat (listed items))
      → MayCompile known (listed (take i items)) l l' high → Compiles known (expr_seen d) l' l'' low → IfSome high (λ h. h.width + low.width < 256)
  behind-narrow items i d l l' l'' None low within is r h k = tt
  behind-narrow items i d l l' l'' (Some high) low within is r h k = let fits = joined-narrow items i d l l' l'' high low within is r h k in omega arith
