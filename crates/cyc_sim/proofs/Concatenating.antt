-- Concatenations, part by part.
use Rattle.std.specs.List.{AllByRecursion}
use Rattle.std.specs.Prelude.{IfSome}
use Rattle.std.proofs.Common.{◌≡◌, ℕ, ◌+◌, ◌*◌, ◌^◌, ◌<◌, ◌≤◌, true, nat_le, IsSome, Option, Some, None, List, [], ◌∷◌, ◌++◌, length, take, get_or, refl, ap, sym, subst, ◌∙◌, append_assoc, arith, rules, Vec, Box, Global}
use Rattle.std.proofs.lemmas.List.{append-nil, take_more, take_all}
use Rattle.std.proofs.lemmas.Bool.Decides.{nat_tests}
use Rattle.std.proofs.lemmas.Nat.{pow-add}
use Rattle.v_design.specs.declared.design.VExpr.{VExpr, Row_of-VExpr, end_of-VExpr, more_of-VExpr, items-the_row-VExpr}
use Rattle.v_design.specs.declared.design.VExpr.TheVariants as variant
use Rattle.v_design.specs.declared.design.VExpr.TheViews.{the_lemmas}
use Rattle.v_design.specs.declared.design.VOne.{VOne}
use Rattle.v_design.specs.declared.design.VTwo.{VTwo}
use Rattle.v_design.specs.Expr as expr
use Rattle.v_design.specs.Expr.{Expr, Exprs, none, more, Widths, Values, nets_of, nets_of_each, width_of, width_of_all, is_sized, are_sized, value_of, value_of_all}
use Rattle.v_design.specs.Seen.{expr_seen, exprs_seen}
use Rattle.v_design.specs.Constants.{ConstantsFit, EachConstantFits}
use Rattle.v_design.proofs.Names.{each_append}
use Rattle.cyc_sim.specs.declared.listing.Wire.{Wire}
use Rattle.cyc_sim.specs.declared.listing.Listing.{Listing}
use Rattle.cyc_sim.specs.declared.operation.Operation.TheVariants.{Constant, Join}
use Rattle.cyc_sim.specs.Operations.{values_after}
use Rattle.cyc_sim.specs.Compiled.{Known, known_at, end_of, AreWidths, Agrees, Extends, Adds, Compiles, IsBehind}
use Rattle.cyc_sim.proofs.Numbers.{joined_small}
use Rattle.cyc_sim.proofs.Compiling.{extends_one, extends_both, end_adds, end_extends, agrees_extends, kept, added, expr_fits, exprs_fit}
use Rattle.plain_lemmas.proofs.Bools.{and-both as two-true}

-- the expressions of a list
abbrev pub listed : List VExpr → Exprs
listed [] = none
listed (e ∷ es) = more (expr_seen e) (listed es)

row_listed : (n : _) (row : Row_of-VExpr n) → exprs_seen row ≡ listed (items-the_row-VExpr n row)
row_listed _ end_of-VExpr = refl
row_listed _ (more_of-VExpr e rest) = ap (λ z. more (expr_seen e) z) (row_listed _ rest)

-- a concatenation is seen as the list of its parts
pub cat_seen : (v : Vec VExpr Global) → expr_seen (variant.Cat v) ≡ expr.Cat (listed v.items)
cat_seen v = search (rules, the_lemmas, row_listed)

pub one_seen : (op : VOne) (a : Box VExpr Global) → expr_seen (variant.One op a) ≡ expr.One op (expr_seen a.value)
one_seen op a = search (rules, the_lemmas)

pub two_seen : (op : VTwo) (a b : Box VExpr Global) → expr_seen (variant.Two op a b) ≡ expr.Two op (expr_seen a.value) (expr_seen b.value)
two_seen op a b = search (rules, the_lemmas)

pub pick_seen : (a b c : Box VExpr Global) → expr_seen (variant.Pick a b c) ≡ expr.Pick (expr_seen a.value) (expr_seen b.value) (expr_seen c.value)
pick_seen a b c = search (rules, the_lemmas)

-- one expression more at the end
abbrev pub behind : Exprs → Expr → Exprs
behind none e = more e none
behind (more x xs) e = more x (behind xs e)

pub listed-push : (es : List VExpr) (e : VExpr) → listed (es ++ (e ∷ [])) ≡ behind (listed es) (expr_seen e)
listed-push [] e = refl
listed-push (x ∷ xs) e = ap (more (expr_seen x)) (listed-push xs e)

pub width-behind : (ws : Widths) (es : Exprs) (e : Expr) → width_of_all ws (behind es e) ≡ width_of_all ws es + width_of ws e
width-behind ws none e = omega arith
width-behind ws (more x xs) e = ap (λ n. width_of ws x + n) (width-behind ws xs e) ∙ omega arith

shifted : (x y a b c : ℕ) → x * (a * b) + (y * b + c) ≡ (x * a + y) * b + c
shifted x y a b c = grind arith

value-behind : (ws : Widths) (v : Values) (es : Exprs) (e : Expr) → value_of_all ws v (behind es e) ≡ value_of_all ws v es * 2 ^ width_of ws e + value_of ws v e
value-behind ws v none e = none_before (value_of ws v e) (2 ^ width_of ws e)
  where
    none_before : (x p : ℕ) → x * 2 ^ 0 + 0 ≡ 0 * p + x
    none_before x p = omega arith
value-behind ws v (more x xs) e =
    ap (λ n. value_of ws v x * 2 ^ n + value_of_all ws v (behind xs e)) (width-behind ws xs e)
    ∙ (ap (λ p. value_of ws v x * p + value_of_all ws v (behind xs e)) (pow-add 2 (width_of_all ws xs) (width_of ws e))
    ∙ (ap (λ n. value_of ws v x * (2 ^ width_of_all ws xs * 2 ^ width_of ws e) + n) (value-behind ws v xs e)
    ∙ shifted (value_of ws v x) (value_of_all ws v xs) (2 ^ width_of_all ws xs) (2 ^ width_of ws e) (value_of ws v e)))

sized-behind : (ws : Widths) (es : Exprs) (e : Expr) → are_sized ws (behind es e) ≡ true → (are_sized ws es ≡ true) × (is_sized ws e ≡ true)
sized-behind ws none e h = (refl, (two-true (is_sized ws e) true h).0)
sized-behind ws (more x xs) e h =
    let p = two-true (is_sized ws x) (are_sized ws (behind xs e)) h in
    let q = sized-behind ws xs e p.1 in
    (rw (p.0, q.0) refl, q.1)

constants-behind : (es : Exprs) (e : Expr) → EachConstantFits (behind es e) → EachConstantFits es × ConstantsFit e
constants-behind none e h = (tt, h.0)
constants-behind (more x xs) e h = let q = constants-behind xs e h.1 in ((h.0, q.0), q.1)

pub nets-behind : (es : Exprs) (e : Expr) → nets_of_each (behind es e) ≡ nets_of_each es ++ nets_of e
nets-behind none e = append-nil (nets_of e)
nets-behind (more x xs) e = ap (λ l. nets_of x ++ l) (nets-behind xs e) ∙ sym (append_assoc (nets_of x) (nets_of_each xs) (nets_of e))

-- one part more of a list, and all parts of it
pub listed-more : (items : List VExpr) (i : ℕ) (d : VExpr) → i < length items → d ≡ get_or items i d → listed (take (i + 1) items) ≡ behind (listed (take i items)) (expr_seen d)
listed-more items i d l is = rw (take_more items i d l, listed-push (take i items) (get_or items i d), ← is) refl

pub listed-all : (items parts : List VExpr) (i : ℕ) → length items ≤ i → items ≡ parts → listed (take i items) ≡ listed parts
listed-all items parts i l is = ap listed (take_all i items l ∙ is)

-- as `Compiles`, of the parts of a concatenation
pub record CompilesAll (known : Known) (es : Exprs) (old new : Listing) (w : Wire) : Type 0 where
  pub extends : Extends old new
  pub below : w.place < end_of new
  pub nets : AllByRecursion (λ n. IsSome (known_at known n)) (nets_of_each es)
  pub width : (ws : Widths) → AreWidths known ws → w.width ≡ width_of_all ws es
  pub value : (ws : Widths) (v : Values) (base : List ℕ) → length base ≡ old.first → AreWidths known ws → are_sized ws es ≡ true → width_of_all ws es ≤ 128 → EachConstantFits es
      → Agrees known old.operations.items base v → get_or (values_after new.operations.items base) w.place 0 ≡ value_of_all ws v es

compiled_none : (known : Known) (l l' : Listing) (w : Wire) → Adds l l' (Constant 0) w.place → w.width ≡ 0 → CompilesAll known none l l' w
compiled_none known l l' w adds width = record {
  extends = extends_one l l' _ w.place adds;
  below = end_adds l l' _ w.place adds;
  nets = tt;
  width = λ ws wide. width;
  value = λ ws v base long wide sized narrow constants agrees. added l l' base _ w.place adds long;
}

compiled_behind : (known : Known) (es : Exprs) (e : Expr) (a b c d : Listing) (high low w : Wire) → CompilesAll known es a b high → Compiles known e b c low
    → Adds c d (Join high.place low.place low.width (high.width + low.width)) w.place → w.width ≡ high.width + low.width → CompilesAll known (behind es e) a d w
compiled_behind known es e a b c d high low w h k adds width = record {
  extends = extends_both a b d h.extends (extends_both b c d k.extends (extends_one c d _ w.place adds));
  below = end_adds c d _ w.place adds;
  nets = rw (nets-behind es e) (each_append (λ n. IsSome (known_at known n)) (nets_of_each es) (nets_of e) h.nets k.nets);
  width = λ ws wide. width ∙ (ap (λ n. n + low.width) (h.width ws wide) ∙ (ap (λ n. width_of_all ws es + n) (k.width ws wide) ∙ sym (width-behind ws es e)));
  value = λ ws v base long wide sized narrow constants agrees.
      let s = sized-behind ws es e sized in
      let t = constants-behind es e constants in
      let both = width-behind ws es e in
      let long_b : length base ≡ b.first = long ∙ sym h.extends.first in
      let long_c : length base ≡ c.first = long_b ∙ sym k.extends.first in
      let agrees_b = agrees_extends known a b base v h.extends agrees in
      let x : get_or (values_after c.operations.items base) high.place 0 ≡ value_of_all ws v es
      = kept b c base high.place (value_of_all ws v es) k.extends long_b h.below (h.value ws v base long wide s.0 (omega (arith, both, narrow)) t.0 agrees) in
      let y : get_or (values_after c.operations.items base) low.place 0 ≡ value_of ws v e = k.value ws v base long_b wide s.1 t.1 agrees_b in
      let fits_e = expr_fits known ws v a.operations.items base e wide agrees s.1 t.1 k.nets in
      let fits_es = exprs_fit known ws v a.operations.items base es wide agrees s.0 (omega (arith, both, narrow)) t.0 h.nets in
      added c d base _ w.place adds long_c
      ∙ (rw (x, y, h.width ws wide, k.width ws wide) (joined_small (value_of_all ws v es) (value_of ws v e) (width_of_all ws es) (width_of ws e) fits_es fits_e (omega (arith, both, narrow))) ∙ sym (value-behind ws v es e));
}

-- the first part
compiled_first : (known : Known) (e : Expr) (a b : Listing) (w : Wire) → Compiles known e a b w → CompilesAll known (behind none e) a b w
compiled_first known e a b w k = record {
  extends = k.extends;
  below = k.below;
  nets = rw (append-nil (nets_of e)) k.nets;
  width = λ ws wide. k.width ws wide ∙ alone (width_of ws e);
  value = λ ws v base long wide sized narrow constants agrees.
      k.value ws v base long wide (two-true (is_sized ws e) true sized).0 constants.0 agrees ∙ unshifted (value_of ws v e);
}
  where
    alone : (n : ℕ) → n ≡ n + 0
    alone n = omega arith

    unshifted : (x : ℕ) → x ≡ x * 2 ^ 0 + 0
    unshifted x = omega arith

-- the parts so far, if there are any
abbrev pub MayCompile : Known → Exprs → Listing → Listing → Option Wire → Type 0
MayCompile known es old new None = (es ≡ none) × (new ≡ old)
MayCompile known es old new (Some w) = CompilesAll known es old new w

pub compiled_more : (known : Known) (es : Exprs) (e : Expr) (a b c d : Listing) (high : Option Wire) (low w : Wire) → MayCompile known es a b high → Compiles known e b c low → IsBehind c d high low w
    → CompilesAll known (behind es e) a d w
compiled_more known es e a b c d None low w h k p =
    let first = compiled_first known e a c low (subst (λ l. Compiles known e l c low) h.1 k) in
    let at_d = subst (λ l. CompilesAll known (behind none e) a l low) (sym p.0) first in
    let at_w = subst (λ i. CompilesAll known (behind none e) a d i) (sym p.1) at_d in
    subst (λ es. CompilesAll known (behind es e) a d w) (sym h.0) at_w
compiled_more known es e a b c d (Some high) low w h k p = compiled_behind known es e a b c d high low w h k p.0 p.1

-- no part at all
pub compiled_empty : (known : Known) (es : Exprs) (a b c : Listing) (w : Wire) → MayCompile known es a b None → Adds b c (Constant 0) w.place → w.width ≡ 0 → CompilesAll known es a c w
compiled_empty known es a b c w h adds width =
    subst (λ es. CompilesAll known es a c w) (sym h.0) (subst (λ l. CompilesAll known none l c w) h.1 (compiled_none known b c w adds width))

-- the place of the parts so far stays below the end
pub may_below : (known : Known) (es : Exprs) (a b c : Listing) (high : Option Wire) → MayCompile known es a b high → Extends b c → IfSome high (λ h. h.place < end_of c)
may_below known es a b c None h e = tt
may_below known es a b c (Some high) h e = let l = h.below in let m = end_extends b c e in omega arith

-- all parts are the concatenation
pub compiled_cat : (known : Known) (es : Exprs) (l l' : Listing) (w : Wire) → CompilesAll known es l l' w → Compiles known (expr.Cat es) l l' w
compiled_cat known es l l' w h = record {
  extends = h.extends;
  below = h.below;
  nets = h.nets;
  width = h.width;
  value = λ ws v base long wide sized constants agrees.
      let s = two-true (are_sized ws es) (nat_le (width_of_all ws es) 128) sized in
      h.value ws v base long wide s.0 (most (width_of_all ws es) s.1) constants agrees;
}
  where
    most : (n : ℕ) → nat_le n 128 ≡ true → n ≤ 128
    most n h = grind (arith, nat_tests)
