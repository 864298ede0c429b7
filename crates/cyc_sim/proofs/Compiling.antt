-- Compiled expressions have the values of expressions.
use Rattle.std.specs.List.{AllByRecursion}
use Rattle.std.proofs.Common.{◌≡◌, ℕ, ◌+◌, ◌-◌, ◌^◌, ◌<◌, ◌≤◌, ◌==◌, Bool, true, false, ◌&&◌, nat_le, Some, IsSome, List, [], ◌∷◌, ◌++◌, length, get_or, refl, ap, sym, subst, ◌∙◌, append_assoc, length-append, arith}
use Rattle.std.proofs.lemmas.List.{append-nil}
use Rattle.std.proofs.lemmas.Bool.Decides.{nat_tests}
use Rattle.std.proofs.lemmas.Map.Views.{exact_unsigned_eq}
use Rattle.cyc_sim.proofs.Numbers.{sum_low, difference_low}
use Rattle.rb_base.specs.Bits.{part}
use Rattle.v_design.specs.declared.design.VOne.{VOne}
use Rattle.v_design.specs.declared.design.VTwo.{VTwo}
use Rattle.v_design.specs.declared.design.VTwo.TheVariants.{Add, Sub, And, Or, Xor, Eq, Ne, Lt, Le, Gt, Ge}
use Rattle.v_design.specs.Expr as expr
use Rattle.v_design.specs.Expr.{Expr, Exprs, more, Widths, Values, nets_of, nets_of_each, width_of, width_of_all, is_sized, are_sized, value_of, value_of_all, value_under, value_over, width_under, width_over}
use Rattle.v_design.specs.Constants.{ConstantsFit, EachConstantFits}
use Rattle.v_design.proofs.ValuesFit.{value_fits}
use Rattle.v_design.proofs.Names.{each_one, each_append}
use Rattle.cyc_sim.specs.declared.operation.Operation.{Operation}
use Rattle.cyc_sim.specs.declared.operation.Operation.TheVariants.{Constant, Part, One, Two, Pick}
use Rattle.cyc_sim.specs.declared.listing.Wire.{Wire}
use Rattle.cyc_sim.specs.declared.listing.Listing.{Listing}
use Rattle.cyc_sim.specs.Operations.{value_by, result_over, values_after}
use Rattle.cyc_sim.specs.Compiled.{Known, known_at, end_of, AreBelow, AreWidths, Agrees, Extends, Adds, Compiles}
use Rattle.cyc_sim.proofs.Settling.{value_added, value_kept}
use Rattle.plain_lemmas.proofs.Options.{some_is}

-- a net with a place is within its width
known_fits : (known : Known) (ws : Widths) (v : Values) (os : List Operation) (base : List ℕ) → AreWidths known ws → Agrees known os base v → (n : List ℕ) → IsSome (known_at known n) → v n < 2 ^ ws n
known_fits known ws v os base wide agrees n h =
    let (w, at) = some_is (known_at known n) h in
    subst (λ k. v n < 2 ^ k) (wide.width n w at) (agrees.fits n w at)

-- so is the value of an expression over such nets
pub expr_fits : (known : Known) (ws : Widths) (v : Values) (os : List Operation) (base : List ℕ) (e : Expr) → AreWidths known ws → Agrees known os base v → is_sized ws e ≡ true → ConstantsFit e
    → AllByRecursion (λ n. IsSome (known_at known n)) (nets_of e) → value_of ws v e < 2 ^ width_of ws e
expr_fits known ws v os base e wide agrees sized constants nets =
    value_fits ws v e sized constants (each_one (λ n. IsSome (known_at known n)) (λ n. v n < 2 ^ ws n) (nets_of e) (known_fits known ws v os base wide agrees) nets)

within_128 : (n : ℕ) → n ≤ 128 → nat_le n 128 ≡ true
within_128 n h = grind (arith, nat_tests)

-- of a concatenation
pub exprs_fit : (known : Known) (ws : Widths) (v : Values) (os : List Operation) (base : List ℕ) (es : Exprs) → AreWidths known ws → Agrees known os base v → are_sized ws es ≡ true → width_of_all ws es ≤ 128 → EachConstantFits es
    → AllByRecursion (λ n. IsSome (known_at known n)) (nets_of_each es) → value_of_all ws v es < 2 ^ width_of_all ws es
exprs_fit known ws v os base es wide agrees sized narrow constants nets =
    value_fits ws v (expr.Cat es) (rw (sized, within_128 (width_of_all ws es) narrow) refl) constants (each_one (λ n. IsSome (known_at known n)) (λ n. v n < 2 ^ ws n) (nets_of_each es) (known_fits known ws v os base wide agrees) nets)

pub extends_none : (l : Listing) → Extends l l
extends_none l = record { first = refl; more = []; longer = sym (append-nil l.operations.items) }

pub extends_one : (l l' : Listing) (o : Operation) (p : ℕ) → Adds l l' o p → Extends l l'
extends_one l l' o p h = record { first = h.first; more = o ∷ []; longer = h.longer }

pub extends_both : (a b c : Listing) → Extends a b → Extends b c → Extends a c
extends_both a b c p q = record {
  first = q.first ∙ p.first;
  more = p.more ++ q.more;
  longer = q.longer ∙ (ap (λ l. l ++ q.more) p.longer ∙ append_assoc a.operations.items p.more q.more);
}

pub end_extends : (a b : Listing) → Extends a b → end_of a ≤ end_of b
end_extends a b h = rw (h.first, h.longer) (omega (arith, length-append a.operations.items h.more))

pub end_adds : (a b : Listing) (o : Operation) (p : ℕ) → Adds a b o p → p < end_of b
end_adds a b o p h = rw (h.first, h.longer, h.at) (omega (arith, length-append a.operations.items (o ∷ [])))

pub below_more : (known : Known) (a b : Listing) → Extends a b → AreBelow known (end_of a) → AreBelow known (end_of b)
below_more known a b h low = record { below = λ n w at. omega (arith, low.below n w at, end_extends a b h) }

-- nets keep their values under further operations
pub agrees_more : (known : Known) (os ps : List Operation) (base : List ℕ) (v : Values) → Agrees known os base v → Agrees known (os ++ ps) base v
agrees_more known os ps base v h = record {
  below = λ n w at. omega (arith, h.below n w at, length-append os ps);
  value = λ n w at. value_kept os ps base w.place (h.below n w at) ∙ h.value n w at;
  fits = h.fits;
}

pub agrees_extends : (known : Known) (a b : Listing) (base : List ℕ) (v : Values) → Extends a b → Agrees known a.operations.items base v → Agrees known b.operations.items base v
agrees_extends known a b base v h agrees = rw h.longer (agrees_more known a.operations.items h.more base v agrees)

-- a value that is computed stays
pub kept : (a b : Listing) (base : List ℕ) (p x : ℕ) → Extends a b → length base ≡ a.first → p < end_of a → get_or (values_after a.operations.items base) p 0 ≡ x → get_or (values_after b.operations.items base) p 0 ≡ x
kept a b base p x h long low is = rw h.longer (value_kept a.operations.items h.more base p (rw long low) ∙ is)

-- the value of an operation that was added
pub added : (a b : Listing) (base : List ℕ) (o : Operation) (p : ℕ) → Adds a b o p → length base ≡ a.first → get_or (values_after b.operations.items base) p 0 ≡ value_by (values_after a.operations.items base) o
added a b base o p h long = rw (h.longer, h.at, ← long) (value_added a.operations.items base o)

two_sized : (a b : Bool) (m n : ℕ) → (a && b && m == n) ≡ true → (a ≡ true) × (b ≡ true) × (m ≡ n)
two_sized true true m n h = (refl, refl, exact_unsigned_eq m n h)
two_sized true false m n h = cc h
two_sized false b m n h = cc h

pick_sized : (a b c : Bool) (l m n : ℕ) → (a && b && c && l == 1 && m == n) ≡ true → (a ≡ true) × (b ≡ true) × (c ≡ true)
pick_sized true true true l m n h = (refl, refl, refl)
pick_sized true true false l m n h = cc h
pick_sized true false c l m n h = cc h
pick_sized false b c l m n h = cc h

-- within widths the operators are those of expressions
result_is : (op : VTwo) (w a b : ℕ) → w ≤ 128 → a < 2 ^ w → b < 2 ^ w → result_over op w a b ≡ value_over op w a b
result_is Add w a b narrow p q = sum_low a b w narrow
result_is Sub w a b narrow p q = difference_low a b w narrow q
result_is And w a b narrow p q = refl
result_is Or w a b narrow p q = refl
result_is Xor w a b narrow p q = refl
result_is Eq w a b narrow p q = refl
result_is Ne w a b narrow p q = refl
result_is Lt w a b narrow p q = refl
result_is Le w a b narrow p q = refl
result_is Gt w a b narrow p q = refl
result_is Ge w a b narrow p q = refl

pub compiled_net : (known : Known) (n : List ℕ) (l : Listing) (w : Wire) → AreBelow known (end_of l) → known_at known n ≡ Some w → Compiles known (expr.Net n) l l w
compiled_net known n l w low at = record {
  extends = extends_none l;
  below = low.below n w at;
  nets = (rw at refl, tt);
  width = λ ws wide. wide.width n w at;
  value = λ ws v base long wide sized constants agrees. agrees.value n w at;
}

pub compiled_bits : (known : Known) (n : List ℕ) (hi lo : ℕ) (l l' : Listing) (net w : Wire) → known_at known n ≡ Some net → Adds l l' (Part net.place lo (hi - lo + 1)) w.place → w.width ≡ hi - lo + 1
    → Compiles known (expr.Bits n hi lo) l l' w
compiled_bits known n hi lo l l' net w at adds width = record {
  extends = extends_one l l' _ w.place adds;
  below = end_adds l l' _ w.place adds;
  nets = (rw at refl, tt);
  width = λ ws wide. width;
  value = λ ws v base long wide sized constants agrees. added l l' base _ w.place adds long ∙ ap (λ x. part x hi lo) (agrees.value n net at);
}

pub compiled_const : (known : Known) (width x : ℕ) (l l' : Listing) (w : Wire) → Adds l l' (Constant x) w.place → w.width ≡ width → Compiles known (expr.Const width x) l l' w
compiled_const known width x l l' w adds is = record {
  extends = extends_one l l' _ w.place adds;
  below = end_adds l l' _ w.place adds;
  nets = tt;
  width = λ ws wide. is;
  value = λ ws v base long wide sized constants agrees. added l l' base _ w.place adds long;
}

pub compiled_one : (known : Known) (op : VOne) (e : Expr) (a b c : Listing) (of w : Wire) → Compiles known e a b of → Adds b c (One op of.width of.place) w.place → w.width ≡ width_under op of.width
    → Compiles known (expr.One op e) a c w
compiled_one known op e a b c of w h adds width = record {
  extends = extends_both a b c h.extends (extends_one b c _ w.place adds);
  below = end_adds b c _ w.place adds;
  nets = h.nets;
  width = λ ws wide. width ∙ ap (width_under op) (h.width ws wide);
  value = λ ws v base long wide sized constants agrees.
      added b c base _ w.place adds (long ∙ sym h.extends.first)
      ∙ (ap (λ k. value_under op k (get_or (values_after b.operations.items base) of.place 0)) (h.width ws wide)
      ∙ ap (value_under op (width_of ws e)) (h.value ws v base long wide sized constants agrees));
}

pub compiled_two : (known : Known) (op : VTwo) (x y : Expr) (a b c d : Listing) (left right w : Wire) → Compiles known x a b left → Compiles known y b c right → left.width ≤ 128
    → Adds c d (Two op left.width left.place right.place) w.place → w.width ≡ width_over op left.width → Compiles known (expr.Two op x y) a d w
compiled_two known op x y a b c d left right w h k narrow adds width = record {
  extends = extends_both a b d h.extends (extends_both b c d k.extends (extends_one c d _ w.place adds));
  below = end_adds c d _ w.place adds;
  nets = each_append (λ n. IsSome (known_at known n)) (nets_of x) (nets_of y) h.nets k.nets;
  width = λ ws wide. width ∙ ap (width_over op) (h.width ws wide);
  value = λ ws v base long wide sized constants agrees.
      let s = two_sized (is_sized ws x) (is_sized ws y) (width_of ws x) (width_of ws y) sized in
      let long_b : length base ≡ b.first = long ∙ sym h.extends.first in
      let long_c : length base ≡ c.first = long_b ∙ sym k.extends.first in
      let agrees_b = agrees_extends known a b base v h.extends agrees in
      let l : get_or (values_after c.operations.items base) left.place 0 ≡ value_of ws v x = kept b c base left.place (value_of ws v x) k.extends long_b h.below (h.value ws v base long wide s.0 constants.0 agrees) in
      let r : get_or (values_after c.operations.items base) right.place 0 ≡ value_of ws v y = k.value ws v base long_b wide s.1 constants.1 agrees_b in
      let same = h.width ws wide in
      let fits_x = expr_fits known ws v a.operations.items base x wide agrees s.0 constants.0 h.nets in
      let fits_y = expr_fits known ws v a.operations.items base y wide agrees s.1 constants.1 k.nets in
      added c d base _ w.place adds long_c
      ∙ (rw (l, r, same) (result_is op (width_of ws x) (value_of ws v x) (value_of ws v y) (subst (λ n. n ≤ 128) same narrow) fits_x (subst (λ n. value_of ws v y < 2 ^ n) (sym s.2) fits_y)));
}

pub compiled_pick : (known : Known) (t x y : Expr) (a b c d e : Listing) (test chosen other w : Wire) → Compiles known t a b test → Compiles known x b c chosen → Compiles known y c d other
    → Adds d e (Pick test.place chosen.place other.place) w.place → w.width ≡ chosen.width → Compiles known (expr.Pick t x y) a e w
compiled_pick known t x y a b c d e test chosen other w h k j adds width = record {
  extends = extends_both a b e h.extends (extends_both b c e k.extends (extends_both c d e j.extends (extends_one d e _ w.place adds)));
  below = end_adds d e _ w.place adds;
  nets = each_append (λ n. IsSome (known_at known n)) (nets_of t) _ h.nets (each_append (λ n. IsSome (known_at known n)) (nets_of x) (nets_of y) k.nets j.nets);
  width = λ ws wide. width ∙ k.width ws wide;
  value = λ ws v base long wide sized constants agrees.
      let s = pick_sized (is_sized ws t) (is_sized ws x) (is_sized ws y) (width_of ws t) (width_of ws x) (width_of ws y) sized in
      let long_b : length base ≡ b.first = long ∙ sym h.extends.first in
      let long_c : length base ≡ c.first = long_b ∙ sym k.extends.first in
      let long_d : length base ≡ d.first = long_c ∙ sym j.extends.first in
      let agrees_b = agrees_extends known a b base v h.extends agrees in
      let agrees_c = agrees_extends known b c base v k.extends agrees_b in
      let tv : get_or (values_after d.operations.items base) test.place 0 ≡ value_of ws v t
      = kept b d base test.place (value_of ws v t) (extends_both b c d k.extends j.extends) long_b h.below (h.value ws v base long wide s.0 constants.0 agrees) in
      let xv : get_or (values_after d.operations.items base) chosen.place 0 ≡ value_of ws v x
      = kept c d base chosen.place (value_of ws v x) j.extends long_c k.below (k.value ws v base long_b wide s.1 constants.1 agrees_b) in
      let yv : get_or (values_after d.operations.items base) other.place 0 ≡ value_of ws v y = j.value ws v base long_c wide s.2 constants.2 agrees_c in
      added d e base _ w.place adds long_d ∙ rw (tv, xv, yv) refl;
}
