-- Printed expressions: the nets that they read, their widths, and their values.
use Rattle.std.proofs.Common.{◌≡◌, ℕ, ◌+◌, ◌*◌, ◌-◌, ◌%◌, ◌^◌, ◌<◌, ◌≤◌, ◌==◌, Bool, true, false, ◌&&◌, if◌then◌else◌, nat_le, nat_lt, List, [], ◌∷◌, map, refl, ap, sym, ◌∙◌, arith}
use Rattle.std.proofs.lemmas.Map.Views.{exact_unsigned_eq}
use Rattle.std.proofs.lemmas.Nat.{and_mask}
use Rattle.rb_base.specs.Bits.{part}
use Rattle.rtl_net.specs.Value.{expr_width, expr_value, operands}
use Rattle.rtl_net.specs.Net.{Net, Has, width_in, widths, CanWire}
use Rattle.rtl_net.specs.declared.node.Id.{Id}
use Rattle.rtl_net.specs.declared.node.NetExpr.{NetExpr}
use Rattle.rtl_net.specs.declared.node.NetExpr.TheVariants as exprs
use Rattle.v_design.specs.Expr.{Expr, Widths, Values, nets_of, width_of, is_sized, value_of}
use Rattle.v_design.specs.Tree.{Plain, Joined, Whole, Bit, Part, Sized}
use Rattle.v_design.specs.declared.design.VTwo.TheVariants.{And}
use Rattle.v_design.specs.Design.{expr_of}
use Rattle.v_printer.specs.Module.{node_name, term_of}
use Rattle.v_printer.proofs.Choices.{same_number}
use Rattle.plain_lemmas.proofs.Numbers.{below-nat_lt as less, most}

not_equal : (a b : ℕ) → (a == b) ≡ false → a ≡ b → ⊥
not_equal a b h e = absurd (let q : true ≡ false = sym (same_number a b e) ∙ h in cc)

more : (w : ℕ) → (w ≡ 1 → ⊥) → 0 < w → 1 < w
more w ne p = omega arith

three : (a b c : Bool) → a ≡ true → b ≡ true → c ≡ true → (a && b && c) ≡ true
three a b c p q r = rw (p, q, r)

abbrev choice : Bool → Bool → List ℕ → ℕ → ℕ → Expr
choice b d n hi lo = expr_of (if b then Joined And (Whole n) (Sized 1 1) else Plain (if d then Bit n hi else Part n hi lo))

module _ (n : List ℕ) (hi lo : ℕ) where
  nets_choice : (b d : Bool) → nets_of (choice b d n hi lo) ≡ n ∷ []
  nets_choice true d = refl
  nets_choice false true = refl
  nets_choice false false = refl

  module _ (ws : Widths) (w : ℕ) (same : ws n ≡ w) (order : lo ≤ hi) (within : hi < w) where
    width_choice : (b d : Bool) → (w == 1) ≡ b → (hi == lo) ≡ d → width_of ws (choice b d n hi lo) ≡ hi - lo + 1
    width_choice true d e f = let one : w ≡ 1 = exact_unsigned_eq w 1 e in omega arith
    width_choice false true e f = let h : hi ≡ lo = exact_unsigned_eq hi lo f in omega arith
    width_choice false false e f = refl

    wide_net : (w == 1) ≡ false → 1 < ws n
    wide_net e = let ne : w ≡ 1 → ⊥ = not_equal w 1 e in let p : 1 < w = more w ne (omega arith) in omega arith

    inside : hi < ws n
    inside = omega arith

    sized_choice' : (d : Bool) → (w == 1) ≡ false → is_sized ws (choice false d n hi lo) ≡ true
    sized_choice' true e = three (nat_le hi hi) (nat_lt hi (ws n)) (nat_lt 1 (ws n)) (most hi hi (omega arith)) (less hi (ws n) inside) (less 1 (ws n) (wide_net e))
    sized_choice' false e = three (nat_le lo hi) (nat_lt hi (ws n)) (nat_lt 1 (ws n)) (most lo hi order) (less hi (ws n) inside) (less 1 (ws n) (wide_net e))

    sized_choice : (b d : Bool) → (w == 1) ≡ b → is_sized ws (choice b d n hi lo) ≡ true
    sized_choice true d e = let one : w ≡ 1 = exact_unsigned_eq w 1 e in same_number (ws n) 1 (same ∙ one)
    sized_choice false d e = sized_choice' d e

  value_choice : (ws : Widths) (v : Values) (w : ℕ) → lo ≤ hi → hi < w → (b d : Bool) → (w == 1) ≡ b → (hi == lo) ≡ d → value_of ws v (choice b d n hi lo) ≡ part (v n) hi lo
  value_choice ws v w o h true d e f =
      let one : w ≡ 1 = exact_unsigned_eq w 1 e in
      let z : hi ≡ 0 = omega arith in
      let y : lo ≡ 0 = omega arith in
      and_mask (v n) 1 ∙ (first (v n) ∙ (ap (λ x. part (v n) x 0) (sym z) ∙ ap (λ x. part (v n) hi x) (sym y)))
    where
      first : (x : ℕ) → x % 2 ≡ part x 0 0
      first x = omega arith
  value_choice ws v w o h false true e f = ap (λ x. part (v n) hi x) (exact_unsigned_eq hi lo f)
  value_choice ws v w o h false false e f = refl

module _ (net : Net) where
  abbrev nm : Id → List ℕ
  nm a = node_name net.nodes a.0

  pub nets_are_operands : (e : NetExpr) → nets_of (expr_of (term_of net e)) ≡ map nm (operands e)
  nets_are_operands (exprs.Const w x) = refl
  nets_are_operands (exprs.Part a hi lo) = nets_choice (nm a) hi lo (width_in net a == 1) (hi == lo)
  nets_are_operands (exprs.Cat a b) = refl
  nets_are_operands (exprs.Not a) = refl
  nets_are_operands (exprs.All a) = refl
  nets_are_operands (exprs.Any a) = refl
  nets_are_operands (exprs.Odd a) = refl
  nets_are_operands (exprs.Add a b) = refl
  nets_are_operands (exprs.Sub a b) = refl
  nets_are_operands (exprs.And a b) = refl
  nets_are_operands (exprs.Or a b) = refl
  nets_are_operands (exprs.Xor a b) = refl
  nets_are_operands (exprs.Eq a b) = refl
  nets_are_operands (exprs.Lt a b) = refl
  nets_are_operands (exprs.Pick c a b) = refl

  module _ (ws : Widths) (wide : (a : Id) → Has net a → ws (nm a) ≡ width_in net a) where
    pub width_is : (e : NetExpr) → CanWire net e → width_of ws (expr_of (term_of net e)) ≡ expr_width (widths net) e
    width_is (exprs.Const w x) h = refl
    width_is (exprs.Part a hi lo) h = width_choice (nm a) hi lo ws (width_in net a) (wide a h.0) h.1 h.2 (width_in net a == 1) (hi == lo) refl refl
    width_is (exprs.Cat a b) h = let p = wide a h.0 in let q = wide b h.1 in sum_is (ws (nm a)) (ws (nm b)) (width_in net a) (width_in net b) p q
      where
        sum_is : (x y u v : ℕ) → x ≡ u → y ≡ v → x + (y + 0) ≡ u + v
        sum_is x y u v p q = omega arith
    width_is (exprs.Not a) h = wide a h
    width_is (exprs.All a) h = refl
    width_is (exprs.Any a) h = refl
    width_is (exprs.Odd a) h = refl
    width_is (exprs.Add a b) h = wide a h.0
    width_is (exprs.Sub a b) h = wide a h.0
    width_is (exprs.And a b) h = wide a h.0
    width_is (exprs.Or a b) h = wide a h.0
    width_is (exprs.Xor a b) h = wide a h.0
    width_is (exprs.Eq a b) h = refl
    width_is (exprs.Lt a b) h = refl
    width_is (exprs.Pick c a b) h = wide a h.1

    pair : (a b : Id) → Has net a → Has net b → width_in net a ≡ width_in net b → (ws (nm a) == ws (nm b)) ≡ true
    pair a b p q e = same_number (ws (nm a)) (ws (nm b)) (wide a p ∙ (e ∙ sym (wide b q)))

    pub sized_is : (e : NetExpr) → CanWire net e → is_sized ws (expr_of (term_of net e)) ≡ true
    sized_is (exprs.Const w x) h = refl
    sized_is (exprs.Part a hi lo) h = sized_choice (nm a) hi lo ws (width_in net a) (wide a h.0) h.1 h.2 (width_in net a == 1) (hi == lo) refl
    sized_is (exprs.Cat a b) h = let p : ws (nm a) ≡ width_in net a = wide a h.0 in let q : ws (nm b) ≡ width_in net b = wide b h.1 in most (ws (nm a) + (ws (nm b) + 0)) 128 (omega (arith, h.2))
    sized_is (exprs.Not a) h = refl
    sized_is (exprs.All a) h = refl
    sized_is (exprs.Any a) h = refl
    sized_is (exprs.Odd a) h = refl
    sized_is (exprs.Add a b) h = pair a b h.0 h.1 h.2
    sized_is (exprs.Sub a b) h = pair a b h.0 h.1 h.2
    sized_is (exprs.And a b) h = pair a b h.0 h.1 h.2
    sized_is (exprs.Or a b) h = pair a b h.0 h.1 h.2
    sized_is (exprs.Xor a b) h = pair a b h.0 h.1 h.2
    sized_is (exprs.Eq a b) h = pair a b h.0 h.1 h.2
    sized_is (exprs.Lt a b) h = pair a b h.0 h.1 h.2
    sized_is (exprs.Pick c a b) h = two (ws (nm c) == 1) (ws (nm a) == ws (nm b)) (same_number (ws (nm c)) 1 (wide c h.0 ∙ h.3)) (pair a b h.1 h.2 h.4)
      where
        two : (x y : Bool) → x ≡ true → y ≡ true → (x && y) ≡ true
        two x y p q = rw (p, q)

    pub value_is : (v : Values) (e : NetExpr) → CanWire net e → value_of ws v (expr_of (term_of net e)) ≡ expr_value (widths net) (λ i. v (node_name net.nodes i)) e
    value_is v (exprs.Const w x) h = refl
    value_is v (exprs.Part a hi lo) h = value_choice (nm a) hi lo ws v (width_in net a) h.1 h.2 (width_in net a == 1) (hi == lo) refl refl
    value_is v (exprs.Cat a b) h =
        let q : ws (nm b) + 0 ≡ width_in net b = let p : ws (nm b) ≡ width_in net b = wide b h.1 in omega arith in
        let r : v (nm b) * 2 ^ 0 + 0 ≡ v (nm b) = omega arith in
        ap (λ w. v (nm a) * 2 ^ w + (v (nm b) * 2 ^ 0 + 0)) q ∙ ap (λ x. v (nm a) * 2 ^ width_in net b + x) r
    value_is v (exprs.Not a) h = ap (λ w. 2 ^ w - 1 - v (nm a)) (wide a h)
    value_is v (exprs.All a) h = ap (λ w. if v (nm a) == 2 ^ w - 1 then 1 else 0) (wide a h)
    value_is v (exprs.Any a) h = refl
    value_is v (exprs.Odd a) h = refl
    value_is v (exprs.Add a b) h = ap (λ w. (v (nm a) + v (nm b)) % 2 ^ w) (wide a h.0)
    value_is v (exprs.Sub a b) h = ap (λ w. (v (nm a) + 2 ^ w - v (nm b)) % 2 ^ w) (wide a h.0)
    value_is v (exprs.And a b) h = refl
    value_is v (exprs.Or a b) h = refl
    value_is v (exprs.Xor a b) h = refl
    value_is v (exprs.Eq a b) h = refl
    value_is v (exprs.Lt a b) h = refl
    value_is v (exprs.Pick c a b) h = refl
