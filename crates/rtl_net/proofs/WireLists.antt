-- The wires of a netlist by their expressions.
use Rattle.std.proofs.Math.ListN.{set}
use Rattle.std.proofs.Common.{◌≡◌, ℕ, true, false, List, [], ◌∷◌, ◌++◌, length, slice_get, Option, Some, None, IfSome, IfNone, Result, Ok, Err, OnErr, inl, inr, refl, ap, sym, ◌∙◌, subst}
use Rattle.rtl_net.specs.Shared.{AreWires, LacksWire, NotesWire, SameWires, is_wire, wire_under}
use Rattle.rtl_net.specs.declared.node.Id.{Id}
use Rattle.rtl_net.specs.declared.node.NetReset.{NetReset}
use Rattle.rtl_net.specs.declared.node.NetExpr.{NetExpr}
use Rattle.rtl_net.specs.declared.node.NetNode.{NetNode}
use Rattle.rtl_net.specs.declared.node.NetNode.TheVariants.{Register, Wire}
use Rattle.rtl_net.specs.declared.wires.Wires.{Wires}
use Rattle.rtl_net.specs.contracts.node.NetExprPartialEq.TheImpl.{eq-value}
use Rattle.rtl_net.proofs.Exprs.{eq_expr}
use Rattle.rtl_net.proofs.Places.{push_cases, set_cases, slice_get-front, slice_get-end, slice_get-set_other, one_item}
use Rattle.plain_lemmas.proofs.Bools.{true_or_false as told}

true_false : true ≡ false → ⊥
true_false p = cc

not_wire : (n : NetNode) (e : NetExpr) → is_wire n ≡ false → n ≡ Wire e → ⊥
not_wire n e h q = true_false (sym (ap is_wire q) ∙ h)

-- what holds of each wire of some nodes, and of each expression that they lack, holds of those of others that have the same wires
module _ (wires wires' : Wires) (ns ns' : List NetNode) (same : SameWires wires wires')
    (down : (i : ℕ) (e : NetExpr) → slice_get ns i ≡ Some (Wire e) → slice_get ns' i ≡ Some (Wire e))
    (up : (i : ℕ) (e : NetExpr) → slice_get ns' i ≡ Some (Wire e) → slice_get ns i ≡ Some (Wire e)) where
  wires_moved : AreWires wires ns → AreWires wires' ns'
  wires_moved h = record {
    found = λ e. subst (λ o. IfSome o (λ id. slice_get ns' id.0 ≡ Some (Wire e))) (sym (same e)) (there e (wire_under wires e) (h.found e));
    absent = λ e. subst (λ o. IfNone o (LacksWire ns' e)) (sym (same e)) (gone e (wire_under wires e) (h.absent e));
  }
    where
      there : (e : NetExpr) (o : Option Id) → IfSome o (λ id. slice_get ns id.0 ≡ Some (Wire e)) → IfSome o (λ id. slice_get ns' id.0 ≡ Some (Wire e))
      there e None q = tt
      there e (Some id) q = down id.0 e q

      gone : (e : NetExpr) (o : Option Id) → IfNone o (LacksWire ns e) → IfNone o (LacksWire ns' e)
      gone e None q = λ i w. q i (up i e w)
      gone e (Some id) q = tt

pub wires_same : (wires wires' : Wires) (ns ns' : List NetNode) → AreWires wires ns → SameWires wires wires' → ns' ≡ ns → AreWires wires' ns'
wires_same wires wires' ns ns' h same e = subst (AreWires wires') (sym e) (wires_moved wires wires' ns ns same (λ i x w. w) (λ i x w. w) h)

pub wires_none : (wires : Wires) → ((e : NetExpr) → wire_under wires e ≡ None) → AreWires wires []
wires_none wires h = record {
  found = λ e. subst (λ o. IfSome o (λ id. slice_get [] id.0 ≡ Some (Wire e))) (sym (h e)) tt;
  absent = λ e. subst (λ o. IfNone o (LacksWire [] e)) (sym (h e)) (λ i w. cc);
}

-- a node that is no wire, at the end
module _ (ns : List NetNode) (n : NetNode) (leaf : is_wire n ≡ false) where
  in_front : (i : ℕ) (e : NetExpr) → slice_get (ns ++ n ∷ []) i ≡ Some (Wire e) → slice_get ns i ≡ Some (Wire e)
  in_front i e w = elim (push_cases ns n i (Wire e) w) [
    | inl f ↦ f
    | inr l ↦ absurd (not_wire n e leaf (sym l.1))
  ]

  pub wires_leaf : (wires : Wires) (ns' : List NetNode) → AreWires wires ns → ns' ≡ ns ++ n ∷ [] → AreWires wires ns'
  wires_leaf wires ns' h e = subst (AreWires wires) (sym e) (wires_moved wires wires ns (ns ++ n ∷ []) (λ x. refl) (λ i x w. slice_get-front ns n i (Wire x) w) in_front h)

  pub wires_popped : (wires : Wires) → AreWires wires (ns ++ n ∷ []) → AreWires wires ns
  wires_popped wires h = wires_moved wires wires (ns ++ n ∷ []) ns (λ x. refl) in_front (λ i x w. slice_get-front ns n i (Wire x) w) h

-- a register that is tied
pub wires_tied : (name : List ℕ) (w : ℕ) (reset : NetReset) (next : Option Id) (wires : Wires) (ns : List NetNode) (k : ℕ) → slice_get ns k ≡ Some (Register name w reset None)
    → AreWires wires ns → AreWires wires (set ns k (Register name w reset next))
wires_tied name w reset next wires ns k at h = wires_moved wires wires ns (set ns k (Register name w reset next)) (λ x. refl) down up h
  where
    down : (i : ℕ) (e : NetExpr) → slice_get ns i ≡ Some (Wire e) → slice_get (set ns k (Register name w reset next)) i ≡ Some (Wire e)
    down i e q = slice_get-set_other ns k i (Register name w reset next) (Wire e) (λ z. not_wire (Register name w reset None) e refl (one_item ns k (Register name w reset None) (Wire e) at (subst (λ j. slice_get ns j ≡ Some (Wire e)) z q))) q

    up : (i : ℕ) (e : NetExpr) → slice_get (set ns k (Register name w reset next)) i ≡ Some (Wire e) → slice_get ns i ≡ Some (Wire e)
    up i e q = elim (set_cases ns k (Register name w reset next) i (Wire e) q) [
      | inl p ↦ p.1
      | inr p ↦ absurd (not_wire (Register name w reset next) e refl (sym p.1))
    ]

-- a new wire at the end
module _ (old new : Wires) (ns : List NetNode) (x : NetExpr) (id : Id) (h : AreWires old ns) (at : id.0 ≡ length ns) (put : NotesWire old new x (Some id)) where
  abbrev more : List NetNode
  more = ns ++ Wire x ∷ []

  abbrev IsFound : NetExpr → Option Id → Type 0
  IsFound e o = IfSome o (λ d. slice_get more d.0 ≡ Some (Wire e))

  abbrev IsAbsent : NetExpr → Option Id → Type 0
  IsAbsent e o = IfNone o (LacksWire more e)

  its_found : (e : NetExpr) → x ≡ e → IsFound e (wire_under new e)
  its_found e z = subst (λ y. IsFound y (wire_under new y)) z (subst (IsFound x) (sym put.at) (slice_get-end ns (Wire x) id.0 at))

  its_absent : (e : NetExpr) → x ≡ e → IsAbsent e (wire_under new e)
  its_absent e z = subst (λ y. IsAbsent y (wire_under new y)) z (subst (IsAbsent x) (sym put.at) tt)

  there : (e : NetExpr) (o : Option Id) → IfSome o (λ d. slice_get ns d.0 ≡ Some (Wire e)) → IsFound e o
  there e None q = tt
  there e (Some d) q = slice_get-front ns (Wire x) d.0 (Wire e) q

  gone : (e : NetExpr) (o : Option Id) → (e ≡ x → ⊥) → IfNone o (LacksWire ns e) → IsAbsent e o
  gone e (Some d) other q = tt
  gone e None other q = λ i w. elim (push_cases ns (Wire x) i (Wire e) w) [
    | inl f ↦ q i f
    | inr l ↦ other cc
  ]

  -- the expression, or another one
  by_expr : (e : NetExpr) (P : Type 0) → (x ≡ e → P) → ((e ≡ x → ⊥) → P) → P
  by_expr e P same other = elim (told (eq-value.it x e)) [
    | inl t ↦ same ((eq_expr x e).0 t)
    | inr f ↦ other (λ z. true_false (sym ((eq_expr x e).1 (sym z)) ∙ f))
  ]

  pub wires_wire : AreWires new more
  wires_wire = record {
    found = λ e. by_expr e (IsFound e (wire_under new e)) (its_found e) (λ other. subst (IsFound e) (sym (put.elsewhere e other)) (there e (wire_under old e) (h.found e)));
    absent = λ e. by_expr e (IsAbsent e (wire_under new e)) (its_absent e) (λ other. subst (IsAbsent e) (sym (put.elsewhere e other)) (gone e (wire_under old e) other (h.absent e)));
  }

-- an expression that is noted and forgotten, where it had no number
pub wires_forgotten : (old mid new : Wires) (x : NetExpr) (id : Option Id) → wire_under old x ≡ None → NotesWire old mid x id → NotesWire mid new x None → SameWires old new
wires_forgotten old mid new x id lacks put gone e = elim (told (eq-value.it x e)) [
  | inl t ↦ subst (λ y. wire_under new y ≡ wire_under old y) ((eq_expr x e).0 t) (gone.at ∙ sym lacks)
  | inr f ↦ let other : (e ≡ x → ⊥) = λ z. true_false (sym ((eq_expr x e).1 (sym z)) ∙ f) in gone.elsewhere e other ∙ put.elsewhere e other
]

pub on_err : {T E : Type 0} (r : Result T E) (P : Type 0) → P → OnErr r P
on_err (Ok x) P p = tt
on_err (Err e) P p = p
