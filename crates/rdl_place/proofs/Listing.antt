-- The failures that were collected are those of the phase.
use Rattle.std.proofs.Common.{◌≡◌, ◌∙◌, ◌↔◌, ◌==◌, inl, inr, ℕ, suc, true, false, length, List, [], ◌∷◌, ◌++◌, flat_map, filter, Contains, Some, refl, sym, ap, subst, arith}
use Rattle.std.proofs.lemmas.Bool.Decides.{nat_tests}
use Rattle.rdl_base.specs.declared.fault.Fault.{Fault}
use Rattle.rdl_tree.specs.declared.item.Kind.TheVariants as kind
use Rattle.rdl_tree.specs.declared.node.Elab.{Elab}
use Rattle.rdl_values.specs.Bodies.{standing}
use Rattle.rdl_values.specs.Elaborated.{nodes_of, top_name}
use Rattle.rdl_values.specs.Faults.{at_}
use Rattle.rdl_values.specs.Instances.{top_of}
use Rattle.rdl_values.specs.Verdict.{IsListOf}
use Rattle.rdl_values.proofs.Sorted.{none_fails}
use Rattle.rdl_layers.specs.Fields.{is_a}
use Rattle.rdl_nodes.proofs.Members.{In, in-either, in-from, in-left, in-right, in-to}
use Rattle.rdl_addr.specs.Answers.{IsPlaced, places_fail}
use Rattle.rdl_addr.specs.Bits.{bits_of}
use Rattle.rdl_addr.specs.Rules.{all_groups, failures_ab, misaligned, no_alignment, of_bits, overlaps, small_stride, too_large, too_many}
use Rattle.rdl_bits.specs.Failing.{failures_of_addresses, registers_of}
use Rattle.rdl_bits.specs.Judged.{failures_of_bits, failures_of_bodies}

either : {R : Type 0} (xs ys : List Fault) (f : Fault) → In (xs ++ ys) f → (In xs f → R) → (In ys f → R) → R
either xs ys f h l r = elim (in-either xs ys f h) [ inl p ↦ l p | inr p ↦ r p ]

-- a list's length tells whether it is empty
pub none-listed : (xs : List Fault) (n : ℕ) → n ≡ length xs → (n == 0) ≡ true → xs ≡ []
none-listed [] n is e = refl
none-listed (x ∷ xs) n is e = absurd (clash n (length xs) is e)
  where
    clash : (n k : ℕ) → n ≡ suc k → (n == 0) ≡ true → ⊥
    clash n k is e = grind (arith, nat_tests, is, e)

pub some-listed : (xs : List Fault) (n : ℕ) → n ≡ length xs → (n == 0) ≡ false → xs ≡ [] → ⊥
some-listed xs n is e none = clash n (is ∙ ap length none) e
  where
    clash : (n : ℕ) → n ≡ 0 → (n == 0) ≡ false → ⊥
    clash n is e = grind (arith, nat_tests, is, e)

-- Two orders of the same lists.
module _ (a b c d o m t : List Fault) (f : Fault) where
  abbrev l1 : List Fault
  l1 = a ++ b

  abbrev l2 : List Fault
  l2 = l1 ++ c

  abbrev l3 : List Fault
  l3 = l2 ++ d

  abbrev l4 : List Fault
  l4 = l3 ++ o

  abbrev l5 : List Fault
  l5 = l4 ++ m

  abbrev k1 : List Fault
  k1 = o ++ c

  abbrev k2 : List Fault
  k2 = k1 ++ d

  abbrev k3 : List Fault
  k3 = k2 ++ m

  abbrev k4 : List Fault
  k4 = k3 ++ l1

  by-phase : In (k4 ++ t) f → In (l5 ++ t) f
  by-phase h =
      either k4 t f h
      (λ h. either k3 l1 f h
      (λ h. either k2 m f h
      (λ h. either k1 d f h
      (λ h. either o c f h
      (λ h. in-left l5 t f (in-left l4 m f (in-right l3 o f h)))
      (λ h. in-left l5 t f (in-left l4 m f (in-left l3 o f (in-left l2 d f (in-right l1 c f h))))))
      (λ h. in-left l5 t f (in-left l4 m f (in-left l3 o f (in-right l2 d f h)))))
      (λ h. in-left l5 t f (in-right l4 m f h)))
      (λ h. in-left l5 t f (in-left l4 m f (in-left l3 o f (in-left l2 d f (in-left l1 c f h))))))
      (λ h. in-right l5 t f h)

  by-step : In (l5 ++ t) f → In (k4 ++ t) f
  by-step h =
      either l5 t f h
      (λ h. either l4 m f h
      (λ h. either l3 o f h
      (λ h. either l2 d f h
      (λ h. either l1 c f h
      (λ h. in-left k4 t f (in-right k3 l1 f h))
      (λ h. in-left k4 t f (in-left k3 l1 f (in-left k2 m f (in-left k1 d f (in-right o c f h))))))
      (λ h. in-left k4 t f (in-left k3 l1 f (in-left k2 m f (in-right k1 d f h)))))
      (λ h. in-left k4 t f (in-left k3 l1 f (in-left k2 m f (in-left k1 d f (in-left o c f h))))))
      (λ h. in-left k4 t f (in-left k3 l1 f (in-right k2 m f h))))
      (λ h. in-right k4 t f h)

module _ (e : Elab) where
  abbrev strides : List Fault
  strides = flat_map small_stride (all_groups (Some (top_name e)) e.source.now)

  abbrev alignments : List Fault
  alignments = flat_map no_alignment (nodes_of e)

  abbrev odd : List Fault
  odd = flat_map misaligned (registers_of e)

  abbrev far : List Fault
  far = flat_map too_large (registers_of e)

  abbrev shared : List Fault
  shared = overlaps (registers_of e)

  abbrev many : List Fault
  many = too_many (top_of (Some (top_name e)) e.source.now) (registers_of e)

  abbrev of_fields : List Fault
  of_fields = flat_map (λ r. flat_map (of_bits r) (standing (bits_of r))) (filter (is_a kind.Reg) (nodes_of e))

  -- all that is collected: of addresses, of bodies, of bits
  collected : (f : Fault) → Contains (failures_of_addresses e ++ failures_of_bodies e ++ failures_of_bits e) f ↔ Contains (failures_ab (Some (top_name e)) e.source.now) f
  unfolding failures_of_addresses failures_of_bodies failures_of_bits failures_ab
  collected f = (
    (λ h. in-to (failures_ab (Some (top_name e)) e.source.now) f (by-phase strides alignments odd far shared many of_fields f (in-from (failures_of_addresses e ++ failures_of_bodies e ++ failures_of_bits e) f h))),
    (λ h. in-to (failures_of_addresses e ++ failures_of_bodies e ++ failures_of_bits e) f (by-step strides alignments odd far shared many of_fields f (in-from (failures_ab (Some (top_name e)) e.source.now) f h))),
  )

  pub all-failures : (fs ss ts : List Fault) → fs ≡ failures_of_addresses e ++ ss ++ ts → ((f : Fault) → Contains ss f ↔ Contains (failures_of_bodies e) f) → ((f : Fault) → Contains ts f ↔ Contains (failures_of_bits e) f)
      → (f : Fault) → Contains fs f ↔ Contains (failures_ab (Some (top_name e)) e.source.now) f
  all-failures fs ss ts is bodies bits f =
      let all = collected f in
      let first = failures_of_addresses e in
      let to : In (first ++ ss ++ ts) f → In (first ++ failures_of_bodies e ++ failures_of_bits e) f = λ h.
      either (first ++ ss) ts f h
      (λ h. either first ss f h
      (λ h. in-left (first ++ failures_of_bodies e) (failures_of_bits e) f (in-left first (failures_of_bodies e) f h))
      (λ h. in-left (first ++ failures_of_bodies e) (failures_of_bits e) f (in-right first (failures_of_bodies e) f (in-from (failures_of_bodies e) f ((bodies f).0 (in-to ss f h))))))
      (λ h. in-right (first ++ failures_of_bodies e) (failures_of_bits e) f (in-from (failures_of_bits e) f ((bits f).0 (in-to ts f h))))
      in
      let from : In (first ++ failures_of_bodies e ++ failures_of_bits e) f → In (first ++ ss ++ ts) f = λ h.
      either (first ++ failures_of_bodies e) (failures_of_bits e) f h
      (λ h. either first (failures_of_bodies e) f h
      (λ h. in-left (first ++ ss) ts f (in-left first ss f h))
      (λ h. in-left (first ++ ss) ts f (in-right first ss f (in-from ss f ((bodies f).1 (in-to (failures_of_bodies e) f h))))))
      (λ h. in-right (first ++ ss) ts f (in-from ts f ((bits f).1 (in-to (failures_of_bits e) f h))))
      in (
        (λ h. all.0 (in-to (first ++ failures_of_bodies e ++ failures_of_bits e) f (to (in-from (first ++ ss ++ ts) f (subst (λ xs. Contains xs f) is h))))),
        (λ h. subst (λ xs. Contains xs f) (sym is) (in-to (first ++ ss ++ ts) f (from (in-from (first ++ failures_of_bodies e ++ failures_of_bits e) f (all.1 h))))),
      )

  pub listed-all : (fs list : List Fault) → ((f : Fault) → Contains fs f ↔ Contains (failures_ab (Some (top_name e)) e.source.now) f) → IsListOf (λ rule place. Contains fs (at_ rule place)) list → IsListOf (places_fail e) list
  listed-all fs list same h = record { ordered = h.ordered; exact = λ f. let x = h.exact f in let y = same f in ((λ q. y.0 (x.0 q)), (λ q. x.1 (y.1 q))) }

  -- an empty list says that nothing fails
  pub none-placed : (fs list : List Fault) (n : ℕ) → ((f : Fault) → Contains fs f ↔ Contains (failures_ab (Some (top_name e)) e.source.now) f) → IsListOf (λ rule place. Contains fs (at_ rule place)) list → n ≡ length list → (n == 0) ≡ true → IsPlaced e
  none-placed fs list n same h is empty = subst (IsListOf (places_fail e)) (none-listed list n is empty) (listed-all fs list same h)

  nil-left : (xs ys : List Fault) → xs ++ ys ≡ [] → xs ≡ []
  nil-left [] ys q = refl
  nil-left (x ∷ xs) ys q = cc q

  nil-right : (xs ys : List Fault) → xs ++ ys ≡ [] → ys ≡ []
  nil-right [] ys q = q
  nil-right (x ∷ xs) ys q = cc q

  -- where nothing fails, no register is too far, and no field outside its register
  module _ (placed : IsPlaced e) where
    nothing : strides ++ alignments ++ odd ++ far ++ shared ++ many ++ of_fields ≡ []
    unfolding failures_ab
    nothing = none_fails (failures_ab (Some (top_name e)) e.source.now) placed

    pub none-outside : flat_map (λ r. flat_map (of_bits r) (standing (bits_of r))) (filter (is_a kind.Reg) (nodes_of e)) ≡ []
    none-outside = nil-right (strides ++ alignments ++ odd ++ far ++ shared ++ many) of_fields nothing

    pub none-far : flat_map too_large (registers_of e) ≡ []
    none-far =
        nil-right (strides ++ alignments ++ odd) far
        (nil-left (strides ++ alignments ++ odd ++ far) shared (nil-left (strides ++ alignments ++ odd ++ far ++ shared) many (nil-left (strides ++ alignments ++ odd ++ far ++ shared ++ many) of_fields nothing)))
