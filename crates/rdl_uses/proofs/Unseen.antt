-- The uses of a type that is not visible, one by one.
use Rattle.std.proofs.Common.{◌≡◌, ◌∙◌, ℕ, ◌+◌, ◌<◌, Bool, true, false, ◌&&◌, List, [], ◌∷◌, ◌++◌, length, get_or, take, map, flat_map, is_none, option_copied, refl, sym, ap, subst, append_assoc, append-nil}
use Rattle.std.specs.List.{list_any}
use Rattle.std.proofs.lemmas.Grind.{flat_map-append}
use Rattle.std.proofs.lemmas.List.{map-append, take_more}
use Rattle.rdl_base.specs.declared.fault.Fault.{Fault}
use Rattle.rb_base.specs.declared.place.Place.{Place}
use Rattle.rdl_base.specs.declared.rule.Rule.TheVariants as rules
use Rattle.rdl_tree.specs.declared.item.Inst.{Inst}
use Rattle.rdl_values.specs.Bodies.{same_name, standing_from}
use Rattle.rdl_values.specs.Faults.{at_, when}
use Rattle.rdl_values.specs.NoNode.{is_primary, name_twice}
use Rattle.rdl_values.specs.Parts.{is_empty}
use Rattle.rdl_values.specs.Phase3.{of_use}
use Rattle.rdl_values.specs.Uses.{Seen, Use}
use Rattle.rdl_failures.specs.Noted.{IsNoted, with_all}
use Rattle.rdl_failures.proofs.Noting.{both_noted, noted_as, standing_from-push}
use Rattle.rdl_failures.proofs.Sets.{with_all-append}
use Rattle.rdl_uses.specs.Before.{AreEarlier}
use Rattle.rdl_uses.specs.Unknown.{UnknownType, unknown_by, unknown_seen, unknown_seens}
use Rattle.rdl_uses.specs.declared.earlier.Earlier.{Earlier}

-- What was done for some instances, behind others of the body.
pub record DoneUnseen (t : UnknownType) (us : List Use) (is : List Inst) (e : Earlier) (l0 l1 : List Fault) : Type 0 where
  pub earlier : AreEarlier e (us ++ map (unknown_by t) is)
  pub noted : l1 ≡ with_all (flat_map of_use (unknown_seens t us is)) l0

module _ (t : UnknownType) (us : List Use) where
  abbrev here : List Inst → Inst → Seen
  here is i = unknown_seen t (us ++ map (unknown_by t) is, unknown_by t i)

  seens-push : (is : List Inst) (i : Inst) → unknown_seens t us (is ++ (i ∷ [])) ≡ unknown_seens t us is ++ (here is i ∷ [])
  seens-push is i =
      ap (λ xs. map (unknown_seen t) (standing_from us xs)) (map-append (unknown_by t) is (i ∷ [])) ∙ ap (map (unknown_seen t)) (standing_from-push us (map (unknown_by t) is) (unknown_by t i))
      ∙ map-append (unknown_seen t) (standing_from us (map (unknown_by t) is)) ((us ++ map (unknown_by t) is, unknown_by t i) ∷ [])

  both-false : (a b c : Bool) → (a && (b && c && false)) ≡ false
  both-false true true true = refl
  both-false true true false = refl
  both-false true false c = refl
  both-false false b c = refl

  no-primary : (i : Inst) → is_primary (unknown_by t i) ≡ false
  no-primary i = both-false (is_none t.alias) (is_empty i.dims.now) (is_none (option_copied i.range))

  pub unseen_more : (is : List Inst) (k : ℕ) → k < length is → (e e' : Earlier) (l0 l1 l2 l3 : List Fault) (i : Inst) (place : Place) (x a b : Bool) → t.place ≡ place → i ≡ get_or is k i → DoneUnseen t us (take k is) e l0 l1
      → ((us : List Use) → AreEarlier e us → x ≡ list_any (λ u. same_name u.name i.name) us) → IsNoted (when x (at_ rules.E4 i.name.place)) a l1 l2 → IsNoted (when true (at_ rules.E3 place)) b l2 l3
      → ((us : List Use) (u : Use) → AreEarlier e us → u.name ≡ i.name → is_primary u ≡ false → AreEarlier e' (us ++ (u ∷ [])))
      → DoneUnseen t us (take (k + 1) is) e' l0 l3
  unseen_more is k l e e' l0 l1 l2 l3 i place x a b at item inv twice n4 n3 pushed =
      let before = us ++ map (unknown_by t) (take k is) in
      let s = here (take k is) i in
      let next : take (k + 1) is ≡ take k is ++ (i ∷ []) = take_more is k i l ∙ ap (λ y. take k is ++ (y ∷ [])) (sym item) in
      let fresh = noted_as _ (name_twice s) a l1 l2 (λ j. when (twice before inv.earlier j) (at_ rules.E4 i.name.place)) n4 in
      let unknown = noted_as _ (at_ rules.E3 t.place ∷ []) b l2 l3 (λ j. at_ rules.E3 (sym at j) ∷ []) n3 in
      let both = both_noted (name_twice s) (at_ rules.E3 t.place ∷ []) a b l1 l2 l3 fresh unknown in
      let whole : of_use s ≡ name_twice s ++ (at_ rules.E3 t.place ∷ []) = append-nil (name_twice s ++ (at_ rules.E3 t.place ∷ [])) in
      let put : l3 ≡ with_all (of_use s) l1 = both.put ∙ ap (λ fs. with_all fs l1) (sym whole) in
      let all = ap (flat_map of_use) (ap (unknown_seens t us) next ∙ seens-push (take k is) i) ∙ flat_map-append of_use (unknown_seens t us (take k is)) (s ∷ []) ∙ ap (λ ys. flat_map of_use (unknown_seens t us (take k is)) ++ ys) (append-nil (of_use s)) in
      let listed = append_assoc us (map (unknown_by t) (take k is)) (unknown_by t i ∷ []) ∙ ap (λ xs. us ++ xs) (sym (map-append (unknown_by t) (take k is) (i ∷ [])) ∙ ap (map (unknown_by t)) (sym next)) in
      record {
        earlier = subst (AreEarlier e') listed (pushed before (unknown_by t i) inv.earlier refl (no-primary i));
        noted = put ∙ ap (with_all (of_use s)) inv.noted ∙ sym (with_all-append (flat_map of_use (unknown_seens t us (take k is))) (of_use s) l0) ∙ ap (λ fs. with_all fs l0) (sym all);
      }
