-- The uses of a type, one by one.
use Rattle.std.proofs.Common.{◌≡◌, ◌∙◌, ℕ, Vec, ◌+◌, ◌<◌, Bool, true, false, ◌&&◌, ◌||◌, cond, List, [], ◌∷◌, ◌++◌, length, get_or, take, map, flat_map, Option, None, Some, option_to_list, is_none, is_some, Ok, IfSome, refl, sym, ap, subst, append_assoc, append-nil}
use Rattle.std.specs.Global.{Global}
use Rattle.std.specs.Result.{result_ok}
use Rattle.std.proofs.lemmas.Grind.{flat_map-append}
use Rattle.std.proofs.lemmas.List.{map-append, take_more}
use Rattle.rdl_base.specs.declared.fault.Fault.{Fault}
use Rattle.rdl_tree.specs.declared.item.Inst.{Inst}
use Rattle.rdl_values.specs.Bodies.{Closure, standing_from}
use Rattle.rdl_values.specs.NoNode.{is_primary, is_reg, no_node}
use Rattle.rdl_values.specs.Parts.{dims_of, is_empty}
use Rattle.rdl_values.specs.Phase3.{of_use}
use Rattle.rdl_values.specs.Uses.{Seen, Use}
use Rattle.rdl_values.specs.declared.chain.Chain.{Chain}
use Rattle.rdl_values.proofs.Copied.{none_copied}
use Rattle.rdl_failures.specs.Noted.{Holds, with_all}
use Rattle.rdl_failures.proofs.Noting.{standing_from-push}
use Rattle.rdl_failures.proofs.Sets.{kept, with_all-append}
use Rattle.rdl_uses.specs.Before.{AreEarlier}
use Rattle.rdl_uses.specs.Given.{IsType, TypeUsed, given_in, pair_of, seen_behind, seens, use_by}
use Rattle.rdl_uses.specs.Judged.{IsSeen, of_values}
use Rattle.rdl_uses.specs.declared.earlier.Earlier.{Earlier}
use Rattle.rdl_uses.specs.declared.holder.Parent.{Parent}
use Rattle.rdl_uses.specs.declared.instances.SizedInst.{SizedInst}
use Rattle.rdl_uses.specs.declared.instances.Visited.{Visited}

module _ (t : TypeUsed) (us : List Use) where
  -- the uses by some instances
  abbrev before : List Inst → List Use
  before is = us ++ map (use_by t) is

  abbrev pub seen_at : List Inst → Inst → Seen
  seen_at is i = seen_behind t (us ++ map (use_by t) is, use_by t i)

  pub seens-push : (is : List Inst) (i : Inst) → seens t us (is ++ (i ∷ [])) ≡ seens t us is ++ (seen_at is i ∷ [])
  seens-push is i =
      ap (λ xs. map (seen_behind t) (standing_from us xs)) (map-append (use_by t) is (i ∷ [])) ∙ ap (map (seen_behind t)) (standing_from-push us (map (use_by t) is) (use_by t i))
      ∙ map-append (seen_behind t) (standing_from us (map (use_by t) is)) ((us ++ map (use_by t) is, use_by t i) ∷ [])

  pub seens_more : (is : List Inst) (k : ℕ) (d : Inst) → k < length is → seens t us (take (k + 1) is) ≡ seens t us (take k is) ++ (seen_at (take k is) (get_or is k d) ∷ [])
  seens_more is k d l = ap (seens t us) (take_more is k d l) ∙ seens-push (take k is) (get_or is k d)

  pub uses_more : (is : List Inst) (k : ℕ) (d : Inst) → k < length is → us ++ map (use_by t) (take k is) ++ (use_by t (get_or is k d) ∷ []) ≡ us ++ map (use_by t) (take (k + 1) is)
  uses_more is k d l = append_assoc us (map (use_by t) (take k is)) (use_by t (get_or is k d) ∷ []) ∙ ap (λ xs. us ++ xs) (sym (map-append (use_by t) (take k is) (get_or is k d ∷ [])) ∙ ap (map (use_by t)) (sym (take_more is k d l)))

  pub each_more : {Y : Type 0} (f : Seen → List Y) (is : List Inst) (k : ℕ) (d : Inst) → k < length is → flat_map f (seens t us (take (k + 1) is)) ≡ flat_map f (seens t us (take k is)) ++ f (seen_at (take k is) (get_or is k d))
  each_more f is k d l =
      let s = seen_at (take k is) (get_or is k d) in
      ap (flat_map f) (seens_more is k d l) ∙ flat_map-append f (seens t us (take k is)) (s ∷ []) ∙ ap (λ ys. flat_map f (seens t us (take k is)) ++ ys) (append-nil (f s))

  pub put_more : (is : List Inst) (k : ℕ) (d : Inst) → k < length is → (l0 l1 l2 : List Fault) → l1 ≡ with_all (flat_map of_use (seens t us (take k is))) l0 → l2 ≡ with_all (of_use (seen_at (take k is) (get_or is k d))) l1
      → l2 ≡ with_all (flat_map of_use (seens t us (take (k + 1) is))) l0
  put_more is k d l l0 l1 l2 a b =
      let s = seen_at (take k is) (get_or is k d) in
      b ∙ ap (with_all (of_use s)) a ∙ sym (with_all-append (flat_map of_use (seens t us (take k is))) (of_use s) l0) ∙ ap (λ fs. with_all fs l0) (sym (each_more of_use is k d l))

  -- an instance is seen behind those before it
  module _ (v : Visited) (parent : Parent) (visible : Chain) (l0 : List Fault) (ty : IsType v parent visible l0 t) where
    pub is_seen : (e : Earlier) (is : List Inst) (i : Inst) → AreEarlier e (us ++ map (use_by t) is) → IsSeen i v.def.now v.alias parent visible e (seen_at is i) t.closure
    is_seen e is i h = record { closure = refl; def = ty.def; use_is = record { name = refl; dims = refl; form = refl; shown = ty.shown }; alias_is = ty.alias_is; parent_is = ty.parent_is; earlier_is = h }

    pub still_held : (l1 : List Fault) (fs : List Fault) (i : Inst) → l1 ≡ with_all fs l0 → Holds l1 (of_values (use_by t i) t.closure)
    still_held l1 fs i e = subst (λ l. Holds l (of_values (use_by t i) t.closure)) (sym e) (kept (of_values (use_by t i) t.closure) fs l0 (ty.holds i))

    pub primary-is : (i : Inst) (none single : Bool) → none ≡ is_none v.alias → single ≡ (is_empty i.dims.now && is_none i.range && is_reg v.def.now.kind) → is_primary (use_by t i) ≡ (none && single)
    primary-is i none single n q =
        let kinds : (is_reg t.closure.def.kind || false) ≡ is_reg v.def.now.kind = or-false (is_reg t.closure.def.kind) ∙ ap (λ d. is_reg d.kind) ty.def in
        (λ j. is_none (ty.alias_is j) && (is_empty i.dims.now && none_copied i.range j && kinds j)) ∙ (λ j. sym n j && sym q j)
      where
        or-false : (b : Bool) → (b || false) ≡ b
        or-false true = refl
        or-false false = refl

pub given-is : {V : Type 0} (items : V → List ℕ) (t : TypeUsed) (s : Seen) (i : Inst) (r : Option V) → s.use_.inst ≡ Some i → is_some r ≡ is_empty (no_node s) → IfSome r (λ v. dims_of s.use_ t.closure.def.kind ≡ Ok (items v)) → map (λ v. (i, items v)) (option_to_list r) ≡ given_in t s
given-is {V = V} items t s i r inst e h = go r (is_empty (no_node s)) refl e h
  where
    parts : List (Inst × List ℕ)
    parts = flat_map (λ i. map (λ ds. (i, ds)) (option_to_list (result_ok (dims_of s.use_ t.closure.def.kind)))) (option_to_list s.use_.inst)

    go : (r : Option V) (b : Bool) → is_empty (no_node s) ≡ b → is_some r ≡ is_empty (no_node s) → IfSome r (λ v. dims_of s.use_ t.closure.def.kind ≡ Ok (items v)) → map (λ v. (i, items v)) (option_to_list r) ≡ given_in t s
    go None false q e h = sym (ap (λ b. cond b parts []) q)
    go None true q e h = let no : false ≡ true = e ∙ q in cc
    go (Some v) false q e h = let no : true ≡ false = e ∙ q in cc
    go (Some v) true q e h = sym (ap (λ b. cond b parts []) q ∙ (λ j. flat_map (λ i. map (λ ds. (i, ds)) (option_to_list (result_ok (h j)))) (option_to_list (inst j))))

-- What was done for some instances of a type, behind others of the body.
pub record Done (t : TypeUsed) (us : List Use) (is : List Inst) (e : Earlier) (l0 l1 : List Fault) (list : List SizedInst) : Type 0 where
  pub earlier : AreEarlier e (us ++ map (use_by t) is)
  pub noted : l1 ≡ with_all (flat_map of_use (seens t us is)) l0
  pub given : map pair_of list ≡ flat_map (given_in t) (seens t us is)

abbrev Dims : Type 0
Dims = Vec ℕ Global

pub one_more : (t : TypeUsed) (us : List Use) (v : Visited) (parent : Parent) (visible : Chain) (l0 : List Fault) → IsType v parent visible l0 t → (is : List Inst) (k : ℕ) → k < length is → (e e' : Earlier) (l1 l2 : List Fault) (list list' : List SizedInst) (i : Inst) → i ≡ get_or is k i
    → (dims : Option Dims) (none single : Bool) → Done t us (take k is) e l0 l1 list
    → ((s : Seen) (c : Closure) → IsSeen i v.def.now v.alias parent visible e s c → Holds l1 (of_values s.use_ c) → v.given ≡ is_empty (of_values s.use_ c) → (l2 ≡ with_all (of_use s) l1) × (is_some dims ≡ is_empty (no_node s)))
    → ((s : Seen) (c : Closure) → IsSeen i v.def.now v.alias parent visible e s c → IfSome dims (λ ds. dims_of s.use_ c.def.kind ≡ Ok ds.items))
    → none ≡ is_none v.alias → single ≡ (is_empty i.dims.now && is_none i.range && is_reg v.def.now.kind)
    → ((us : List Use) (u : Use) → AreEarlier e us → u.name ≡ i.name → is_primary u ≡ (none && single) → AreEarlier e' (us ++ (u ∷ [])))
    → map pair_of list' ≡ map pair_of list ++ map (λ ds. (i, ds.items)) (option_to_list dims)
    → Done t us (take (k + 1) is) e' l0 l2 list'
one_more t us v parent visible l0 ty is k l e e' l1 l2 list list' i at dims none single inv judged judged-dims none-is single-is pushed added = record {
  earlier = subst (AreEarlier e') (ap (λ x. us ++ map (use_by t) (take k is) ++ (use_by t x ∷ [])) at ∙ uses_more t us is k i l) (pushed (us ++ map (use_by t) (take k is)) (use_by t i) inv.earlier refl (primary-is t us v parent visible l0 ty i none single none-is single-is));
  noted = put_more t us is k i l l0 l1 l2 inv.noted (j.0 ∙ ap (λ x. with_all (of_use (seen_at t us (take k is) x)) l1) at);
  given = added ∙ (λ n. inv.given n ++ given-is {V = Dims} (λ v. v.items) t here i dims refl j.1 (judged-dims here t.closure seen) n) ∙ ap (λ x. flat_map (given_in t) (seens t us (take k is)) ++ given_in t (seen_at t us (take k is) x)) at ∙ sym (each_more t us (given_in t) is k i l);
}
  where
    here : Seen
    here = seen_at t us (take k is) i

    seen : IsSeen i v.def.now v.alias parent visible e here t.closure
    seen = is_seen t us v parent visible l0 ty e (take k is) i inv.earlier

    j : (l2 ≡ with_all (of_use here) l1) × (is_some dims ≡ is_empty (no_node here))
    j = judged here t.closure seen (still_held t us v parent visible l0 ty l1 (flat_map of_use (seens t us (take k is))) i inv.noted) (ty.given i)
