-- The values of parameters, one behind the other.
use Rattle.std.proofs.Common.{◌≡◌, ◌∙◌, ℕ, zero, suc, ◌+◌, ◌<◌, Bool, true, false, cond, List, [], ◌∷◌, ◌++◌, length, get_or, map, take, flat_map, slice_get, Option, None, Some, find, option_map, option_to_list, bytes_eq, refl, sym, ap, arith, append-nil}
use Rattle.std.specs.Option.{option_or}
use Rattle.std.proofs.lemmas.Grind.{flat_map-append}
use Rattle.std.proofs.lemmas.List.{map-append, take_more}
use Rattle.std.proofs.lemmas.List.Folds.{find-append}
use Rattle.rdl_tree.specs.declared.item.Param.{Param}
use Rattle.rdl_tree.specs.declared.value.Bound.{Bound}
use Rattle.rdl_values.specs.Overlaid.{overlaid, plain_entry, plain_of, value_over}
use Rattle.rdl_values.specs.Parameters as parameters
use Rattle.rdl_values.specs.Seen.{bound_of, val_of}
use Rattle.rdl_values.specs.Values.{Val, entry_named}
use Rattle.rdl_values.proofs.Plains.{plain-at}
use Rattle.rdl_values.proofs.Walking.{take-at}

pub named_here : (n : List ℕ) (bs : List Bound) (k : ℕ) (d : Bound) → k < length bs → entry_named n (map bound_of (take k bs)) ≡ None → bytes_eq (get_or bs k d).name.text.now n ≡ true → Some (val_of (get_or bs k d).value) ≡ entry_named n (map bound_of bs)
named_here n [] k d l h e = absurd (omega (arith, l))
named_here n (b ∷ bs) zero d l h e = sym (ap (λ t. option_map (λ x. x.1) (cond t (Some (bound_of b)) (find (λ x. bytes_eq x.0 n) (map bound_of bs)))) e)
named_here n (b ∷ bs) (suc k) d l h e = go (bytes_eq b.name.text.now n) refl (λ rest. named_here n bs k d (omega (arith, l)) rest e)
  where
    go : (t : Bool) → bytes_eq b.name.text.now n ≡ t → (entry_named n (map bound_of (take k bs)) ≡ None → Some (val_of (get_or bs k d).value) ≡ entry_named n (map bound_of bs)) → Some (val_of (get_or bs k d).value) ≡ entry_named n (map bound_of (b ∷ bs))
    go true q rec = let no = sym (ap (λ t. option_map (λ x. x.1) (cond t (Some (bound_of b)) (find (λ x. bytes_eq x.0 n) (map bound_of (take k bs))))) q) ∙ h in cc
    go false q rec =
        let rest = sym (ap (λ t. option_map (λ x. x.1) (cond t (Some (bound_of b)) (find (λ x. bytes_eq x.0 n) (map bound_of (take k bs))))) q) ∙ h in
        rec rest ∙ sym (ap (λ t. option_map (λ x. x.1) (cond t (Some (bound_of b)) (find (λ x. bytes_eq x.0 n) (map bound_of bs)))) q)

none-found : (o : Option (List ℕ × Val)) → option_map (λ x. x.1) o ≡ None → o ≡ None
none-found None e = refl
none-found (Some x) e = cc

pub none_next : (n : List ℕ) (bs : List Bound) (k : ℕ) (d : Bound) → k < length bs → entry_named n (map bound_of (take k bs)) ≡ None → bytes_eq (get_or bs k d).name.text.now n ≡ false → entry_named n (map bound_of (take (k + 1) bs)) ≡ None
none_next n bs k d l h e =
    let x = get_or bs k d in
    let f = λ (y : List ℕ × Val). bytes_eq y.0 n in
    let front = map bound_of (take k bs) in
    let all : map bound_of (take (k + 1) bs) ≡ front ++ (bound_of x ∷ []) = ap (map bound_of) (take_more bs k d l) ∙ map-append bound_of (take k bs) (x ∷ []) in
    ap (entry_named n) all ∙ ap (option_map (λ y. y.1)) (find-append f front (bound_of x ∷ []) ∙ ap (λ o. option_or o (find f (bound_of x ∷ []))) (none-found (find f front) h) ∙ ap (λ t. cond t (Some (bound_of x)) None) e)

got : {X : Type 0} (xs : List X) (k : ℕ) (d : X) → k < length xs → slice_get xs k ≡ Some (get_or xs k d)
got [] k d l = absurd (omega (arith, l))
got (x ∷ xs) zero d l = refl
got (x ∷ xs) (suc k) d l = got xs k d (omega (arith, l))

-- what a parameter has by the text, behind those in front of its place
abbrev pub entry_of : List Param → ℕ → Param → List ℕ × Option Val
entry_of ps k p = plain_entry (take k (plain_of ps)) p

pub entry_at : (ps : List Param) (k : ℕ) (d : Param) → k < length ps → slice_get (plain_of ps) k ≡ Some (entry_of ps k (get_or ps k d))
entry_at ps k d l = plain-at ps k (get_or ps k d) (got ps k d l)

-- one parameter more
pub over_more : (ps : List Param) (k : ℕ) (d : Param) (t : parameters.Bound) → k < length ps
    → overlaid (take (k + 1) (plain_of ps)) t ≡ overlaid (take k (plain_of ps)) t ++ map (λ v. ((get_or ps k d).name.text.now, v)) (option_to_list (value_over t (entry_of ps k (get_or ps k d))))
over_more ps k d t l =
    let xs = plain_of ps in
    let x = entry_of ps k (get_or ps k d) in
    let f = λ (x : List ℕ × Option Val). map (λ v. (x.0, v)) (option_to_list (value_over t x)) in
    let next : k + 1 ≡ suc k = omega arith in
    ap (flat_map f) (ap (λ i. take i xs) next ∙ take-at xs k x (entry_at ps k d l)) ∙ flat_map-append f (take k xs) (x ∷ []) ∙ ap (λ ys. overlaid (take k xs) t ++ ys) (append-nil (f x))

pub values_more : (ps : List Param) (k : ℕ) (d : Param) (t : parameters.Bound) → k < length ps → (old new : parameters.Bound) (value : Option Val) → new ≡ old ++ map (λ v. ((get_or ps k d).name.text.now, v)) (option_to_list value) → old ≡ overlaid (take k (plain_of ps)) t → value ≡ value_over t (entry_of ps k (get_or ps k d))
    → new ≡ overlaid (take (k + 1) (plain_of ps)) t
values_more ps k d t l old new value added so_far is =
    let name = (get_or ps k d).name.text.now in
    added ∙ ap (λ xs. xs ++ map (λ v. (name, v)) (option_to_list value)) so_far ∙ ap (λ o. overlaid (take k (plain_of ps)) t ++ map (λ v. (name, v)) (option_to_list o)) is ∙ sym (over_more ps k d t l)
