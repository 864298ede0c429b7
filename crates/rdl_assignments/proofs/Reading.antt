-- Assignments of a layer, read one by one.
use Rattle.std.proofs.Common.{◌≡◌, ◌∙◌, ℕ, ◌+◌, ◌<◌, ◌≤◌, Bool, true, false, cond, List, [], ◌∷◌, ◌++◌, length, get_or, take, map, filter, flat_map, append-nil, Option, None, Some, is_some, option_to_list, refl, sym, ap, subst}
use Rattle.std.proofs.lemmas.Grind.{flat_map-append}
use Rattle.std.proofs.lemmas.List.{map-append, take_all, take_more}
use Rattle.std.proofs.lemmas.List.Elements.{filter-append}
use Rattle.rdl_base.specs.declared.fault.Fault.{Fault}
use Rattle.rdl_tree.specs.declared.item.Item.{Item}
use Rattle.rdl_props.specs.declared.prop.Prop.{Prop}
use Rattle.rdl_values.specs.Bodies.{Scope, standing}
use Rattle.rdl_tree.specs.declared.item.Set.{Set}
use Rattle.rdl_values.specs.Parts.{is_empty}
use Rattle.rdl_failures.specs.Noted.{IsNoted, with_all}
use Rattle.rdl_failures.proofs.Noting.{standing-push}
use Rattle.rdl_failures.proofs.Sets.{with_all-append}
use Rattle.rdl_layers.specs.Judged.{all_failures, failures_of, props_of, sound}
use Rattle.rdl_layers.specs.Meanings.{Assignment, prop_of}
use Rattle.rdl_assignments.specs.Layers.{AreGiven, IsGiven, IsLayer}
use Rattle.rdl_assignments.specs.Taken.{AreTaken}
use Rattle.rdl_assignments.specs.declared.set.ValidAssignment.{ValidAssignment}
use Rattle.rdl_assignments.specs.declared.layer.Layer.{Layer}

pub props-push : (as' : List Assignment) (a : Assignment) → props_of (as' ++ (a ∷ [])) ≡ props_of as' ++ option_to_list (prop_of a)
props-push as' a = flat_map-append (λ (b : Assignment). option_to_list (prop_of b)) as' (a ∷ []) ∙ ap (λ ps. props_of as' ++ ps) (append-nil (option_to_list (prop_of a)))

pub given-append : (body : ℕ) (gs hs : List ValidAssignment) (as' bs : List Assignment) → AreGiven body gs as' → AreGiven body hs bs → AreGiven body (gs ++ hs) (as' ++ bs)
given-append body [] hs [] bs h k = k
given-append body (g ∷ gs) hs (a ∷ as') bs h k = (h.0, given-append body gs hs as' bs h.1 k)
given-append body [] hs (a ∷ as') bs h k = absurd h
given-append body (g ∷ gs) hs [] bs h k = absurd h

abbrev pub in_scope : Scope → List Set → List Assignment
in_scope scope ss = map (λ s. record { set_ = s; scope = scope }) ss

-- one more assignment

pub failures-push : (f : List Assignment × Assignment → List Fault) (as' : List Assignment) (a : Assignment) → all_failures f (as' ++ (a ∷ [])) ≡ all_failures f as' ++ f (as', a)
failures-push f as' a = ap (flat_map f) (standing-push as' a) ∙ flat_map-append f (standing as') ((as', a) ∷ []) ∙ ap (λ fs. all_failures f as' ++ fs) (append-nil (f (as', a)))

pub sound-push : (f : List Assignment × Assignment → List Fault) (as' : List Assignment) (a : Assignment) → sound f (as' ++ (a ∷ [])) ≡ sound f as' ++ cond (is_empty (f (as', a))) (a ∷ []) []
sound-push f as' a =
    ap (λ xs. map (λ (x : List Assignment × Assignment). x.1) (filter (λ x. is_empty (f x)) xs)) (standing-push as' a)
    ∙ ap (map (λ (x : List Assignment × Assignment). x.1)) (filter-append (λ x. is_empty (f x)) (standing as') ((as', a) ∷ []))
    ∙ map-append (λ (x : List Assignment × Assignment). x.1) (filter (λ x. is_empty (f x)) (standing as')) (filter (λ x. is_empty (f x)) ((as', a) ∷ []))
    ∙ ap (λ ys. sound f as' ++ ys) (last (is_empty (f (as', a))))
  where
    last : (b : Bool) → map (λ (x : List Assignment × Assignment). x.1) (cond b ((as', a) ∷ []) []) ≡ cond b (a ∷ []) []
    last true = refl
    last false = refl

one_given : (body : ℕ) (o : Option ValidAssignment) (a : Assignment) (b : Bool) → is_some o ≡ b → ((g : ValidAssignment) → o ≡ Some g → IsGiven body g a) → AreGiven body (option_to_list o) (cond b (a ∷ []) [])
one_given body None a true e h = cc
one_given body None a false e h = tt
one_given body (Some g) a true e h = (h g refl, tt)
one_given body (Some g) a false e h = cc

pub layer_more : (legal : Prop → Bool) (body : ℕ) (old new : Layer) (start before after : List Fault) (as' : List Assignment) (a : Assignment) (o : Option ValidAssignment) → IsLayer legal body old start before as' → IsNoted (failures_of legal (as', a)) (is_some o) before after
    → AreTaken new.taken (props_of (as' ++ (a ∷ []))) → new.given.items ≡ old.given.items ++ option_to_list o → ((g : ValidAssignment) → o ≡ Some g → IsGiven body g a) → IsLayer legal body new start after (as' ++ (a ∷ []))
layer_more legal body old new start before after as' a o h noted taken pushed is = record {
  taken = taken;
  given = subst (AreGiven body new.given.items) (sym (sound-push (failures_of legal) as' a)) (subst (λ gs. AreGiven body gs (sound (failures_of legal) as' ++ cond (is_empty (failures_of legal (as', a))) (a ∷ []) [])) (sym pushed) (given-append body old.given.items (option_to_list o) (sound (failures_of legal) as') _ h.given (one_given body o a _ noted.none is)));
  noted = noted.put ∙ ap (with_all (failures_of legal (as', a))) h.noted ∙ sym (with_all-append (all_failures (failures_of legal) as') (failures_of legal (as', a)) start) ∙ ap (λ fs. with_all fs start) (sym (failures-push (failures_of legal) as' a));
}

-- What the items of a body assign, item by item.

pub items-more : (g : List Item × Item → List Assignment) (xs : List Item) (i : ℕ) (d : Item) → i < length xs → flat_map g (standing (take i xs)) ++ g (take i xs, get_or xs i d) ≡ flat_map g (standing (take (i + 1) xs))
items-more g xs i d l =
    sym (ap (λ ys. flat_map g (standing ys)) (take_more xs i d l) ∙ ap (flat_map g) (standing-push (take i xs) (get_or xs i d)) ∙ flat_map-append g (standing (take i xs)) ((take i xs, get_or xs i d) ∷ []) ∙ ap (λ ys. flat_map g (standing (take i xs)) ++ ys) (append-nil (g (take i xs, get_or xs i d))))

-- the same of a list of sets in one scope
pub sets-more : (scope : Scope) (xs : List Set) (i : ℕ) (d : Set) → i < length xs → in_scope scope (take i xs) ++ (record { set_ = get_or xs i d; scope = scope } ∷ []) ≡ in_scope scope (take (i + 1) xs)
sets-more scope xs i d l = sym (ap (in_scope scope) (take_more xs i d l) ∙ map-append (λ (s : Set). record { set_ = s; scope = scope }) (take i xs) (get_or xs i d ∷ []))

pub locals_more : (legal : Prop → Bool) (body : ℕ) (y : Layer) (start now : List Fault) (g : List Item × Item → List Assignment) (xs : List Item) (i : ℕ) (x : Item) → i < length xs → x ≡ get_or xs i x
    → IsLayer legal body y start now (flat_map g (standing (take i xs)) ++ g (take i xs, x)) → IsLayer legal body y start now (flat_map g (standing (take (i + 1) xs)))
locals_more legal body y start now g xs i x l at h = subst (IsLayer legal body y start now) (ap (λ z. flat_map g (standing (take i xs)) ++ g (take i xs, z)) at ∙ items-more g xs i x l) h

pub items_all : (legal : Prop → Bool) (body : ℕ) (y : Layer) (start now : List Fault) (g : List Item × Item → List Assignment) (xs ys : List Item) (i : ℕ) → length xs ≤ i → ys ≡ xs → IsLayer legal body y start now (flat_map g (standing (take i xs))) → IsLayer legal body y start now (flat_map g (standing ys))
items_all legal body y start now g xs ys i l e h = subst (λ zs. IsLayer legal body y start now (flat_map g (standing zs))) (take_all i xs l ∙ sym e) h
