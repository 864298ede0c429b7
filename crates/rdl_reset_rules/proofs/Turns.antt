-- Failures of references, put in one behind the other.
use Rattle.std.proofs.Common.{◌≡◌, ◌∙◌, ℕ, ◌+◌, ◌<◌, ◌≤◌, not, List, [], ◌∷◌, ◌++◌, length, flat_map, get_or, take, slice_get, append-nil, Option, None, Some, refl, sym, ap, subst, arith}
use Rattle.std.proofs.lemmas.Grind.{flat_map-append}
use Rattle.std.proofs.lemmas.List.{take_more}
use Rattle.rdl_base.specs.declared.fault.Fault.{Fault}
use Rattle.rb_base.specs.declared.place.Place.{Place}
use Rattle.rdl_base.specs.declared.rule.Rule.TheVariants as rules
use Rattle.rdl_props.specs.Table.{reference_props}
use Rattle.rdl_props.specs.declared.prop.Prop.{Prop}
use Rattle.rdl_values.specs.Faults.{at_, when}
use Rattle.rdl_values.specs.Instances.{Instance}
use Rattle.rdl_values.specs.Lineages.{Lineage}
use Rattle.rdl_failures.specs.Noted.{with_all}
use Rattle.rdl_failures.proofs.Sets.{with_all-append}
use Rattle.rdl_layers.specs.Phase4.{width_of}
use Rattle.rdl_layers.specs.Settings.{Meaning, enum_of, flag, hard, intr, named, number, reference, text, unset}
use Rattle.rdl_refs.specs.Follows.{is_in_alias, is_missing}
use Rattle.rdl_refs.specs.Items.{Item, target}
use Rattle.rdl_rules.specs.ReferenceRules.{bad_item, fit_of, fits, item_width}
use Rattle.rdl_reset_rules.specs.Judged.{TellsPlace, of_item}

pub three-put : (fs gs hs s t u v : List Fault) → t ≡ with_all fs s → u ≡ with_all gs t → v ≡ with_all hs u → v ≡ with_all (fs ++ gs ++ hs) s
three-put fs gs hs s t u v a b c = c ∙ (ap (with_all hs) (b ∙ (ap (with_all gs) a ∙ sym (with_all-append fs gs s))) ∙ sym (with_all-append (fs ++ gs) hs s))

pub one-more : {X : Type 0} (f : X → List Fault) (xs : List X) (i : ℕ) (d : X) (s t u : List Fault) → i < length xs → t ≡ with_all (flat_map f (take i xs)) s → u ≡ with_all (f (get_or xs i d)) t → u ≡ with_all (flat_map f (take (i + 1) xs)) s
one-more f xs i d s t u low before put =
    let x = get_or xs i d in
    put ∙ (ap (with_all (f x)) before
    ∙ (sym (with_all-append (flat_map f (take i xs)) (f x) s)
    ∙ ap (λ fs. with_all fs s) (ap (λ fs. flat_map f (take i xs) ++ fs) (sym (append-nil (f x))) ∙ (sym (flat_map-append f (take i xs) (x ∷ [])) ∙ ap (flat_map f) (sym (take_more xs i d low))))))

-- the failures of a reference that names an item
pub named-fails : (all : List Lineage) (n : Instance) (p : Prop) (m : Meaning) (i : Item) (w : ℕ) (place : Place) → TellsPlace m (Some place) → w ≡ width_of n → target all m ≡ i ∷ [] → of_item p w place i ≡ flat_map (bad_item n p m) (target all m)
named-fails all n p (reference path item scope at) i w place h e t =
    let same : place ≡ at = (let q : Some place ≡ Some at = h in cc q) in
    (λ j. when (not (fits (fit_of p) (e j) (item_width i))) (at_ rules.R3 (same j)) ++ when (is_missing i) (at_ rules.R4 (same j)) ++ when (is_in_alias i) (at_ rules.R5 (same j)))
    ∙ (sym (append-nil (bad_item n p (reference path item scope at) i)) ∙ sym (ap (flat_map (bad_item n p (reference path item scope at))) t))
named-fails all n p unset i w place h e t = cc h
named-fails all n p (flag b) i w place h e t = cc h
named-fails all n p (number k) i w place h e t = cc h
named-fails all n p (text s) i w place h e t = cc h
named-fails all n p (named k) i w place h e t = cc h
named-fails all n p (intr k) i w place h e t = cc h
named-fails all n p (hard b) i w place h e t = cc h
named-fails all n p (enum_of k scope) i w place h e t = cc h

told-none : (m : Meaning) (o : Option Place) → ((x : Place) → o ≡ Some x → ⊥) → TellsPlace m o → TellsPlace m None
told-none m None never h = h
told-none m (Some x) never h = absurd (never x refl)

-- none of what is no reference
pub none-fails : (all : List Lineage) (n : Instance) (p : Prop) (m : Meaning) (o : Option Place) → ((x : Place) → o ≡ Some x → ⊥) → TellsPlace m o → [] ≡ flat_map (bad_item n p m) (target all m)
none-fails all n p m o never h = go m (told-none m o never h)
  where
    go : (m : Meaning) → TellsPlace m None → [] ≡ flat_map (bad_item n p m) (target all m)
    go (reference path item scope at) q = absurd (let e : None ≡ Some at = q in cc e)
    go unset q = refl
    go (flag b) q = refl
    go (number k) q = refl
    go (text s) q = refl
    go (named k) q = refl
    go (intr k) q = refl
    go (hard b) q = refl
    go (enum_of k scope) q = refl

-- the same in a list that is known by another name
pub one-more-of : {X : Type 0} (f : X → List Fault) (xs ys : List X) → xs ≡ ys → (i : ℕ) (d : X) (s t u : List Fault) → i < length ys → t ≡ with_all (flat_map f (take i ys)) s → u ≡ with_all (f (get_or xs i d)) t → u ≡ with_all (flat_map f (take (i + 1) ys)) s
one-more-of f xs ys e i d s t u low before put = one-more f ys i d s t u low before (subst (λ zs. u ≡ with_all (f (get_or zs i d)) t) e put)

pub within-list : (i : ℕ) → i < 22 → i < length reference_props
unfolding reference_props
within-list i low = low
