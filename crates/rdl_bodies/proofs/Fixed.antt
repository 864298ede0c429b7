-- Enumerations that are the same in all bodies of a text.
use Rattle.std.proofs.Common.{◌≡◌, ◌∙◌, ℕ, ◌+◌, ◌<◌, ◌≤◌, List, [], ◌∷◌, ◌++◌, get_or, length, map, take, refl, sym, ap, subst}
use Rattle.std.specs.List.{AllByRecursion}
use Rattle.std.proofs.lemmas.List.{take_all, take_more}
use Rattle.plain_lemmas.proofs.Lists.{each-append}
use Rattle.rdl_tree.specs.declared.item.Item.{Item}
use Rattle.rdl_values.specs.Enums.{Judged, enum_of, names_of, with_item, with_items}
use Rattle.rdl_values.specs.Values.{Around, Names, Val}
use Rattle.rdl_values.specs.Views as view
use Rattle.rdl_values.specs.Views.{ItemIs, item_is}
use Rattle.rdl_bodies.specs.Steady.{AreFixed, IsFixedAs}

-- Lists as far as they have been read.

pub each_more : {X : Type 0} (P : X → Type 0) (xs : List X) (k : ℕ) (d : X) → k < length xs → AllByRecursion P (take k xs) → P (get_or xs k d) → AllByRecursion P (take (k + 1) xs)
each_more P xs k d l h p = subst (AllByRecursion P) (sym (take_more xs k d l)) (each-append P (take k xs) (get_or xs k d ∷ []) h (p, tt))

pub each_all : {X : Type 0} (P : X → Type 0) (xs : List X) (k : ℕ) → length xs ≤ k → AllByRecursion P (take k xs) → AllByRecursion P xs
each_all P xs k l h = subst (AllByRecursion P) (take_all k xs l) h

-- What is round a body changes nothing of such enumerations.

one-enum : (v w : Around) (m n : Names) (i : ItemIs) → IsFixedAs i → m.enums ≡ n.enums → (with_item v m i).enums ≡ (with_item w n i).enums
one-enum v w m n (view.definition d) fixed e = e
one-enum v w m n (view.enumeration name es) fixed e =
    let made : enum_of (m ∷ v) name es ≡ enum_of (n ∷ w) name es = ap (λ (j : Judged). record { name = name.text.now; place = name.place.0; entries = map (λ x. (x.0.text.now, x.1)) j.entries }) (fixed (m ∷ v) (n ∷ w)) in
    ap (λ xs. xs ++ (enum_of (m ∷ v) name es ∷ [])) e ∙ ap (λ x. n.enums ++ (x ∷ [])) made
one-enum v w m n (view.made a of is) fixed e = e
one-enum v w m n (view.default_ s) fixed e = e
one-enum v w m n (view.local s) fixed e = e
one-enum v w m n (view.dynamic p s) fixed e = e

all-enums : (v w : Around) (m n : Names) (is : List Item) → AreFixed is → m.enums ≡ n.enums → (with_items v m is).enums ≡ (with_items w n is).enums
all-enums v w m n [] fixed e = e
all-enums v w m n (i ∷ is) fixed e = all-enums v w (with_item v m (item_is i)) (with_item w n (item_is i)) is fixed.1 (one-enum v w m n (item_is i) fixed.0 e)

pub fixed_enums : (v w : Around) (b c : List (List ℕ × Val)) (is : List Item) → AreFixed is → (names_of v b is).enums ≡ (names_of w c is).enums
fixed_enums v w b c is fixed = all-enums v w (record { bound = b; enums = [] }) (record { bound = c; enums = [] }) is fixed refl
