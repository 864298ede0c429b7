-- Enumerations that are put in under names.
use Rattle.std.proofs.Common.{◌≡◌, ◌∙◌, ℕ, ◌+◌, ◌<◌, Bool, true, false, cond, List, [], ◌∷◌, ◌++◌, append-nil, arith, bytes_eq, filter, get_or, length, map, take, Option, Some, Vec, refl, sym, ap}
use Rattle.std.proofs.lemmas.List.{length-take-le, take_more}
use Rattle.std.specs.Global.{Global}
use Rattle.std.specs.Cmp.Lexicographic.{bytes_decides}
use Rattle.rdl_tree.specs.declared.value.EnumValues.{EnumValues}
use Rattle.rdl_values.specs.Bodies.{standing}
use Rattle.rdl_failures.proofs.Noting.{standing-push}
use Rattle.rdl_facts.specs.Places.{ArePlaces, listed, standing_of, stands}
use Rattle.rdl_facts.specs.declared.places.Places.{Places}
use Rattle.rdl_facts.specs.declared.places.Standing.{Standing}

pub listed_if : (b : Bool) (v : Vec Standing Global) (o : Option (Vec Standing Global)) (xs : List Standing) → v.items ≡ xs → listed (cond b (Some v) o) ≡ cond b xs (listed o)
listed_if true v o xs e = e
listed_if false v o xs e = refl

-- taken out, and put back with one more
pub one_more : (name : List ℕ) (of : Standing) (old between new : Places) (list more : List Standing) → list ≡ standing_of old name → ((n : List ℕ) → standing_of between n ≡ cond (bytes_eq name n) [] (standing_of old n)) → more ≡ list ++ (of ∷ [])
    → ((n : List ℕ) → standing_of new n ≡ cond (bytes_eq name n) more (standing_of between n)) → (n : List ℕ) → standing_of new n ≡ standing_of old n ++ cond (bytes_eq name n) (of ∷ []) []
one_more name of old between new list more taken rest pushed set_ n = set_ n ∙ go (bytes_eq name n) refl
  where
    go : (b : Bool) → bytes_eq name n ≡ b → cond b more (standing_of between n) ≡ standing_of old n ++ cond b (of ∷ []) []
    go false e = rest n ∙ ap (λ b. cond b [] (standing_of old n)) e ∙ sym (append-nil (standing_of old n))
    go true e = pushed ∙ ap (λ xs. xs ++ (of ∷ [])) (taken ∙ ap (standing_of old) ((bytes_decides name n).0 e))

filter-one : (n : List ℕ) (xs : List (List EnumValues × EnumValues)) (x : List EnumValues × EnumValues) → map stands (filter (λ e. bytes_eq e.1.name.text.now n) (xs ++ (x ∷ []))) ≡ map stands (filter (λ e. bytes_eq e.1.name.text.now n) xs) ++ cond (bytes_eq x.1.name.text.now n) (stands x ∷ []) []
filter-one n [] x = go (bytes_eq x.1.name.text.now n)
  where
    go : (b : Bool) → map stands (cond b (x ∷ []) []) ≡ cond b (stands x ∷ []) []
    go true = refl
    go false = refl
filter-one n (y ∷ xs) x = go (bytes_eq y.1.name.text.now n) (filter-one n xs x)
  where
    kept : List (List EnumValues × EnumValues) → List (List EnumValues × EnumValues)
    kept zs = filter (λ e. bytes_eq e.1.name.text.now n) zs

    go : (b : Bool) → map stands (kept (xs ++ (x ∷ []))) ≡ map stands (kept xs) ++ cond (bytes_eq x.1.name.text.now n) (stands x ∷ []) []
        → map stands (cond b (y ∷ kept (xs ++ (x ∷ []))) (kept (xs ++ (x ∷ [])))) ≡ map stands (cond b (y ∷ kept xs) (kept xs)) ++ cond (bytes_eq x.1.name.text.now n) (stands x ∷ []) []
    go true h = ap (λ zs. stands y ∷ zs) h
    go false h = h

-- one more enumeration under its name
pub places_more : (enums : List EnumValues) (i : ℕ) (d : EnumValues) (old new : Places) → i < length enums → ((n : List ℕ) → standing_of new n ≡ standing_of old n ++ cond (bytes_eq (get_or enums i d).name.text.now n) (record { place = (get_or enums i d).name.place.0; number = i } ∷ []) [])
    → ArePlaces old (take i enums) → ArePlaces new (take (i + 1) enums)
places_more enums i d old new l put h = record {
  each = λ n.
      let x = get_or enums i d in
      let size : length (take i enums) ≡ i = length-take-le i enums (omega (arith, l)) in
      let all : standing (take (i + 1) enums) ≡ standing (take i enums) ++ ((take i enums, x) ∷ []) = ap standing (take_more enums i d l) ∙ standing-push (take i enums) x in
      put n ∙ ap (λ ss. ss ++ cond (bytes_eq x.name.text.now n) (record { place = x.name.place.0; number = i } ∷ []) []) (h.each n)
      ∙ ap (λ k. map stands (filter (λ e. bytes_eq e.1.name.text.now n) (standing (take i enums))) ++ cond (bytes_eq x.name.text.now n) (record { place = x.name.place.0; number = k } ∷ []) []) (sym size)
      ∙ sym (filter-one n (standing (take i enums)) (take i enums, x)) ∙ ap (λ zs. map stands (filter (λ e. bytes_eq e.1.name.text.now n) zs)) (sym all);
}
