-- What a name means among the enumerations of a body.
use Rattle.std.proofs.Common.{◌≡◌, ◌∙◌, ℕ, suc, ◌==◌, Bool, true, false, ◌&&◌, cond, List, [], ◌∷◌, ◌++◌, append_assoc, filter, find, length, map, nat_lt, bytes_eq, Option, Some, option_map, slice_get, ap, arith, refl, subst, sym}
use Rattle.std.proofs.lemmas.Bool.Decides.{nat_tests}
use Rattle.rdl_tree.specs.declared.expr.Name.{Name}
use Rattle.rdl_tree.specs.declared.value.EnumValues.{EnumValues}
use Rattle.rdl_values.specs.Bodies.{standing, standing_from}
use Rattle.rdl_values.specs.Seen.{entry_of, listed_enum}
use Rattle.rdl_values.specs.Values.{EnumOf, Names}
use Rattle.rdl_facts.specs.Body.{AreEnumsOf, IsFound}
use Rattle.rdl_facts.specs.Greatest.{AreEach, AreGreatest, IsGreatest, if_there}
use Rattle.rdl_facts.specs.Places.{ArePlaces, stands}
use Rattle.rdl_facts.specs.declared.body.BodyEnums.{BodyEnums}

-- the greatest number of the enumeration behind some others
each-at : (gs : List (Option ℕ)) (before : List EnumValues) (m : EnumValues) (ms : List EnumValues) → AreEach gs (before ++ (m ∷ ms)) → IsGreatest (if_there (slice_get gs (length before))) (map entry_of m.entries.now)
each-at [] [] m ms h = absurd h
each-at (g ∷ gs) [] m ms h = h.0
each-at [] (e ∷ before) m ms h = absurd h
each-at (g ∷ gs) (e ∷ before) m ms h = each-at gs before m ms h.1

module _ (b : BodyEnums) (n : Name) where
  abbrev first : List (List EnumValues × EnumValues) → Option ℕ
  first es = option_map (λ s. s.number) (find (λ s. nat_lt s.place n.place.0) (map stands (filter (λ e. bytes_eq e.1.name.text.now n.text.now) es)))

  abbrev meant : List EnumValues → Option EnumOf
  meant es = find (λ e. bytes_eq e.name n.text.now && nat_lt e.place n.place.0) (map listed_enum es)

  found : (before es : List EnumValues) → AreGreatest b.greatest (before ++ es) → IsFound b (first (standing_from before es)) (meant es)
  found before [] all = tt
  found before (m ∷ es) all = go (bytes_eq m.name.text.now n.text.now) (found (before ++ (m ∷ [])) es (subst (AreGreatest b.greatest) (sym (append_assoc before (m ∷ []) es)) all))
    where
      rest : List (List EnumValues × EnumValues)
      rest = filter (λ e. bytes_eq e.1.name.text.now n.text.now) (standing_from (before ++ (m ∷ [])) es)

      here : (y : Bool) → IsFound b (first (standing_from (before ++ (m ∷ [])) es)) (meant es) → IsFound b (option_map (λ s. s.number) (cond y (Some (stands (before, m))) (find (λ s. nat_lt s.place n.place.0) (map stands rest)))) (cond y (Some (listed_enum m)) (meant es))
      here true k = each-at b.greatest.numbers.items before m es all
      here false k = k

      go : (x : Bool) → IsFound b (first (standing_from (before ++ (m ∷ [])) es)) (meant es)
          → IsFound b (option_map (λ s. s.number) (find (λ s. nat_lt s.place n.place.0) (map stands (cond x ((before, m) ∷ rest) rest)))) (cond (x && nat_lt m.name.place.0 n.place.0) (Some (listed_enum m)) (meant es))
      go true k = here (nat_lt m.name.place.0 n.place.0) k
      go false k = k

pub of_names : (b : BodyEnums) (es : List EnumValues) → ArePlaces b.places es → AreGreatest b.greatest es → (names : Names) → names.enums ≡ map listed_enum es → AreEnumsOf b names
of_names b es places greatest names are = record {
  found = λ n.
      let all = found b n [] es greatest in
      let by : IsFound b (first b n (standing es)) (find (λ e. bytes_eq e.name n.text.now && nat_lt e.place n.place.0) names.enums) =
      subst (λ xs. IsFound b (first b n (standing es)) (find (λ e. bytes_eq e.name n.text.now && nat_lt e.place n.place.0) xs)) (sym are) all in
      subst (λ ss. IsFound b (option_map (λ s. s.number) (find (λ s. nat_lt s.place n.place.0) ss)) (find (λ e. bytes_eq e.name n.text.now && nat_lt e.place n.place.0) names.enums)) (sym (places.each n.text.now)) by;
}

none-in : (es : List EnumValues) → (length es == 0) ≡ true → map listed_enum es ≡ []
none-in [] e = refl
none-in (x ∷ es) e = absurd (some (length es) e)
  where
    some : (k : ℕ) → (suc k == 0) ≡ true → ⊥
    some k q = grind (arith, nat_tests)

pub none_kept : (es : List EnumValues) → (length es == 0) ≡ true → (names : Names) → names.enums ≡ map listed_enum es → names.enums ≡ []
none_kept es none names are = are ∙ none-in es none
