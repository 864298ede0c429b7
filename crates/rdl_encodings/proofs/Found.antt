-- What a name means among the enumerations of a body.
use Rattle.std.proofs.Common.{◌≡◌, ◌∙◌, ℕ, Bool, true, false, ◌&&◌, cond, List, [], ◌∷◌, ◌++◌, append_assoc, filter, find, length, map, nat_lt, bytes_eq, Option, Some, option_map, slice_get, refl, ap, sym}
use Rattle.std.specs.Cmp.Lexicographic.{bytes_decides}
use Rattle.rdl_tree.specs.declared.expr.Name.{Name}
use Rattle.rdl_tree.specs.declared.value.EnumValues.{EnumValues}
use Rattle.rdl_values.specs.Bodies.{standing_from}
use Rattle.rdl_values.specs.Seen.{entry_of, listed_enum}
use Rattle.rdl_values.specs.Values.{EnumOf, Names}
use Rattle.rdl_facts.specs.Places.{ArePlaces, stands}
use Rattle.rdl_encodings.specs.Body.{AreEnumsOf, under}
use Rattle.rdl_encodings.specs.declared.body.BodyEnums.{BodyEnums}

-- what stands behind some others
behind : (before : List EnumValues) (m : EnumValues) (ms : List EnumValues) → slice_get (before ++ (m ∷ ms)) (length before) ≡ Some m
behind [] m ms = refl
behind (e ∷ before) m ms = behind before m ms

module _ (n : Name) where
  abbrev first : List (List EnumValues × EnumValues) → Option ℕ
  first es = option_map (λ s. s.number) (find (λ s. nat_lt s.place n.place.0) (map stands (filter (λ e. bytes_eq e.1.name.text.now n.text.now) es)))

  abbrev meant : List EnumValues → Option EnumOf
  meant es = find (λ e. bytes_eq e.name n.text.now && nat_lt e.place n.place.0) (map listed_enum es)

  abbrev at : List EnumValues → Option ℕ → Option EnumOf
  at all o = option_map (λ k. under n.text.now (slice_get all k)) o

  found : (all before es : List EnumValues) → all ≡ before ++ es → meant es ≡ at all (first (standing_from before es))
  found all before [] e = refl
  found all before (m ∷ es) e = go (bytes_eq m.name.text.now n.text.now) refl (found all (before ++ (m ∷ [])) es (e ∙ sym (append_assoc before (m ∷ []) es)))
    where
      rest : List (List EnumValues × EnumValues)
      rest = filter (λ e. bytes_eq e.1.name.text.now n.text.now) (standing_from (before ++ (m ∷ [])) es)

      same : bytes_eq m.name.text.now n.text.now ≡ true → listed_enum m ≡ under n.text.now (slice_get all (length before))
      same t = (λ i. record { name = (bytes_decides m.name.text.now n.text.now).0 t i; place = m.name.place.0; entries = map entry_of m.entries.now }) ∙ ap (under n.text.now) (sym (ap (λ xs. slice_get xs (length before)) e ∙ behind before m es))

      here : bytes_eq m.name.text.now n.text.now ≡ true → (y : Bool) → meant es ≡ at all (first (standing_from (before ++ (m ∷ [])) es))
          → cond y (Some (listed_enum m)) (meant es) ≡ at all (option_map (λ s. s.number) (cond y (Some (stands (before, m))) (find (λ s. nat_lt s.place n.place.0) (map stands rest))))
      here t true k = ap Some (same t)
      here t false k = k

      go : (x : Bool) → bytes_eq m.name.text.now n.text.now ≡ x → meant es ≡ at all (first (standing_from (before ++ (m ∷ [])) es))
          → cond (x && nat_lt m.name.place.0 n.place.0) (Some (listed_enum m)) (meant es) ≡ at all (option_map (λ s. s.number) (find (λ s. nat_lt s.place n.place.0) (map stands (cond x ((before, m) ∷ rest) rest))))
      go true t k = here t (nat_lt m.name.place.0 n.place.0) k
      go false t k = k

pub of_names : (b : BodyEnums) (es : List EnumValues) → ArePlaces b.places es → b.list.now ≡ es → (names : Names) → names.enums ≡ map listed_enum es → AreEnumsOf b names
of_names b es places list names are = record {
  found = λ n.
      ap (λ xs. find (λ e. bytes_eq e.name n.text.now && nat_lt e.place n.place.0) xs) are ∙ found n b.list.now [] es list
      ∙ ap (λ ss. at n b.list.now (option_map (λ s. s.number) (find (λ s. nat_lt s.place n.place.0) ss))) (sym (places.each n.text.now));
}
