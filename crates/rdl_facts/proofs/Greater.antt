-- The greatest numbers of entries, one by one.
use Rattle.std.proofs.Common.{◌≡◌, ◌∙◌, ℕ, ◌+◌, ◌<◌, Bool, true, false, ◌||◌, List, [], ◌∷◌, ◌++◌, get_or, length, map, nat_le, take, Option, Some, refl, sym, ap, subst}
use Rattle.std.specs.List.{list_any}
use Rattle.std.proofs.lemmas.List.{map-append, take_more}
use Rattle.std.proofs.lemmas.List.Folds.{list_any-append}
use Rattle.rdl_tree.specs.declared.value.EntryValue.{EntryValue}
use Rattle.rdl_tree.specs.declared.value.EnumValues.{EnumValues}
use Rattle.rdl_values.specs.Seen.{entry_of}
use Rattle.rdl_facts.specs.Greatest.{AreEach, IsGreatest, reaches}

or-false : (b : Bool) → (b || false) ≡ b
or-false true = refl
or-false false = refl

pub greatest_more : (es : List EntryValue) (i : ℕ) (d : EntryValue) (o : Option ℕ) (n : ℕ) → i < length es → ((m : ℕ) → nat_le m n ≡ (reaches o m || nat_le m (get_or es i d).value)) → IsGreatest o (map entry_of (take i es)) → IsGreatest (Some n) (map entry_of (take (i + 1) es))
greatest_more es i d o n l most h = record {
  reached = λ m.
      let x = get_or es i d in
      ap (λ ys. list_any (λ e. nat_le m e.1) (map entry_of ys)) (take_more es i d l) ∙ ap (list_any (λ e. nat_le m e.1)) (map-append entry_of (take i es) (x ∷ [])) ∙ list_any-append (λ e. nat_le m e.1) (map entry_of (take i es)) (entry_of x ∷ [])
      ∙ ap (λ b. b || (nat_le m x.value || false)) (h.reached m) ∙ ap (λ b. reaches o m || b) (or-false (nat_le m x.value)) ∙ sym (most m);
}

each-push : (gs : List (Option ℕ)) (es : List EnumValues) (g : Option ℕ) (e : EnumValues) → AreEach gs es → IsGreatest g (map entry_of e.entries.now) → AreEach (gs ++ (g ∷ [])) (es ++ (e ∷ []))
each-push [] [] g e h k = (k, tt)
each-push [] (x ∷ es) g e h k = absurd h
each-push (y ∷ gs) [] g e h k = absurd h
each-push (y ∷ gs) (x ∷ es) g e h k = (h.0, each-push gs es g e h.1 k)

pub each_more : (gs new : List (Option ℕ)) (es : List EnumValues) (i : ℕ) (d : EnumValues) (g : Option ℕ) → i < length es → AreEach gs (take i es) → IsGreatest g (map entry_of (get_or es i d).entries.now) → new ≡ gs ++ (g ∷ []) → AreEach new (take (i + 1) es)
each_more gs new es i d g l h k e = subst (λ ys. AreEach ys (take (i + 1) es)) (sym e) (subst (AreEach (gs ++ (g ∷ []))) (sym (take_more es i d l)) (each-push gs (take i es) g (get_or es i d) h k))
