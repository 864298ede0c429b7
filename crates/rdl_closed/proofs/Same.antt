-- What is made of parts that mean the same in all bodies.
use Rattle.std.proofs.Common.{◌≡◌, ◌∙◌, ℕ, ◌+◌, ◌<◌, ◌≤◌, List, [], ◌∷◌, ◌++◌, get_or, length, take, Option, None, Some, Ok, Err, refl, sym, ap, subst}
use Rattle.std.specs.List.{AllByRecursion}
use Rattle.std.proofs.lemmas.List.{take_all, take_more}
use Rattle.rdl_tree.specs.declared.item.Entry.{Entry}
use Rattle.rdl_values.specs.Enums.{Judged, entry_number, judged_from}
use Rattle.rdl_values.specs.Values.{Around, Outcome}
use Rattle.rdl_closed.specs.Closed.{AreClosed, IsClosedEntry}

judged-same : (es : List Entry) → AllByRecursion IsClosedEntry es → (v w : Around) (before : Option ℕ) → judged_from v before es ≡ judged_from w before es
judged-same [] h v w before = refl
judged-same (e ∷ es) h v w before = go (entry_number w before e) (h.0 v w before) refl (λ k. judged-same es h.1 v w (Some k))
  where
    go : (o : Outcome ℕ) → entry_number v before e ≡ entry_number w before e → entry_number w before e ≡ o → ((k : ℕ) → judged_from v (Some k) es ≡ judged_from w (Some k) es) → judged_from v before (e ∷ es) ≡ judged_from w before (e ∷ es)
    go (Ok k) s q rest = let t : entry_number v before e ≡ Ok k = s ∙ q in rw (t, q) (ap (λ (j : Judged). record { entries = (e.name, k) ∷ j.entries; failure = j.failure }) (rest k))
    go (Err f) s q rest = let t : entry_number v before e ≡ Err f = s ∙ q in rw (t, q) refl

pub all_closed : (es : List Entry) (i : ℕ) → length es ≤ i → AllByRecursion IsClosedEntry (take i es) → AreClosed es
all_closed es i l h = λ v w. judged-same es (subst (AllByRecursion IsClosedEntry) (take_all i es l) h) v w None

pub closed_more : (es : List Entry) (i : ℕ) (d : Entry) → i < length es → AllByRecursion IsClosedEntry (take i es) → IsClosedEntry (get_or es i d) → AllByRecursion IsClosedEntry (take (i + 1) es)
closed_more es i d l h k = subst (AllByRecursion IsClosedEntry) (sym (take_more es i d l)) (push (take i es) h)
  where
    push : (xs : List Entry) → AllByRecursion IsClosedEntry xs → AllByRecursion IsClosedEntry (xs ++ (get_or es i d ∷ []))
    push [] all = (k, tt)
    push (x ∷ xs) all = (all.0, push xs all.1)
