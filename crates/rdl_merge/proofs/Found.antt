-- One entry behind others.
use Rattle.std.proofs.Common.{◌≡◌, ◌∙◌, Bool, true, false, cond, ◌||◌, List, [], ◌∷◌, ◌++◌, find, Option, None, Some, is_some, refl, sym, ap, subst}
use Rattle.std.specs.List.{list_any}
use Rattle.std.specs.Option.{option_or}
use Rattle.std.proofs.lemmas.List.Folds.{list_any-append}
use Rattle.rdl_props.specs.Same.{same_prop}
use Rattle.rdl_props.specs.declared.prop.Prop.{Prop}
use Rattle.rdl_values.specs.Instances.{Instance}
use Rattle.rdl_layers.specs.Ranks.{is_related}
use Rattle.rdl_layers.specs.Settings.{Applied}
use Rattle.rdl_layers.specs.declared.props.PropSetting.{PropSetting}
use Rattle.rdl_merge.specs.Merged.{AreEntries, IsEntry, Tells}
use Rattle.rdl_merge.proofs.Related.{same_prop-is}

pub find-append : {A : Type 0} (f : A → Bool) (xs ys : List A) → find f (xs ++ ys) ≡ option_or (find f xs) (find f ys)
find-append f [] ys = refl
find-append f (x ∷ xs) ys = go (f x) (find-append f xs ys)
  where
    go : (b : Bool) → find f (xs ++ ys) ≡ option_or (find f xs) (find f ys) → cond b (Some x) (find f (xs ++ ys)) ≡ option_or (cond b (Some x) (find f xs)) (find f ys)
    go true h = refl
    go false h = h

-- where one passes, one is found that passes a weaker test
found : {A : Type 0} (f g : A → Bool) (xs : List A) → list_any f xs ≡ true → ((x : A) → f x ≡ true → g x ≡ true) → is_some (find g xs) ≡ true
found f g [] h weaker = cc
found f g (x ∷ xs) h weaker = go (f x) (g x) refl refl h (λ k. found f g xs k weaker)
  where
    go : (b c : Bool) → f x ≡ b → g x ≡ c → (b || list_any f xs) ≡ true → (list_any f xs ≡ true → is_some (find g xs) ≡ true) → is_some (cond c (Some x) (find g xs)) ≡ true
    go b true e k h ih = refl
    go true false e k h ih = let yes = weaker x e in cc
    go false false e k h ih = ih h

tells-more : (all : List Instance) (o o' : Option PropSetting) (x x' : Option Applied) → Tells all o x → Tells all o' x' → Tells all (option_or o o') (option_or x x')
tells-more all None o' None x' h k = k
tells-more all (Some e) o' (Some a) x' h k = h
tells-more all None o' (Some a) x' h k = absurd h
tells-more all (Some e) o' None x' h k = absurd h

tells-one : (all : List Instance) (p : Prop) (e : PropSetting) (a : Applied) → IsEntry all e a → Tells all (cond (is_related p e.prop) (Some e) None) (cond (is_related p a.candidate.prop) (Some a) None)
tells-one all p e a h = subst (λ q. Tells all (cond (is_related p e.prop) (Some e) None) (cond (is_related p q) (Some a) None)) (sym h.prop) (go (is_related p e.prop))
  where
    go : (b : Bool) → Tells all (cond b (Some e) None) (cond b (Some a) None)
    go true = h
    go false = tt

pub entry_new : (all : List Instance) (es fs : List PropSetting) (xs : List Applied) (e : PropSetting) (a : Applied) → fs ≡ es ++ (e ∷ []) → AreEntries all es xs → IsEntry all e a → AreEntries all fs (xs ++ (a ∷ []))
entry_new all es fs xs e a same h k = subst (λ zs. AreEntries all zs (xs ++ (a ∷ []))) (sym same) (record {
  assigned = λ p. list_any-append (λ b. same_prop p b.prop) es (e ∷ []) ∙ (λ i. h.assigned p i || (same_prop p (sym k.prop i) || false)) ∙ sym (list_any-append (λ b. same_prop p b.candidate.prop) xs (a ∷ []));
  first = λ p. subst (λ o. Tells all o (find (λ b. is_related p b.candidate.prop) (xs ++ (a ∷ [])))) (sym (find-append (λ b. is_related p b.prop) es (e ∷ [])))
      (subst (Tells all (option_or (find (λ b. is_related p b.prop) es) (find (λ b. is_related p b.prop) (e ∷ [])))) (sym (find-append (λ b. is_related p b.candidate.prop) xs (a ∷ [])))
      (tells-more all _ _ _ _ (h.first p) (tells-one all p e a k)));
})

pub entry_again : (all : List Instance) (es : List PropSetting) (xs : List Applied) (e : PropSetting) (a : Applied) → list_any (λ b. same_prop e.prop b.prop) es ≡ true → AreEntries all es xs → IsEntry all e a → AreEntries all es (xs ++ (a ∷ []))
entry_again all es xs e a there h k = record {
  assigned = λ p. h.assigned p ∙ no_more p (same_prop p a.candidate.prop) refl ∙ sym (list_any-append (λ b. same_prop p b.candidate.prop) xs (a ∷ []));
  first = λ p. subst (Tells all (find (λ b. is_related p b.prop) es)) (sym (find-append (λ b. is_related p b.candidate.prop) xs (a ∷ []))) (go p (find (λ b. is_related p b.prop) es) (find (λ b. is_related p b.candidate.prop) xs) refl (h.first p));
}
  where
    or-false : (c : Bool) → c ≡ (c || false)
    or-false true = refl
    or-false false = refl

    no_more : (p : Prop) (b : Bool) → same_prop p a.candidate.prop ≡ b → list_any (λ x. same_prop p x.candidate.prop) xs ≡ (list_any (λ x. same_prop p x.candidate.prop) xs || (same_prop p a.candidate.prop || false))
    no_more p false q = or-false (list_any (λ x. same_prop p x.candidate.prop) xs) ∙ ap (λ c. list_any (λ x. same_prop p x.candidate.prop) xs || (c || false)) (sym q)
    no_more p true q =
        let one : p ≡ e.prop = same_prop-is p a.candidate.prop q ∙ k.prop in
        let yes : list_any (λ x. same_prop p x.candidate.prop) xs ≡ true = sym (h.assigned p) ∙ ap (λ r. list_any (λ b. same_prop r b.prop) es) one ∙ there in
        yes ∙ sym (ap (λ c. c || (same_prop p a.candidate.prop || false)) yes)

    related : (p : Prop) (x : PropSetting) → is_related p a.candidate.prop ≡ true → same_prop e.prop x.prop ≡ true → is_related p x.prop ≡ true
    related p x q r = subst (λ z. is_related p z ≡ true) (k.prop ∙ same_prop-is e.prop x.prop r) q

    none : (p : Prop) → find (λ b. is_related p b.prop) es ≡ None → (b : Bool) → is_related p a.candidate.prop ≡ b → Tells all None (cond b (Some a) None)
    none p e' false q = tt
    none p e' true q =
        let some = found (λ b. same_prop e.prop b.prop) (λ b. is_related p b.prop) es there (λ x r. related p x q r) in
        let not_some : is_some (find (λ b. is_related p b.prop) es) ≡ false = ap is_some e' in cc

    go : (p : Prop) (o : Option PropSetting) (x : Option Applied) → find (λ b. is_related p b.prop) es ≡ o → Tells all o x → Tells all o (option_or x (find (λ b. is_related p b.candidate.prop) (a ∷ [])))
    go p None None e' t = none p e' (is_related p a.candidate.prop) refl
    go p (Some y) (Some x) e' t = t
    go p None (Some x) e' t = absurd t
    go p (Some y) None e' t = absurd t
