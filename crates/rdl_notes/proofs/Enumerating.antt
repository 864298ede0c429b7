-- Enumerations that are put in, where none stands at their places yet.
use Rattle.std.proofs.Common.{zero, suc, ◌+◌, ◌<◌, length, take, map, get_or, slice_get, add-one, ◌≡◌, ◌∙◌, ℕ, ◌==◌, Bool, true, false, cond, List, [], ◌∷◌, ◌++◌, Option, None, Some, find, is_some, option_map, refl, sym, ap}
use denote.Ref.{Bor}
use Rattle.std.proofs.lemmas.List.{map-append}
use Rattle.std.specs.BTreeMap.{get, is_at}
use Rattle.std.specs.Cmp.{unsigned_tied}
use Rattle.std.specs.Option.{option_or}
use Rattle.std.specs.Ordering.{nat_cmp}
use Rattle.plain_lemmas.proofs.Lists.{get-at}
use Rattle.plain_lemmas.proofs.Numbers.{eq-same}
use Rattle.rdl_tree.specs.declared.item.Entry.{Entry}
use Rattle.rdl_notes.specs.Entries.{enum_at}
use Rattle.rdl_notes.specs.Known.{AreKnown, known_at}
use Rattle.rdl_notes.specs.declared.entries.SourceEnums.{SourceEnums}

find-behind : {A : Type 0} (f : A → Bool) (xs : List A) (y : A) → find f (xs ++ (y ∷ [])) ≡ option_or (find f xs) (cond (f y) (Some y) None)
find-behind f [] y = refl
find-behind f (x ∷ xs) y = go (f x) (find-behind f xs y)
  where
    go : (b : Bool) → find f (xs ++ (y ∷ [])) ≡ option_or (find f xs) (cond (f y) (Some y) None) → cond b (Some x) (find f (xs ++ (y ∷ []))) ≡ option_or (cond b (Some x) (find f xs)) (cond (f y) (Some y) None)
    go true rest = refl
    go false rest = rest

none_mapped : {A B : Type 0} (f : A → B) (o : Option A) → option_map f o ≡ None → o ≡ None
none_mapped f None e = refl
none_mapped f (Some x) e = absurd (let q : Some (f x) ≡ None = e in cc)

pub none_of : {A : Type 0} (o : Option A) → false ≡ is_some o → o ≡ None
none_of None e = refl
none_of (Some x) e = absurd (let q : false ≡ true = e in cc)

pub added : (old new : SourceEnums) (es : List (ℕ × List Entry)) (p : ℕ) (e : Bor (List Entry)) → get nat_cmp old.by_place p ≡ None → ((q : ℕ) → get nat_cmp new.by_place q ≡ cond (is_at (nat_cmp p) q) (Some e) (get nat_cmp old.by_place q)) → AreKnown es old → AreKnown (es ++ ((p, e.now) ∷ [])) new
added old new es p e none updates known q = go (p == q) refl
  where
    go : (b : Bool) → (p == q) ≡ b → known_at new q ≡ option_map (λ x. x.1) (enum_at (es ++ ((p, e.now) ∷ [])) q)
    go true t =
        let same : p ≡ q = eq-same p q t in
        let before : enum_at es q ≡ None = none_mapped (λ x. x.1) (enum_at es q) (sym (known q) ∙ ap (option_map (λ x. x.now)) (ap (get nat_cmp old.by_place) (sym same) ∙ none)) in
        ap (option_map (λ x. x.now)) (updates q ∙ ap (λ c. cond c (Some e) (get nat_cmp old.by_place q)) (unsigned_tied p q ∙ t))
        ∙ sym (ap (option_map (λ x. x.1)) (find-behind (λ x. x.0 == q) es (p, e.now) ∙ (λ i. option_or (before i) (cond (t i) (Some (p, e.now)) None))))
    go false t =
        ap (option_map (λ x. x.now)) (updates q ∙ ap (λ c. cond c (Some e) (get nat_cmp old.by_place q)) (unsigned_tied p q ∙ t))
        ∙ known q
        ∙ sym (ap (option_map (λ x. x.1)) (find-behind (λ x. x.0 == q) es (p, e.now) ∙ ap (λ c. option_or (enum_at es q) (cond c (Some (p, e.now)) None)) t ∙ nothing (enum_at es q)))
      where
        nothing : (o : Option (ℕ × List Entry)) → option_or o None ≡ o
        nothing None = refl
        nothing (Some x) = refl

-- one that isn't put in, as another stands there
pub kept : (t : SourceEnums) (es : List (ℕ × List Entry)) (p : ℕ) (e : List Entry) → is_some (get nat_cmp t.by_place p) ≡ true → AreKnown es t → AreKnown (es ++ ((p, e) ∷ [])) t
kept t es p e here known q = go (enum_at es q) refl (p == q) refl
  where
    go : (o : Option (ℕ × List Entry)) → enum_at es q ≡ o → (b : Bool) → (p == q) ≡ b → known_at t q ≡ option_map (λ x. x.1) (enum_at (es ++ ((p, e) ∷ [])) q)
    go (Some x) f b eq = known q ∙ sym (ap (option_map (λ x. x.1)) (find-behind (λ x. x.0 == q) es (p, e) ∙ ap (λ o. option_or o (cond (p == q) (Some (p, e)) None)) f ∙ sym f))
    go None f false eq = known q ∙ sym (ap (option_map (λ x. x.1)) (find-behind (λ x. x.0 == q) es (p, e) ∙ (λ i. option_or (f i) (cond (eq i) (Some (p, e)) None)) ∙ sym f))
    go None f true eq =
        let none : get nat_cmp t.by_place q ≡ None = none_mapped (λ x. x.now) (get nat_cmp t.by_place q) (known q ∙ ap (option_map (λ x. x.1)) f) in
        absurd (let r : false ≡ true = ap is_some (sym none) ∙ ap (λ k. is_some (get nat_cmp t.by_place k)) (sym (eq-same p q eq)) ∙ here in cc)

-- What is made of each of a list, as a loop makes it.
module _ {A B C : Type 0} (g : A → C) (f : B → C) where
  mapped_more : (xs : List B) (k : ℕ) (x : B) → slice_get xs k ≡ Some x → map f (take (suc k) xs) ≡ map f (take k xs) ++ (f x ∷ [])
  mapped_more [] k x h = absurd (let q : None ≡ Some x = h in cc)
  mapped_more (y ∷ xs) zero x h = let q : y ≡ x = cc in ap (λ z. f z ∷ []) q
  mapped_more (y ∷ xs) (suc k) x h = ap (λ l. f y ∷ l) (mapped_more xs k x h)

  pub made_more : (xs : List B) (k : ℕ) (x : B) → k < length xs → x ≡ get_or xs k x → (old new : List A) (v : A) → new ≡ old ++ (v ∷ []) → g v ≡ f x → map g old ≡ map f (take k xs) → map g new ≡ map f (take (k + 1) xs)
  made_more xs k x low here old new v pushed made before =
      ap (map g) pushed
      ∙ (map-append g old (v ∷ [])
      ∙ ((λ i. before i ++ (made i ∷ []))
      ∙ (sym (mapped_more xs k x (get-at xs k x low ∙ ap Some (sym here))) ∙ ap (λ n. map f (take n xs)) (sym (add-one k)))))
