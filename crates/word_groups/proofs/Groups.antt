-- Groups, and the places at which they are found.
use Rattle.std.proofs.Common.{◌≡◌, ◌∙◌, ℕ, suc, ◌<◌, Bool, true, false, cond, bytes_eq, List, [], ◌∷◌, ◌++◌, length, get_or, slice_set, Option, None, Some, refl, sym, ap, subst, arith}
use Rattle.std.specs.Option.{option_map}
use Rattle.word_groups.specs.declared.places.Places.{Places}
use Rattle.word_groups.specs.declared.entries.Entry.{Entry}
use Rattle.word_groups.specs.Arrays.{has_key, key, placed}
use Rattle.word_groups.specs.Places.{ArePlacesOf, place_in, place_of}
use Rattle.plain_lemmas.proofs.Lists.{bytes_eq-same}

before : (o : Option ℕ) (n : ℕ) → option_map suc o ≡ Some n → (m : ℕ) × (o ≡ Some m) × (n ≡ suc m)
before None n e = cc e
before (Some m) n e = let same : suc m ≡ n = cc e in (m, refl, sym same)

not_before : (o : Option ℕ) → option_map suc o ≡ None → o ≡ None
not_before None e = refl
not_before (Some m) e = cc e

pub place_of-within : (gs : List (List Entry)) (k : List ℕ) (n : ℕ) → place_of gs k ≡ Some n → n < length gs
place_of-within [] k n e = cc e
place_of-within (g ∷ gs) k n e = go (has_key k g) (λ m f. place_of-within gs k m f) e
  where
    go : (b : Bool) → ((m : ℕ) → place_of gs k ≡ Some m → m < length gs) → cond b (Some 0) (option_map suc (place_of gs k)) ≡ Some n → n < length (g ∷ gs)
    go true rest e = let same : 0 ≡ n = cc e in omega (arith, same)
    go false rest e = let p = before (place_of gs k) n e in let inside = rest p.0 p.1 in let at = p.2 in omega (arith, inside, at)

pub placed-found : (gs : List (List Entry)) (u : Entry) (n : ℕ) → place_of gs (key u) ≡ Some n → placed gs u ≡ slice_set gs n (get_or gs n [] ++ u ∷ [])
placed-found [] u n e = cc e
placed-found (g ∷ gs) u n e = go (has_key (key u) g) (λ m f. placed-found gs u m f) e
  where
    go : (b : Bool) → ((m : ℕ) → place_of gs (key u) ≡ Some m → placed gs u ≡ slice_set gs m (get_or gs m [] ++ u ∷ [])) → cond b (Some 0) (option_map suc (place_of gs (key u))) ≡ Some n → cond b ((g ++ u ∷ []) ∷ gs) (g ∷ placed gs u) ≡ slice_set (g ∷ gs) n (get_or (g ∷ gs) n [] ++ u ∷ [])
    go true rest e = let same : 0 ≡ n = cc e in subst (λ k. (g ++ u ∷ []) ∷ gs ≡ slice_set (g ∷ gs) k (get_or (g ∷ gs) k [] ++ u ∷ [])) same refl
    go false rest e = let p = before (place_of gs (key u)) n e in
        subst (λ k. g ∷ placed gs u ≡ slice_set (g ∷ gs) k (get_or (g ∷ gs) k [] ++ u ∷ [])) (sym p.2) (ap (λ hs. g ∷ hs) (rest p.0 p.1))

pub placed-new : (gs : List (List Entry)) (u : Entry) → place_of gs (key u) ≡ None → placed gs u ≡ gs ++ (u ∷ []) ∷ []
placed-new [] u e = refl
placed-new (g ∷ gs) u e = go (has_key (key u) g) (λ f. placed-new gs u f) e
  where
    go : (b : Bool) → (place_of gs (key u) ≡ None → placed gs u ≡ gs ++ (u ∷ []) ∷ []) → cond b (Some 0) (option_map suc (place_of gs (key u))) ≡ None → cond b ((g ++ u ∷ []) ∷ gs) (g ∷ placed gs u) ≡ g ∷ (gs ++ (u ∷ []) ∷ [])
    go true rest e = cc e
    go false rest e = ap (λ hs. g ∷ hs) (rest (not_before (place_of gs (key u)) e))

has_key-more : (k : List ℕ) (g : List Entry) (u : Entry) (c : Bool) → has_key (key u) g ≡ true → has_key k (g ++ u ∷ []) ≡ has_key k g
has_key-more k [] u c e = cc e
has_key-more k (v ∷ vs) u c e = refl

-- a group that has grown is found as before
pub place_of-found : (gs : List (List Entry)) (u : Entry) (n : ℕ) (k : List ℕ) → place_of gs (key u) ≡ Some n → place_of (placed gs u) k ≡ place_of gs k
place_of-found [] u n k e = cc e
place_of-found (g ∷ gs) u n k e = go (has_key (key u) g) (λ m f. place_of-found gs u m k f) refl e
  where
    go : (b : Bool) → ((m : ℕ) → place_of gs (key u) ≡ Some m → place_of (placed gs u) k ≡ place_of gs k) → has_key (key u) g ≡ b → cond b (Some 0) (option_map suc (place_of gs (key u))) ≡ Some n → place_of (cond b ((g ++ u ∷ []) ∷ gs) (g ∷ placed gs u)) k ≡ place_of (g ∷ gs) k
    go true rest t e = ap (λ c. cond c (Some 0) (option_map suc (place_of gs k))) (has_key-more k g u true t)
    go false rest t e = let p = before (place_of gs (key u)) n e in ap (λ o. cond (has_key k g) (Some 0) (option_map suc o)) (rest p.0 p.1)

-- a new one stands last
other_key : (gs : List (List Entry)) (u : Entry) (k : List ℕ) → bytes_eq (key u) k ≡ false → place_of (gs ++ (u ∷ []) ∷ []) k ≡ place_of gs k
other_key [] u k e = ap (λ b. cond b (Some 0) None) e
other_key (g ∷ gs) u k e = ap (λ o. cond (has_key k g) (Some 0) (option_map suc o)) (other_key gs u k e)

its_key : (gs : List (List Entry)) (u : Entry) → place_of gs (key u) ≡ None → bytes_eq (key u) (key u) ≡ true → place_of (gs ++ (u ∷ []) ∷ []) (key u) ≡ Some (length gs)
its_key [] u e same = ap (λ b. cond b (Some 0) None) same
its_key (g ∷ gs) u e same = go (has_key (key u) g) (λ f. its_key gs u f same) e
  where
    go : (b : Bool) → (place_of gs (key u) ≡ None → place_of (gs ++ (u ∷ []) ∷ []) (key u) ≡ Some (length gs)) → cond b (Some 0) (option_map suc (place_of gs (key u))) ≡ None → cond b (Some 0) (option_map suc (place_of (gs ++ (u ∷ []) ∷ []) (key u))) ≡ Some (length (g ∷ gs))
    go true rest e = cc e
    go false rest e = ap (option_map suc) (rest (not_before (place_of gs (key u)) e))

pub place_of-new : (gs : List (List Entry)) (u : Entry) (k : List ℕ) → place_of gs (key u) ≡ None → place_of (gs ++ (u ∷ []) ∷ []) k ≡ cond (bytes_eq (key u) k) (Some (length gs)) (place_of gs k)
place_of-new gs u k e = go (bytes_eq (key u) k) refl
  where
    go : (b : Bool) → bytes_eq (key u) k ≡ b → place_of (gs ++ (u ∷ []) ∷ []) k ≡ cond b (Some (length gs)) (place_of gs k)
    go false t = other_key gs u k t
    go true t = let same = bytes_eq-same (key u) k t in subst (λ q. place_of (gs ++ (u ∷ []) ∷ []) q ≡ Some (length gs)) same (its_key gs u e (subst (λ q. bytes_eq (key u) q ≡ true) (sym same) t))

-- what the table has once an entry was placed

pub places-found : (gs : List (List Entry)) (u : Entry) (n : ℕ) (p : Places) → place_of gs (key u) ≡ Some n → ArePlacesOf gs p → ArePlacesOf (placed gs u) p
places-found gs u n p e are k = are k ∙ sym (place_of-found gs u n k e)

pub places-new : (gs : List (List Entry)) (u : Entry) (old new : Places) → place_of gs (key u) ≡ None → ArePlacesOf gs old
    → ((k : List ℕ) → place_in new k ≡ cond (bytes_eq (key u) k) (Some (length gs)) (place_in old k)) → ArePlacesOf (placed gs u) new
places-new gs u old new e are put k = put k ∙ ap (cond (bytes_eq (key u) k) (Some (length gs))) (are k) ∙ sym (place_of-new gs u k e) ∙ ap (λ hs. place_of hs k) (sym (placed-new gs u e))
