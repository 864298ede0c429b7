-- A table of first places, name by name.
use Rattle.std.proofs.Common.{◌≡◌, ◌∙◌, ℕ, suc, ◌+◌, Bool, true, false, ◌||◌, cond, if◌then◌else◌, add-zero, zero-add, bytes_eq, List, [], ◌∷◌, ◌++◌, ◌<◌, ◌≤◌, length, get_or, take, map, Option, None, Some, is_some, refl, sym, ap, subst, arith}
use Rattle.std.specs.List.{list_any, position_from}
use Rattle.std.specs.Option.{option_or}
use Rattle.std.proofs.lemmas.List.{length-map, length-take-le, map-append, take_all, take_more}
use Rattle.std.proofs.lemmas.List.Folds.{list_any-append}
use Rattle.rdl_values.specs.Firsts.{AreFirsts, HasNames, place_of}
use Rattle.rdl_values.specs.declared.firsts.Firsts.{Firsts}
use Rattle.plain_lemmas.proofs.Lists.{bytes_eq-same as same_text}
use Rattle.plain_lemmas.proofs.Options.{option_or-first as or-some, option_or-none as or-none, option_or-second as or-first}

-- what a table has once a name is put in at a place
abbrev pub IsPut : List ℕ → ℕ → Firsts → Firsts → Type 0
IsPut name at old new = (n : List ℕ) → place_of new n ≡ option_or (place_of old n) (cond (bytes_eq name n) (Some at) None)

-- A name that is there, or a new one.

pub put_again : (name : List ℕ) (at : ℕ) (t : Firsts) → is_some (place_of t name) ≡ true → IsPut name at t t
put_again name at t there n = go (bytes_eq name n) refl
  where
    go : (b : Bool) → bytes_eq name n ≡ b → place_of t n ≡ option_or (place_of t n) (cond b (Some at) None)
    go false e = or-none (place_of t n)
    go true e = or-some (place_of t n) (Some at) (ap (λ m. is_some (place_of t m)) (sym (same_text name n e)) ∙ there)

pub put_new : (name : List ℕ) (at : ℕ) (old new : Firsts) → is_some (place_of old name) ≡ false → ((n : List ℕ) → place_of new n ≡ (if bytes_eq name n then Some at else place_of old n)) → IsPut name at old new
put_new name at old new fresh put n = put n ∙ go (bytes_eq name n) refl
  where
    go : (b : Bool) → bytes_eq name n ≡ b → (if b then Some at else place_of old n) ≡ option_or (place_of old n) (cond b (Some at) None)
    go false e = or-none (place_of old n)
    go true e = or-first (place_of old n) (Some at) (ap (λ m. is_some (place_of old m)) (sym (same_text name n e)) ∙ fresh)

-- One name more.

position-append : (f : List ℕ → Bool) (i : ℕ) (xs : List (List ℕ)) (y : List ℕ) → position_from f i (xs ++ (y ∷ [])) ≡ option_or (position_from f i xs) (cond (f y) (Some (i + length xs)) None)
position-append f i [] y = ap (λ k. cond (f y) (Some k) None) (sym (add-zero i))
position-append f i (x ∷ xs) y = go (f x) (position-append f (i + 1) xs y)
  where
    place : i + 1 + length xs ≡ i + suc (length xs)
    place = omega arith

    go : (b : Bool) → position_from f (i + 1) (xs ++ (y ∷ [])) ≡ option_or (position_from f (i + 1) xs) (cond (f y) (Some (i + 1 + length xs)) None)
        → cond b (Some i) (position_from f (i + 1) (xs ++ (y ∷ []))) ≡ option_or (cond b (Some i) (position_from f (i + 1) xs)) (cond (f y) (Some (i + suc (length xs))) None)
    go true h = refl
    go false h = h ∙ ap (λ k. option_or (position_from f (i + 1) xs) (cond (f y) (Some k) None)) place

pub firsts_none : (t : Firsts) → ((n : List ℕ) → place_of t n ≡ None) → AreFirsts t []
firsts_none t h = record { at = h }

pub names_none : (t : Firsts) → ((n : List ℕ) → place_of t n ≡ None) → HasNames t []
names_none t h = record { at = λ n. ap is_some (h n) }

pub firsts_more : (old new : Firsts) (names : List (List ℕ)) (name : List ℕ) (at : ℕ) → AreFirsts old names → at ≡ length names → IsPut name at old new → AreFirsts new (names ++ (name ∷ []))
firsts_more old new names name at h e put = record {
  at = λ n. put n ∙ ap (λ o. option_or o (cond (bytes_eq name n) (Some at) None)) (h.at n) ∙ ap (λ k. option_or (position_from (λ m. bytes_eq m n) 0 names) (cond (bytes_eq name n) (Some k) None)) (e ∙ sym (zero-add (length names))) ∙ sym (position-append (λ m. bytes_eq m n) 0 names name);
}

or-place : (o : Option ℕ) (b : Bool) (at : ℕ) → is_some (option_or o (cond b (Some at) None)) ≡ (is_some o || (b || false))
or-place None true at = refl
or-place None false at = refl
or-place (Some k) b at = refl

pub names_more : (old new : Firsts) (names : List (List ℕ)) (name : List ℕ) (at : ℕ) → HasNames old names → IsPut name at old new → HasNames new (names ++ (name ∷ []))
names_more old new names name at h put = record {
  at = λ n. ap is_some (put n) ∙ or-place (place_of old n) (bytes_eq name n) at ∙ ap (λ b. b || (bytes_eq name n || false)) (h.at n) ∙ sym (list_any-append (λ m. bytes_eq m n) names (name ∷ []));
}

-- a name that some thing has
pub any-named : {X : Type 0} (f : X → List ℕ) (n : List ℕ) (xs : List X) → list_any (λ m. bytes_eq m n) (map f xs) ≡ list_any (λ x. bytes_eq (f x) n) xs
any-named f n [] = refl
any-named f n (x ∷ xs) = ap (λ b. bytes_eq (f x) n || b) (any-named f n xs)

-- Things one by one, by their places.

map_step : {X : Type 0} (f : X → List ℕ) (xs : List X) (i : ℕ) (x : X) → i < length xs → x ≡ get_or xs i x → map f (take i xs) ++ (f x ∷ []) ≡ map f (take (i + 1) xs)
map_step f xs i x l at = sym (map-append f (take i xs) (x ∷ [])) ∙ ap (map f) (sym (take_more xs i x l ∙ ap (λ y. take i xs ++ (y ∷ [])) (sym at)))

pub names_step : {X : Type 0} (f : X → List ℕ) (xs : List X) (i : ℕ) (x : X) → i < length xs → x ≡ get_or xs i x → (old new : Firsts) (at : ℕ) → HasNames old (map f (take i xs)) → IsPut (f x) at old new → HasNames new (map f (take (i + 1) xs))
names_step f xs i x l is old new at h put = subst (HasNames new) (map_step f xs i x l is) (names_more old new (map f (take i xs)) (f x) at h put)

pub firsts_step : {X : Type 0} (f : X → List ℕ) (xs : List X) (i : ℕ) (x : X) → i < length xs → x ≡ get_or xs i x → (old new : Firsts) → AreFirsts old (map f (take i xs)) → IsPut (f x) i old new → AreFirsts new (map f (take (i + 1) xs))
firsts_step f xs i x l is old new h put =
    let size : i ≡ length (map f (take i xs)) = sym (length-map (take i xs) f ∙ length-take-le i xs (omega (arith, l))) in
    subst (AreFirsts new) (map_step f xs i x l is) (firsts_more old new (map f (take i xs)) (f x) i h size put)

-- all of them
pub names_all : {X : Type 0} (f : X → List ℕ) (xs : List X) (i : ℕ) (t : Firsts) → length xs ≤ i → HasNames t (map f (take i xs)) → HasNames t (map f xs)
names_all f xs i t l h = subst (λ ys. HasNames t (map f ys)) (take_all i xs l) h

-- the same of what a list has at a place, whatever it has past its end

map_at : {X : Type 0} (f : X → List ℕ) (xs : List X) (i : ℕ) (d : X) → i < length xs → map f (take i xs) ++ (f (get_or xs i d) ∷ []) ≡ map f (take (i + 1) xs)
map_at f xs i d l = sym (map-append f (take i xs) (get_or xs i d ∷ [])) ∙ ap (map f) (sym (take_more xs i d l))

pub names_at : {X : Type 0} (f : X → List ℕ) (xs : List X) (i : ℕ) (d : X) → i < length xs → (old new : Firsts) (at : ℕ) → HasNames old (map f (take i xs)) → IsPut (f (get_or xs i d)) at old new → HasNames new (map f (take (i + 1) xs))
names_at f xs i d l old new at h put = subst (HasNames new) (map_at f xs i d l) (names_more old new (map f (take i xs)) (f (get_or xs i d)) at h put)

pub firsts_at : {X : Type 0} (f : X → List ℕ) (xs : List X) (i : ℕ) (d : X) → i < length xs → (old new : Firsts) → AreFirsts old (map f (take i xs)) → IsPut (f (get_or xs i d)) i old new → AreFirsts new (map f (take (i + 1) xs))
firsts_at f xs i d l old new h put =
    let size : i ≡ length (map f (take i xs)) = sym (length-map (take i xs) f ∙ length-take-le i xs (omega (arith, l))) in
    subst (AreFirsts new) (map_at f xs i d l) (firsts_more old new (map f (take i xs)) (f (get_or xs i d)) i h size put)

pub firsts_all : {X : Type 0} (f : X → List ℕ) (xs : List X) (i : ℕ) (t : Firsts) → length xs ≤ i → AreFirsts t (map f (take i xs)) → AreFirsts t (map f xs)
firsts_all f xs i t l h = subst (λ ys. AreFirsts t (map f ys)) (take_all i xs l) h

-- the names that have first places are those of the list
pub firsts-some : (t : Firsts) (names : List (List ℕ)) (n : List ℕ) → AreFirsts t names → is_some (place_of t n) ≡ list_any (λ m. bytes_eq m n) names
firsts-some t names n h = ap is_some (h.at n) ∙ go 0 names
  where
    go : (i : ℕ) (ms : List (List ℕ)) → is_some (position_from (λ m. bytes_eq m n) i ms) ≡ list_any (λ m. bytes_eq m n) ms
    go i [] = refl
    go i (m ∷ ms) = here (bytes_eq m n) (go (i + 1) ms)
      where
        here : (b : Bool) → is_some (position_from (λ m. bytes_eq m n) (i + 1) ms) ≡ list_any (λ m. bytes_eq m n) ms → is_some (cond b (Some i) (position_from (λ m. bytes_eq m n) (i + 1) ms)) ≡ (b || list_any (λ m. bytes_eq m n) ms)
        here true h = refl
        here false h = h

-- a place is none before the one from which it is counted
