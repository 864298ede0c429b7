-- Words and their places, one word more.
use Rattle.std.specs.List.{list_any, position, position_from}
use Rattle.std.specs.Option.{option_or}
use Rattle.std.specs.Str.{bytes_eq}
use Rattle.std.specs.BTreeMap.{BTreeMap, get_by}
use Rattle.std.specs.Cmp.Lexicographic.{slice_cmp}
use Rattle.std.specs.Ordering.{nat_cmp}
use Rattle.std.proofs.Common.{◌≡◌, ◌∙◌, ℕ, suc, ◌+◌, Bool, true, false, ◌||◌, cond, if◌then◌else◌, add-zero, zero-add, Option, Some, None, is_some, List, [], ◌∷◌, ◌++◌, length, refl, ap, sym, arith}
use Rattle.std.proofs.lemmas.Iterator.Adapters.{position_from-zero}
use denote.Ref.{Bor}
use Rattle.plain_lemmas.proofs.Lists.{bytes_eq-same, bytes_eq-swap}
use Rattle.plain_lemmas.proofs.Options.{option_or-none, option_or-second}
use Rattle.v_design.specs.Lexemes.{among}
use Rattle.vcd_reader.specs.WordSets.{AreTheirPlaces}
use Rattle.vcd_reader.proofs.Sets.{any_is}

some_from : {X : Type 0} (p : X → Bool) (i : ℕ) (xs : List X) → is_some (position_from p i xs) ≡ list_any p xs
some_from p i [] = refl
some_from p i (x ∷ xs) = go (p x) (some_from p (i + 1) xs)
  where
    go : (b : Bool) → is_some (position_from p (i + 1) xs) ≡ list_any p xs → is_some (cond b (Some i) (position_from p (i + 1) xs)) ≡ (b || list_any p xs)
    go true h = refl
    go false h = h

append_from : {X : Type 0} (p : X → Bool) (i : ℕ) (xs : List X) (y : X) → position_from p i (xs ++ (y ∷ [])) ≡ option_or (position_from p i xs) (cond (p y) (Some (i + length xs)) None)
append_from p i [] y = ap (λ k. cond (p y) (Some k) None) (sym (add-zero i))
append_from p i (x ∷ xs) y = go (p x) (append_from p (i + 1) xs y)
  where
    place : i + 1 + length xs ≡ i + suc (length xs)
    place = omega arith

    go : (b : Bool) → position_from p (i + 1) (xs ++ (y ∷ [])) ≡ option_or (position_from p (i + 1) xs) (cond (p y) (Some (i + 1 + length xs)) None)
        → cond b (Some i) (position_from p (i + 1) (xs ++ (y ∷ []))) ≡ option_or (cond b (Some i) (position_from p (i + 1) xs)) (cond (p y) (Some (i + suc (length xs))) None)
    go true h = refl
    go false h = h ∙ ap (λ k. option_or (position_from p (i + 1) xs) (cond (p y) (Some k) None)) place

-- a word is among others where it has a place
pub has_place : (words : List (List ℕ)) (word : List ℕ) → is_some (position (bytes_eq word) words) ≡ among words word
has_place words word = ap is_some (position_from-zero (bytes_eq word) words) ∙ (some_from (bytes_eq word) 0 words ∙ any_is words word)

position_more : {X : Type 0} (p : X → Bool) (xs : List X) (y : X) → position p (xs ++ (y ∷ [])) ≡ option_or (position p xs) (cond (p y) (Some (length xs)) None)
position_more p xs y =
    position_from-zero p (xs ++ (y ∷ []))
    ∙ (append_from p 0 xs y ∙ (ap (λ k. option_or (position_from p 0 xs) (cond (p y) (Some k) None)) (zero-add (length xs)) ∙ ap (λ o. option_or o (cond (p y) (Some (length xs)) None)) (sym (position_from-zero p xs))))

pub places_more : (old new : BTreeMap (Bor (List ℕ)) ℕ) (words : List (List ℕ)) (word : List ℕ) (number : ℕ) → AreTheirPlaces old words → is_some (position (bytes_eq word) words) ≡ false → number ≡ length words
    → ((n : List ℕ) → get_by (λ k. slice_cmp nat_cmp n k.now) new ≡ (if bytes_eq word n then Some number else get_by (λ k. slice_cmp nat_cmp n k.now) old)) → AreTheirPlaces new (words ++ (word ∷ []))
places_more old new words word number h fresh is put n = put n ∙ (go (bytes_eq word n) refl ∙ sym (position_more (bytes_eq n) words word))
  where
    go : (b : Bool) → bytes_eq word n ≡ b → (if b then Some number else get_by (λ k. slice_cmp nat_cmp n k.now) old) ≡ option_or (position (bytes_eq n) words) (cond (bytes_eq n word) (Some (length words)) None)
    go true e =
        ap Some is
        ∙ (option_or-second (position (bytes_eq n) words) (Some (length words)) (ap (λ m. is_some (position (bytes_eq m) words)) (sym (bytes_eq-same word n e)) ∙ fresh)
        ∙ ap (λ b. option_or (position (bytes_eq n) words) (cond b (Some (length words)) None)) (sym (bytes_eq-swap n word ∙ e)))
    go false e =
        h n
        ∙ (option_or-none (position (bytes_eq n) words) ∙ ap (λ b. option_or (position (bytes_eq n) words) (cond b (Some (length words)) None)) (sym (bytes_eq-swap n word ∙ e)))
