-- Lists of numbers that depend on their places alone.
use Rattle.std.proofs.Common.{◌≡◌, ◌∙◌, ℕ, ◌+◌, ◌<◌, List, [], ◌∷◌, ◌++◌, get_or, length, length-take, map, take, sym, ap, arith}
use Rattle.std.specs.List.{enumerate_from}
use Rattle.std.proofs.lemmas.List.{map-append, take_more}
use Rattle.word_groups.specs.Arrays.{at_each}
use Rattle.rb_model.proofs.PortLists.{enumerate_from-push}
use Rattle.plain_lemmas.proofs.Lists.{any-default}

pub numbered-more : {X : Type 0} (xs : List X) (i : ℕ) (x : X) → i < length xs → x ≡ get_or xs i x → enumerate_from 0 (take (i + 1) xs) ≡ enumerate_from 0 (take i xs) ++ (i, x) ∷ []
numbered-more xs i x low at =
    let long : 0 + length (take i xs) ≡ i = omega (arith, length-take i xs) in
    ap (enumerate_from 0) (take_more xs i x low ∙ ap (λ y. take i xs ++ y ∷ []) (sym at)) ∙ enumerate_from-push 0 i (take i xs) x long

pub map-more : {X Y : Type 0} (f : ℕ × X → Y) (xs : List X) (i : ℕ) (x : X) → i < length xs → x ≡ get_or xs i x
    → map f (enumerate_from 0 (take (i + 1) xs)) ≡ map f (enumerate_from 0 (take i xs)) ++ f (i, x) ∷ []
map-more f xs i x low at = ap (map f) (numbered-more xs i x low at) ∙ map-append f (enumerate_from 0 (take i xs)) ((i, x) ∷ [])

-- a list of numbers that depend on their places alone
pub at_each-more : (f : ℕ → ℕ) (xs : List ℕ) (i : ℕ) → i < length xs → at_each f (take (i + 1) xs) ≡ at_each f (take i xs) ++ f i ∷ []
at_each-more f xs i low = map-more (λ k. f k.0) xs i (get_or xs i 0) low (same xs i low)
  where
    same : (xs : List ℕ) (i : ℕ) → i < length xs → get_or xs i 0 ≡ get_or xs i (get_or xs i 0)
    same xs i low = any-default xs i 0 (get_or xs i 0) low
