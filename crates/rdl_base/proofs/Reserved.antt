-- What is a reserved word.
use Rattle.std.proofs.Common.{◌≡◌, ℕ, ◌==◌, ◌||◌, true, List, [], ◌∷◌, length, map, filter, refl, ap, ◌∙◌, eq-eqb}
use Rattle.std.proofs.lemmas.Map.Views.{any-filter_same}
use Rattle.std.proofs.lemmas.Slice.Eq.{bytes_eq-Decides}
use Rattle.std.specs.List.{list_any}
use Rattle.std.specs.Str.{bytes_eq}
use Rattle.rdl_base.specs.declared.keyword.Keyword.{Keyword}
use Rattle.rdl_base.specs.declared.keyword.Keyword.TheVariants.{Addrmap}
use Rattle.rdl_base.specs.Keywords.{word, keywords, reserved, is_reserved}

-- each keyword's word is one
pub is_reserved-word : (keyword : Keyword) → true ≡ is_reserved (word keyword)
unfolding is_reserved reserved keywords
is_reserved-word Addrmap = refl
is_reserved-word _ = refl

list_any-map : (text : List ℕ) (ks : List Keyword) → list_any (λ k. bytes_eq (word k) text) ks ≡ list_any (λ w. bytes_eq w text) (map word ks)
list_any-map text [] = refl
list_any-map text (k ∷ ks) = ap (λ found. bytes_eq (word k) text || found) (list_any-map text ks)

same_length : (text : List ℕ) (k : Keyword) → bytes_eq (word k) text ≡ true → (length (word k) == length text) ≡ true
same_length text k same = eq-eqb _ _ (ap length ((bytes_eq-Decides (word k) text).0 same))

-- it is enough to look at the words of its length
pub is_reserved-of_length : (text : List ℕ) → list_any (λ k. bytes_eq (word k) text) (filter (λ k. length (word k) == length text) keywords) ≡ is_reserved text
unfolding is_reserved reserved
is_reserved-of_length text = any-filter_same (λ k. bytes_eq (word k) text) (λ k. length (word k) == length text) true (same_length text) keywords ∙ list_any-map text keywords
