-- Lists that begin alike.
use Rattle.std.proofs.Common.{◌≡◌, ℕ, ◌+◌, List, ◌++◌, take, drop, ap, sym, ◌∙◌, take-add, drop-drop}
use Rattle.std.specs.Int.{w64, to_le_bytes}

-- lists that are alike up to a place and from there on
pub both_alike : (a b : ℕ) (xs ys : List ℕ) → take a xs ≡ take a ys → take b (drop a xs) ≡ take b (drop a ys) → take (a + b) xs ≡ take (a + b) ys
both_alike a b xs ys first second = take-add a b xs ∙ (ap (λ l. l ++ take b (drop a xs)) first ∙ (ap (λ l. take a ys ++ l) second ∙ sym (take-add a b ys)))

-- two words of eight bytes each
pub words_alike : (xs ys : List ℕ) (at a b c d : ℕ) → a ≡ b → c ≡ d → to_le_bytes w64 a ≡ take 8 (drop at xs) → to_le_bytes w64 b ≡ take 8 (drop at ys)
    → to_le_bytes w64 c ≡ take 8 (drop (at + 8) xs) → to_le_bytes w64 d ≡ take 8 (drop (at + 8) ys) → take 16 (drop at xs) ≡ take 16 (drop at ys)
words_alike xs ys at a b c d first second one other more others =
    both_alike 8 8 (drop at xs) (drop at ys) (sym one ∙ (ap (to_le_bytes w64) first ∙ other))
    (ap (take 8) (drop-drop 8 at xs) ∙ (sym more ∙ (ap (to_le_bytes w64) second ∙ (others ∙ ap (take 8) (sym (drop-drop 8 at ys))))))
