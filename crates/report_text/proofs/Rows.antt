-- The lines of the first words.
use Rattle.std.proofs.Common.{◌≡◌, ◌∙◌, ℕ, zero, suc, ◌+◌, ◌<◌, ◌≤◌, List, [], ◌∷◌, ◌++◌, Some, append_assoc, append-nil, flat_map, get_or, length, refl, slice_get, sym, ap, take, arith}
use Rattle.std.specs.List.{enumerate_from}
use Rattle.rb_model.specs.declared.block.Block.{Block}
use Rattle.rb_model.specs.declared.block.Word.{Word}
use Rattle.report_text.specs.Lines.{address_lines, lines_at, other_line, word_line}

abbrev pub lines_to : Block → ℕ → List ℕ
lines_to b k = flat_map (lines_at b) (enumerate_from 0 (take k b.reads))

-- one word more
more : (b : Block) (n : ℕ) (ws : List Word) (k : ℕ) (w : Word) → slice_get ws k ≡ Some w
    → flat_map (lines_at b) (enumerate_from n (take (suc k) ws)) ≡ flat_map (lines_at b) (enumerate_from n (take k ws)) ++ lines_at b (n + k, w)
more b n [] k w e = cc e
more b n (v ∷ ws) zero w e =
    let same : v ≡ w = cc e in
    let here : n ≡ n + 0 = omega arith in
    append-nil (lines_at b (n, v)) ∙ (λ i. lines_at b (here i, same i))
more b n (v ∷ ws) (suc k) w e =
    let at : (n + 1) + k ≡ n + suc k = omega arith in
    ap (λ xs. lines_at b (n, v) ++ xs) (more b (n + 1) ws k w e) ∙ sym (append_assoc (lines_at b (n, v)) (flat_map (lines_at b) (enumerate_from (n + 1) (take k ws))) (lines_at b ((n + 1) + k, w)))
    ∙ ap (λ m. flat_map (lines_at b) (enumerate_from n (take (suc k) (v ∷ ws))) ++ lines_at b (m, w)) at

pub one_more : (b : Block) (k : ℕ) (w : Word) → slice_get b.reads k ≡ Some w → lines_to b (k + 1) ≡ lines_to b k ++ (word_line b w ++ other_line b w (slice_get b.writes k))
one_more b k w e =
    let next : k + 1 ≡ suc k = omega arith in
    let here : 0 + k ≡ k = omega arith in
    ap (lines_to b) next ∙ more b 0 b.reads k w e ∙ ap (λ m. lines_to b k ++ lines_at b (m, w)) here

pub all_lines : (b : Block) (k : ℕ) → length b.reads ≤ k → lines_to b k ≡ address_lines b
all_lines b k h = ap (λ ws. flat_map (lines_at b) (enumerate_from 0 ws)) (whole b.reads k h)
  where
    whole : (ws : List Word) (k : ℕ) → length ws ≤ k → take k ws ≡ ws
    whole [] zero h = refl
    whole [] (suc k) h = refl
    whole (w ∷ ws) zero h = absurd (omega (arith, h))
    whole (w ∷ ws) (suc k) h = ap (λ vs. w ∷ vs) (whole ws k (omega (arith, h)))

pub got : (ws : List Word) (k : ℕ) (w : Word) → k < length ws → w ≡ get_or ws k w → slice_get ws k ≡ Some w
got [] k w l e = absurd (omega (arith, l))
got (v ∷ ws) zero w l e = ap Some (sym e)
got (v ∷ ws) (suc k) w l e = got ws k w (omega (arith, l)) e
