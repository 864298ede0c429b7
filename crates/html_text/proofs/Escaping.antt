-- A text's bytes, one by one.
use Rattle.std.proofs.Common.{◌≡◌, ◌∙◌, ℕ, ◌-◌, ◌≤◌, ◌==◌, Bool, true, false, cond, List, [], ◌∷◌, ◌++◌, drop, flat_map, get_or, length, take, refl, sym, ap, arith}
use Rattle.html_text.specs.Escaped.{added, meant_from, reference, takes}
use Rattle.html_text.proofs.Cuts.{tail}

at_byte : (good taken : Bool) (b : ℕ) (bs : List ℕ) → flat_map (reference good) (meant_from taken (b ∷ bs)) ≡ added good taken b ++ flat_map (reference good) (meant_from (takes taken b) bs)
at_byte good true b bs = refl
at_byte good false b bs = go (b == 92)
  where
    go : (t : Bool) → flat_map (reference good) (cond t (meant_from true bs) (b ∷ meant_from false bs)) ≡ cond t [] (reference good b) ++ flat_map (reference good) (meant_from t bs)
    go true = refl
    go false = refl

pub byte_step : (good taken : Bool) (bs : List ℕ) (next : Bool) → 1 ≤ length bs → next ≡ takes taken (get_or bs 0 0)
    → flat_map (reference good) (meant_from taken bs) ≡ added good taken (get_or bs 0 0) ++ flat_map (reference good) (meant_from next (take (length bs - 1) (drop 1 bs)))
byte_step good taken [] next l e = absurd (omega (arith, l))
byte_step good taken (b ∷ bs) next l e = at_byte good taken b bs ∙ ap (λ n. added good taken b ++ flat_map (reference good) (meant_from n bs)) (sym e)
    ∙ ap (λ r. added good taken b ++ flat_map (reference good) (meant_from next r)) (sym (tail b bs))
