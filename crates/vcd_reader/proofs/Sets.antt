-- Tests of words, in both directions.
use Rattle.std.specs.List.{list_any}
use Rattle.std.specs.Str.{bytes_eq}
use Rattle.plain_lemmas.proofs.Lists.{bytes_eq-swap}
use Rattle.v_design.specs.Lexemes.{among}
use Rattle.std.proofs.Common.{◌≡◌, ℕ, ◌||◌, List, [], ◌∷◌, refl, ap, ◌∙◌}

pub any_is : (cs : List (List ℕ)) (c : List ℕ) → list_any (bytes_eq c) cs ≡ among cs c
any_is [] c = refl
any_is (x ∷ cs) c = ap (λ b. b || list_any (bytes_eq c) cs) (bytes_eq-swap c x) ∙ ap (λ b. bytes_eq x c || b) (any_is cs c)
