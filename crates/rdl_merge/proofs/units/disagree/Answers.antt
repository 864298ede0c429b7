use Rattle.std.proofs.Common.{◌≡◌, ◌∙◌, ℕ, not, ◌==◌, false, List, [], ◌∷◌, option_to_list, refl, sym, ap}
use Rattle.std.specs.List.{list_any}
use Rattle.rdl_merge.proofs.units.disagree.Goals as goal

none_passes : (xs : List ℕ) → list_any (λ (x : ℕ). false) xs ≡ false
none_passes [] = refl
none_passes (x ∷ xs) = none_passes xs

pub returns-in-None : goal.returns-in-None
returns-in-None c = sym (ap (λ o. list_any (λ f. list_any (λ a. not (f == a)) (option_to_list o)) c.args.widths.now) c.in-None.is ∙ none_passes c.args.widths.now)
