-- What holds of an effect that is listed where a test passes.
use Rattle.std.proofs.Common.{◌≡◌, Bool, true, false, ◌||◌, refl, sym, ap, ◌∙◌}
use Rattle.std.specs.List.{AllByRecursion, list_any}
use Rattle.rb_model.specs.Kept.{when}
use Rattle.block_effects.specs.declared.kinds.Effect.{Effect}

pub when_says : (P : Effect → Type 0) (b : Bool) (e : Effect) → (b ≡ true → P e) → AllByRecursion P (when b e)
when_says P true e h = (h refl, tt)
when_says P false e h = tt

pub when_absent : (p : Effect → Bool) (b : Bool) (e : Effect) → p e ≡ true → list_any p (when b e) ≡ false → b ≡ false
when_absent p true e t h = let both : (p e || false) ≡ (true || false) = ap (λ c. c || false) t in let no : true ≡ false = sym both ∙ h in cc no
when_absent p false e t h = refl
