-- Ranks that things may lack, in 32 bits.
use Rattle.std.specs.Prelude.{◌≡◌, ℕ, ◌==◌, Bool, true, false, if◌then◌else◌, Option, Some, None, refl}
use Rattle.std.proofs.Common.{sym}
use Rattle.std.proofs.lemmas.Bool.{eqb-true}

-- what a code means: the greatest says that there is no rank
abbrev pub coded_rank : ℕ → Option ℕ
coded_rank code = if code == 4294967295 then None else Some code

abbrev pub code_of : Option ℕ → ℕ
code_of None = 4294967295
code_of (Some rank) = rank

pub code-itself : (code : ℕ) → code_of (coded_rank code) ≡ code
code-itself code = go (code == 4294967295) refl
  where
    go : (b : Bool) → (code == 4294967295) ≡ b → code_of (if b then None else Some code) ≡ code
    go true e = sym (eqb-true code 4294967295 e)
    go false e = refl
