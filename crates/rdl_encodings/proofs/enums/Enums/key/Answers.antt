use Rattle.std.proofs.Common.{◌≡◌, ◌∙◌, ℕ, IfOk, List, subst, sym}
use Rattle.rdl_encodings.specs.Body.{under}
use Rattle.rdl_encodings.specs.Keyed.{enum_of_key}
use Rattle.rdl_encodings.proofs.enums.Enums.key.Goals as goal

pub returns-in-Some : goal.returns-in-Some
returns-in-Some c = subst (λ o. IfOk c.key_of.result (λ key. (name : List ℕ) → enum_of_key name key ≡ under name o)) (sym c.in-Some.is ∙ c.at.ensures) c.key_of.ensures
