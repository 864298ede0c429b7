-- Values by what names stand for.
use Rattle.std.proofs.Common.{◌≡◌, refl, ap, ℕ, List, Option, None, Some}
use Rattle.rdl_base.specs.declared.rule.Rule.TheVariants as rules
use Rattle.rdl_tree.specs.declared.expr.Expr.{Expr, Number, Flag, Str, Ref, EntryOf, Not', Binary', Pick'}
use Rattle.rdl_tree.specs.declared.expr.Name.{Name}
use Rattle.rdl_values.specs.Views.{steps_of}
use Rattle.rdl_values.specs.Values.{Around, or_fails, parameter, parameter_of, entry_value, bare_name, path_place, value_of}

same_parameter : (a b : Around) → ((n : List ℕ) → parameter a n ≡ parameter b n) → (o : Option Name) → parameter_of a o ≡ parameter_of b o
same_parameter a b p None = refl
same_parameter a b p (Some n) = p n.text.now

pub same_values : (a b : Around) → ((n : List ℕ) → parameter a n ≡ parameter b n) → ((e n : Name) → entry_value a e n ≡ entry_value b e n) → (x : Expr) → value_of a x ≡ value_of b x
same_values a b p q (Number n k) = refl
same_values a b p q (Flag f k) = refl
same_values a b p q (Str s k) = refl
same_values a b p q (Ref path item) = ap (λ o. or_fails o rules.V1 (path_place (steps_of path))) (same_parameter a b p (bare_name path item))
same_values a b p q (EntryOf e n) = q e n
same_values a b p q (Not' r e k) = rw (same_values a b p q e) refl
same_values a b p q (Binary' o r x s y k) = rw (same_values a b p q x, same_values a b p q y) refl
same_values a b p q (Pick' r c s x t y k) = rw (same_values a b p q c, same_values a b p q x, same_values a b p q y) refl
