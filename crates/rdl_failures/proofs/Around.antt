-- Bodies in which names stand for the same.
use Rattle.std.proofs.Common.{◌≡◌, ◌∙◌, ◌∷◌, Option, None, Some, Ok, refl, ap, sym}
use Rattle.std.specs.Option.{option_or}
use Rattle.rdl_base.specs.declared.rule.Rule.TheVariants as rules
use Rattle.rdl_tree.specs.declared.expr.Name.{Name}
use Rattle.rdl_values.specs.Values.{Around, EnumOf, Names, Outcome, Val, number, or_fails, then, entry_named, entry_value, visible_enum}
use Rattle.rdl_values.specs.Visible.{enum_before}
use Rattle.rdl_failures.specs.Shown.{IsAlike}

-- the same body before them
pub alike_inside : (b : Names) (these those : Around) → IsAlike these those → IsAlike (b ∷ these) (b ∷ those)
alike_inside b these those h = record { parameters = λ n. ap (option_or (entry_named n b.bound)) (h.parameters n); entries = λ e n. go e n (enum_before e b) refl }
  where
    value : Name → Name → Option EnumOf → Outcome Val
    value e n o = then (or_fails o rules.V1 e.place) λ v. then (or_fails (entry_named n.text.now v.entries) rules.V1 n.place) λ k. Ok (number k)

    around_none : (around : Around) (e n : Name) → enum_before e b ≡ None → entry_value (b ∷ around) e n ≡ entry_value around e n
    around_none around e n q = ap (λ o. value e n (option_or o (visible_enum around e))) q

    around_some : (around : Around) (e n : Name) (v : EnumOf) → enum_before e b ≡ Some v → entry_value (b ∷ around) e n ≡ value e n (Some v)
    around_some around e n v q = ap (λ o. value e n (option_or o (visible_enum around e))) q

    go : (e n : Name) (o : Option EnumOf) → enum_before e b ≡ o → entry_value (b ∷ these) e n ≡ entry_value (b ∷ those) e n
    go e n None q = around_none these e n q ∙ h.entries e n ∙ sym (around_none those e n q)
    go e n (Some v) q = around_some these e n v q ∙ sym (around_some those e n v q)

pub alike_same : (around : Around) → IsAlike around around
alike_same around = record { parameters = λ n. refl; entries = λ e n. refl }
