use Rattle.std.proofs.Common.{◌≡◌, ◌∙◌, ◌^◌, ◌||◌, Bool, true, false, refl, ap, sym}
use Rattle.std.specs.List.{list_any}
use Rattle.rdl_props.specs.declared.prop.Prop.TheVariants as prop
use Rattle.rdl_layers.specs.Phase4.{width_of}
use Rattle.rdl_layers.specs.Settings.{setting}
use Rattle.rdl_rules.specs.FieldRules as rules
use Rattle.rdl_field_rules.proofs.numbers.is_too_wide.Goals as goal

or-none : (b : Bool) → (b || false) ≡ b
or-none true = refl
or-none false = refl

pub returns : goal.returns
returns c = λ n at fact.
    let w = fact.width_ in
    let above : c.is_one_above-above.result ≡ list_any (λ p. rules.is_above (2 ^ width_of n) (setting n p)) rules.numbers = c.is_one_above-above.ensures n at ∙ (λ i. list_any (λ p. rules.is_above (2 ^ w i) (setting n p)) rules.numbers) in
    let up : c.is_bad_count_width-up.result ≡ rules.bad_count_width (width_of n) (setting n prop.Incrwidth) = c.is_bad_count_width-up.ensures n at ∙ (λ i. rules.bad_count_width (w i) (setting n prop.Incrwidth)) in
    let down : c.is_bad_count_width-down.result ≡ rules.bad_count_width (width_of n) (setting n prop.Decrwidth) = c.is_bad_count_width-down.ensures n at ∙ (λ i. rules.bad_count_width (w i) (setting n prop.Decrwidth)) in
    (λ i. above i || (up i || (down ∙ sym (or-none (rules.bad_count_width (width_of n) (setting n prop.Decrwidth)))) i))
