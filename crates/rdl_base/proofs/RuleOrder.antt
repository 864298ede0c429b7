-- The order that is derived for rules is that of the table.
use Rattle.std.proofs.Common.{◌≡◌, refl, ◌∙◌}
use Rattle.std.specs.Ordering.{nat_cmp}
use Rattle.std.specs.declared.cmp.Ordering.TheVariants.{Less, Greater}
use denote.Enum.Compared.{by}
use denote.Enum.Declared.{tag_of}
use Rattle.rdl_base.specs.declared.rule.Rule.{Rule}
use Rattle.rdl_base.specs.contracts.rule.Rule.{the_type, enum}
use Rattle.rdl_base.specs.declared.rule.Rule.TheVariants.{L1}
use Rattle.rdl_base.specs.Rules.{row}
use Rattle.rdl_base.proofs.DerivedOrder.{no_fields, by_place}

places : (rule : Rule) → tag_of the_type rule ≡ (row rule).number
places L1 = refl
places _ = refl

pub derived : (a b : Rule) → by Less Greater enum.parts (no_fields enum.parts) (enum.as_values a) (enum.as_values b) ≡ nat_cmp (row a).number (row b).number
derived a b = by_place enum.parts (enum.as_values a) (enum.as_values b) ∙ (λ i. nat_cmp (places a i) (places b i))
