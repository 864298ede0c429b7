-- Properties that are one, or exclude each other.
use Rattle.std.proofs.Common.{◌≡◌, true, ◌||◌, refl, ap}
use denote.Enum.Bare.{same_true, true_same}
use Rattle.rdl_props.specs.Same.{same_prop}
use Rattle.rdl_props.specs.Table.{share_group}
use Rattle.rdl_props.specs.declared.prop.Prop.{Prop}
use Rattle.rdl_props.specs.contracts.prop.Prop as of_prop
use Rattle.rdl_layers.specs.Ranks.{is_related}

pub same_prop-is : (p q : Prop) → same_prop p q ≡ true → p ≡ q
same_prop-is p q e = same_true of_prop.the_type tt p q e

pub same_prop-itself : (p : Prop) → same_prop p p ≡ true
same_prop-itself p = true_same of_prop.the_type p p refl

pub related-itself : (p : Prop) → is_related p p ≡ true
related-itself p = ap (λ b. b || share_group p p) (same_prop-itself p)
