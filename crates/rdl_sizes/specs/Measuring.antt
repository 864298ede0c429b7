-- The size and the access width of a node, from what its body is laid out as.
use Rattle.std.specs.Prelude.{◌≡◌, ℕ, ◌/◌, [], cond, replicate}
use Rattle.rdl_tree.specs.declared.item.Kind.TheVariants as kind
use Rattle.rdl_props.specs.declared.prop.Prop.TheVariants as prop
use Rattle.rdl_values.specs.Instances.{Instance}
use Rattle.rdl_layers.specs.Fields.{is_a}
use Rattle.rdl_layers.specs.Phase4.{number_at}
use Rattle.rdl_sizes.specs.declared.known.Measure.{Measure}
use Rattle.rdl_sizes.specs.declared.known.Sizes.{Sizes}

abbrev pub measured : Instance → ℕ → ℕ → Measure
measured n end access = cond (is_a kind.Reg n) (record { size = number_at n prop.Regwidth / 8; access = number_at n prop.Accesswidth / 8 }) (record { size = end; access = access })

-- Tables for so many nodes, of which nothing is known.
pub record IsUnknown (count : ℕ) (s : Sizes) : Type 0 where
  pub measures_ : s.measures.items ≡ replicate count (record { size = 0; access = 1 })
  pub offsets_ : s.offsets.items ≡ replicate count 0
  pub faults_ : s.faults.items ≡ []
