-- What the numbers of registers are of.
use Rattle.std.specs.Prelude.{◌≡◌, List, [], ◌∷◌}
use Rattle.rdl_props.specs.declared.prop.Prop.TheVariants as prop
use Rattle.rdl_layout.specs.declared.extent.Side.{Side}
use Rattle.rdl_layout.specs.declared.extent.Side.TheVariants as sides
use Rattle.rdl_layers.specs.Phase4.{number_at}
use Rattle.rdl_layout.specs.declared.register.Register.{Register}
use Rattle.rdl_addr.specs.Layout.{Placed}
use Rattle.rdl_addr.specs.Rules as rule

abbrev pub side_of : rule.Side → Side
side_of rule.reads_alone = sides.Reads
side_of rule.writes_alone = sides.Writes
side_of rule.other = sides.Other

-- A register of the code says where one of the layout stands.
pub record IsRegisterOf (r : Register) (p : Placed) : Type 0 where
  pub place_ : r.place ≡ p.node.use_.name.place
  pub address_ : r.address ≡ p.address
  pub size_ : r.size ≡ p.size
  pub regwidth_ : r.regwidth ≡ number_at p.node prop.Regwidth
  pub accesswidth_ : r.accesswidth ≡ number_at p.node prop.Accesswidth
  pub side_ : r.side ≡ side_of (rule.side_of p.node)

-- one by one
abbrev pub AreRegistersOf : List Register → List Placed → Type 0
AreRegistersOf [] [] = Unit {0}
AreRegistersOf (r ∷ rs) (p ∷ ps) = IsRegisterOf r p × AreRegistersOf rs ps
AreRegistersOf _ _ = ⊥
