-- What the numbers of fields are of.
use Rattle.std.specs.Prelude.{◌≡◌, cond, option_to_list, List, [], ◌∷◌}
use Rattle.rdl_props.specs.declared.prop.Prop.TheVariants as prop
use Rattle.rdl_values.specs.Instances.{Instance}
use Rattle.rdl_layout.specs.declared.extent.Side.{Side}
use Rattle.rdl_layout.specs.declared.extent.Side.TheVariants.{Reads, Writes, Other}
use Rattle.rdl_layers.specs.Phase4.{width_of, range_of}
use Rattle.rdl_layers.specs.Settings.{Meaning, setting}
use Rattle.rdl_layout.specs.declared.bits.Field.{Field}
use Rattle.rdl_layout.specs.declared.bits.FieldBits.{FieldBits}
use Rattle.rdl_addr.specs.Bits.{Bits}
use Rattle.rdl_addr.specs.Rules.{only_reads, only_writes}

-- what software does with a field, by its setting of 'sw'
abbrev pub side_of : Meaning → Side
side_of m = cond (only_reads m) Reads (cond (only_writes m) Writes Other)

-- A field of the code says what an instance is.
pub record IsFieldOf (f : Field) (n : Instance) : Type 0 where
  pub place_ : f.place ≡ n.use_.name.place
  pub range_ : option_to_list f.range ≡ range_of n
  pub width_ : f.width ≡ width_of n
  pub side_ : f.side ≡ side_of (setting n prop.Sw)

-- one by one
abbrev pub AreFieldsOf : List Field → List Instance → Type 0
AreFieldsOf [] [] = Unit {0}
AreFieldsOf (f ∷ fs) (n ∷ ns) = IsFieldOf f n × AreFieldsOf fs ns
AreFieldsOf _ _ = ⊥

-- The bits of the code are those of a field.
pub record AreBitsOf (c : FieldBits) (b : Bits) : Type 0 where
  pub place_ : c.place ≡ b.node.use_.name.place
  pub high_ : c.high ≡ b.high
  pub low_ : c.low ≡ b.low
  pub side_ : c.side ≡ side_of (setting b.node prop.Sw)

-- one by one
abbrev pub AllAreBitsOf : List FieldBits → List Bits → Type 0
AllAreBitsOf [] [] = Unit {0}
AllAreBitsOf (c ∷ cs) (b ∷ bs) = AreBitsOf c b × AllAreBitsOf cs bs
AllAreBitsOf _ _ = ⊥
