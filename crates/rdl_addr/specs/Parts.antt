-- What the numbers of parts are of.
use Rattle.std.specs.Prelude.{◌≡◌, List, [], ◌∷◌, length, option_to_list}
use Rattle.rdl_layout.specs.declared.part.Mode.{Mode}
use Rattle.rdl_layout.specs.declared.part.Mode.TheVariants.{Compact, Regalign, Fullalign}
use Rattle.rdl_layout.specs.declared.part.Part.{Part}
use Rattle.rdl_addr.specs.Layout as layout
use Rattle.rdl_addr.specs.Layout.{Group, given, is_array}

abbrev pub mode_of : Mode → layout.Mode
mode_of Compact = layout.compact
mode_of Regalign = layout.regalign
mode_of Fullalign = layout.fullalign

-- A part says what a group of the definitions is.
pub record IsPartOf (p : Part) (g : Group) : Type 0 where
  pub count : p.others ≡ length g.others
  pub bytes : p.size ≡ g.size
  pub width : p.access ≡ g.access
  pub at_ : option_to_list p.at ≡ given g g.first.use_.form.at
  pub stride_ : option_to_list p.stride ≡ given g g.first.use_.form.stride
  pub align_ : option_to_list p.align ≡ given g g.first.use_.form.align
  pub array : p.is_array ≡ is_array g

-- one by one
abbrev pub ArePartsOf : List Part → List Group → Type 0
ArePartsOf [] [] = Unit {0}
ArePartsOf (p ∷ ps) (g ∷ gs) = IsPartOf p g × ArePartsOf ps gs
ArePartsOf _ _ = ⊥
