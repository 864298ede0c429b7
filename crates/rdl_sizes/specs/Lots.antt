-- What the parts of a body and their places are of.
use Rattle.std.specs.Prelude.{◌≡◌, ℕ, max, List, [], ◌∷◌, ◌++◌, map, nat_lt, ◌&&◌, ◌==◌, option_to_list}
use Rattle.std.specs.List.{list_any}
use Rattle.rdl_base.specs.declared.fault.Fault.{Fault}
use Rattle.rdl_base.specs.declared.rule.Rule.TheVariants as rules
use Rattle.rdl_values.specs.Faults.{at_, when}
use Rattle.rdl_layout.specs.declared.part.Mode.{Mode}
use Rattle.rdl_layout.specs.declared.part.Part.{Part}
use Rattle.rdl_layout.specs.Parts.{stride}
use Rattle.rdl_addr.specs.Layout.{Group}
use Rattle.rdl_addr.specs.Parts.{IsPartOf}
use Rattle.rdl_sizes.specs.declared.lot.Lot.{Lot}

-- A part of the code, and its place, are those of a group.
pub record IsLotOf (l : Lot) (g : Group) : Type 0 where
  pub part_ : IsPartOf l.part g
  pub place_ : l.place ≡ g.first.use_.name.place

-- one by one
abbrev pub AreLotsOf : List Lot → List Group → Type 0
AreLotsOf [] [] = Unit {0}
AreLotsOf (l ∷ ls) (g ∷ gs) = IsLotOf l g × AreLotsOf ls gs
AreLotsOf _ _ = ⊥

abbrev pub parts_in : List Lot → List Part
parts_in ls = map (λ l. l.part) ls

-- A1: two elements or more, and a stride below their size
abbrev pub small_stride : Mode → Lot → List Fault
small_stride mode l = when (nat_lt 0 l.part.others && nat_lt (stride mode l.part) l.part.size) (at_ rules.A1 l.place)

-- A2: '%= 0'
abbrev pub no_alignment : Lot → List Fault
no_alignment l = when (list_any (λ m. m == 0) (option_to_list l.part.align)) (at_ rules.A2 l.place)

-- the failures of A1 and A2 of the instances of a body
abbrev pub lot_faults : Mode → Lot → List Fault
lot_faults mode l = small_stride mode l ++ no_alignment l

-- the greatest access width
abbrev pub greatest_access : List Lot → ℕ
greatest_access [] = 0
greatest_access (l ∷ ls) = max l.part.access (greatest_access ls)
