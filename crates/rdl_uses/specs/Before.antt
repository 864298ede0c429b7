-- The uses before one in its body.
use Rattle.std.specs.Prelude.{◌≡◌, ℕ, List, map}
use Rattle.rdl_values.specs.NoNode.{is_primary}
use Rattle.rdl_values.specs.Uses.{Use}
use Rattle.rdl_values.specs.Firsts.{AreFirsts}
use Rattle.rdl_uses.specs.declared.earlier.Earlier.{Earlier}

abbrev pub names_of_uses : List Use → List (List ℕ)
names_of_uses us = map (λ u. u.name.text.now) us

-- the uses, by the first place of each name
pub record AreEarlier (e : Earlier) (us : List Use) : Type 0 where
  pub places : AreFirsts e.places (names_of_uses us)
  pub primaries : e.primaries.items ≡ map is_primary us
