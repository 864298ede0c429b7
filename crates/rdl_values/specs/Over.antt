-- The values of a use, over those of the text.
use Rattle.std.specs.Prelude.{◌≡◌, ℕ, [], map, take, Option, None, Some}
use Rattle.rdl_values.specs.Firsts.{AreFirsts}
use Rattle.rdl_values.specs.Kept.{AreDefaults, entry_of}
use Rattle.rdl_values.specs.Overlaid.{AreApart, Plain, overlaid}
use Rattle.rdl_values.specs.Parameters.{Bound}
use Rattle.rdl_values.specs.Seen.{bound_of}
use Rattle.rdl_values.specs.declared.parameters.Parameters.{Parameters}

-- So many of the text's parameters are seen, with these values over them.
pub record IsOver (p : Parameters) (xs : Plain) (upto : ℕ) (touched : Bound) : Type 0 where
  pub defaults : AreDefaults p.defaults.value xs
  pub upto_is : p.upto ≡ upto
  pub places : AreFirsts p.places (map (λ b. b.0) touched)
  pub touched_are : map bound_of p.touched.items ≡ touched
  pub apart : AreApart (take upto xs)

-- those of a text, those that are put over them, and the values that they have together
abbrev pub plain_in : Parameters → Plain
plain_in p = map entry_of p.defaults.value.entries.items

abbrev pub touched_in : Parameters → Bound
touched_in p = map bound_of p.touched.items

abbrev pub shown : Parameters → Bound
shown p = overlaid (take p.upto (plain_in p)) (touched_in p)

-- the same where there may be none
abbrev pub shown_or_none : Option Parameters → Bound
shown_or_none None = []
shown_or_none (Some p) = shown p

abbrev pub AreShown : Option Parameters → Type 0
AreShown None = Unit {0}
AreShown (Some p) = IsOver p (plain_in p) p.upto (touched_in p)
