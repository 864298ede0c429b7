-- The widths of an instance.
use Rattle.std.specs.Prelude.{◌≡◌, ℕ, Bool, not, ◌||◌, List, [], ◌∷◌, ◌++◌, nat_lt, ◌==◌, Ok, option_copied}
use Rattle.std.specs.List.{list_any}
use Rattle.rdl_tree.specs.declared.item.Inst.{Inst}
use Rattle.rdl_values.specs.Instances.{Instance}
use Rattle.rdl_values.specs.Values.{Outcome}
use Rattle.rdl_layers.specs.Phase4.{first_or}

-- The dimensions and the range of an instance are those of this text.
pub record IsOfText (i : Inst) (n : Instance) : Type 0 where
  pub dims : n.use_.dims ≡ i.dims.now
  pub range : n.use_.form.range ≡ option_copied i.range

-- P11 by the widths of the text, the ranges, and the assigned widths
abbrev pub is_bad : List ℕ → List (ℕ × ℕ) → List ℕ → Bool
is_bad widths ranges assigned =
    first_or (widths ++ assigned) 1 == 0 || nat_lt 64 (first_or (widths ++ assigned) 1)
    || list_any (λ r. nat_lt r.0 r.1) ranges
    || list_any (λ f. list_any (λ a. not (f == a)) assigned) widths

-- two numbers as a range, in a list of one, or none where one fails
abbrev pub range_by : Outcome ℕ → Outcome ℕ → List (ℕ × ℕ)
range_by (Ok high) (Ok low) = (high, low) ∷ []
range_by _ _ = []
