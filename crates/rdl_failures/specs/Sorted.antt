-- Lists that are sorted, each item once.
use Rattle.std.specs.Prelude.{◌≡◌, Bool, List, IsPermutation, IsSorted}
use Rattle.std.specs.List.{dedup}
use Rattle.std.specs.declared.cmp.Ordering.{Ordering}

-- The one list is what is left of the other where it is sorted and repeats are dropped.
pub record IsSortedOnce {T : Type 0} (cmp : T → T → Ordering) (eq : T → T → Bool) (old new : List T) : Type 0 where
  pub sorted : List T
  pub same : IsPermutation old sorted
  pub rises : IsSorted cmp sorted
  pub once : new ≡ dedup eq sorted
