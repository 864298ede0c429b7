-- What the fields of a block keep, and its places in a list.
use Rattle.std.specs.Prelude.{◌≡◌, ℕ, Bool, true, false, Option, Some, MatchOption, List, map, slice_get}
use Rattle.std.specs.List.{enumerate_from, flat_map}
use Rattle.rb_model.specs.declared.block.Field.{Field}
use Rattle.rb_model.specs.Kept.{Kept, Val, Last, Done, is_storage, keeps_last, kept_of}
use Rattle.block_plan.specs.declared.kept.FieldKept.{FieldKept}
use Rattle.block_plan.specs.declared.kept.KeptValue.{KeptValue}
use Rattle.block_plan.specs.declared.kept.KeptValue.TheVariants as value
use Rattle.block_plan.specs.declared.kept.KeptValues.{KeptValues}

abbrev pub kept_seen : KeptValue → Kept
kept_seen (value.Val k) = Val k
kept_seen (value.Last k) = Last k
kept_seen (value.Done k) = Done k

-- the place of k in a list, if k is kept
abbrev pub IsKeptAt : List Kept → Bool → Kept → Option ℕ → Type 0
IsKeptAt all is_kept k place = MatchOption place (is_kept ≡ false) (λ j. (is_kept ≡ true) × (slice_get all j ≡ Some k))

-- the places of what field k keeps
pub record AreFieldKept (all : List Kept) (k : ℕ) (f : Field) (p : FieldKept) : Type 0 where
  pub value : IsKeptAt all (is_storage f.class) (Val k) p.value
  pub last : IsKeptAt all (keeps_last f.latch) (Last k) p.last
  pub done : IsKeptAt all f.once (Done k) p.done

-- the kept values of these fields
pub record AreKeptOf (fs : List Field) (v : KeptValues) : Type 0 where
  pub all : map kept_seen v.all.items ≡ flat_map kept_of (enumerate_from 0 fs)
  pub places : (k : ℕ) (f : Field) → slice_get fs k ≡ Some f → (p : FieldKept) × (slice_get v.of.items k ≡ Some p) × AreFieldKept (map kept_seen v.all.items) k f p
