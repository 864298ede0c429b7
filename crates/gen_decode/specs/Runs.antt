-- What addresses have in common.
use Rattle.std.specs.Prelude.{◌≡◌, ℕ, ◌+◌, ◌*◌, ◌-◌, ◌%◌, ◌^◌, ◌<◌, ◌≤◌, List, length, get_or}
use Rattle.gen_decode.specs.Among.{AreWithin}
use Rattle.gen_decode.specs.declared.runs.Run.{Run}

-- the words of a range of 2 ^ bits addresses from base on share the bits above the lowest ones
pub record IsRun (words : List ℕ) (base bits : ℕ) (run : Run) : Type 0 where
  pub shorter : run.low < bits
  pub fits : run.top < 2 ^ (bits - run.low)
  pub lowest : run.base ≡ base + run.top * 2 ^ run.low
  pub within : AreWithin run.base run.low words

-- a word for each number of so many upper bits, and the count of words divides the number of the first
pub record IsEven (words : List ℕ) (first base bits index : ℕ) : Type 0 where
  pub some : 0 < index
  pub within : index ≤ bits
  pub count : length words ≡ 2 ^ index
  pub aligned : first % 2 ^ index ≡ 0
  pub each : (i : ℕ) → i < length words → get_or words i 0 ≡ base + i * 2 ^ (bits - index)
