-- A number spread over nodes.
use Rattle.std.specs.Prelude.{◌≡◌, ℕ, ◌/◌, ◌%◌, ◌^◌, ◌==◌, ◌<◌, ◌≤◌, ◌&&◌, Bool, true, false, List, length, get_or}
use Rattle.rb_base.specs.Bits.{part}
use Rattle.rtl_net.specs.Value.{At, bit_of}
use Rattle.rtl_net.specs.Net.{Net, Settles, Stands, IsNode}
use Rattle.rtl_net.specs.Ids.{at}
use Rattle.rtl_net.specs.declared.node.Id.{Id}

-- each is a bit
pub record StandEach (net : Net) (ids : List Id) : Type 0 where
  pub each : (k : ℕ) → k < length ids → Stands net (at ids k) 1

-- the number k is needed
abbrev pub IsNeeded : List Bool → ℕ → Type 0
IsNeeded needed k = get_or needed k false ≡ true

-- the rows of numbers that are needed are needed, where a row has those of the same bits from `level` up
pub record AreNeeded (needed : List Bool) (level : ℕ) (rows : List Bool) : Type 0 where
  pub each : (k : ℕ) → k < length needed → IsNeeded needed k → IsNeeded rows (k / 2 ^ level)

-- For each number below their count that is needed, whether `on` is 1 and `number` is that number, at each edge at which
-- `number` is below the count if `on` is 1.
pub record AreHits (net : Net) (on number : Id) (needed : List Bool) (ids : List Id) : Type 0 where
  pub stand : StandEach net ids
  pub value : (x : At) → Settles net x → (x.node on.0 ≡ 1 → x.node number.0 < length ids)
      → (k : ℕ) → k < length ids → IsNeeded needed k → x.node (at ids k).0 ≡ bit_of (x.node on.0 == 1 && x.node number.0 == k)

-- the same of the number's bits from `level` up, where it is at most `last`
pub record AreHitsAbove (net : Net) (on number : Id) (last level : ℕ) (needed : List Bool) (ids : List Id) : Type 0 where
  pub stand : StandEach net ids
  pub value : (x : At) → Settles net x → (x.node on.0 ≡ 1 → x.node number.0 ≤ last)
      → (k : ℕ) → k < length ids → IsNeeded needed k → x.node (at ids k).0 ≡ bit_of (x.node on.0 == 1 && x.node number.0 / 2 ^ level == k)

-- each that is needed is the node of a row and of a column
pub record AreCrossed (net : Net) (rows columns : List Id) (level : ℕ) (needed : List Bool) (ids : List Id) : Type 0 where
  pub stand : StandEach net ids
  pub each : (k : ℕ) → k < length ids → IsNeeded needed k
      → IsNode net (at ids k) 1 (λ x. bit_of (x.node (at rows (k / 2 ^ level)).0 == 1 && x.node (at columns (k % 2 ^ level)).0 == 1))

-- whether a bit of the number is this one
pub record AreSides (net : Net) (number : Id) (level : ℕ) (ids : List Id) : Type 0 where
  pub each : (k : ℕ) → k < length ids → IsNode net (at ids k) 1 (λ x. bit_of (part (x.node number.0) level level == k))

-- whether the number's low bits are this number
pub record AreColumns (net : Net) (number : Id) (bits : ℕ) (ids : List Id) : Type 0 where
  pub each : (k : ℕ) → k < length ids → IsNode net (at ids k) 1 (λ x. bit_of (x.node number.0 % 2 ^ bits == k))
