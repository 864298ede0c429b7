-- Addresses among others.
use Rattle.std.specs.Prelude.{if◌then◌else◌, ◌≡◌, ℕ, ◌+◌, ◌-◌, ◌^◌, ◌%◌, ◌==◌, ◌<◌, ◌≤◌, Option, Some, None, IsSome, List, ◌++◌, length, slice_get}
use Rattle.std.specs.List.{list_any}
use Rattle.std.specs.List.Sorted.{IsStrictlyIncreasing}
use Rattle.rb_base.specs.Bits.{part}
use Rattle.rtl_net.specs.Value.{At, bit_of}
use Rattle.rtl_net.specs.Net.{Net, Settles, Stands}
use Rattle.rtl_net.specs.declared.node.Id.{Id}
use Rattle.gen_decode.specs.declared.words.Decoded.{Decoded}

-- an address of the range of 2 ^ bits addresses from base on
pub record IsWithin (base bits w : ℕ) : Type 0 where
  pub low : base ≤ w
  pub high : w < base + 2 ^ bits

-- each word is an address of that range
pub record AreWithin (base bits : ℕ) (words : List ℕ) : Type 0 where
  pub each : (i w : ℕ) → slice_get words i ≡ Some w → IsWithin base bits w

-- a rising list cut at a number
pub record IsCut (words left right : List ℕ) (middle : ℕ) : Type 0 where
  pub whole : words ≡ left ++ right
  pub low : (i w : ℕ) → slice_get left i ≡ Some w → w < middle
  pub high : (i w : ℕ) → slice_get right i ≡ Some w → middle ≤ w
  pub low_rising : IsStrictlyIncreasing left
  pub high_rising : IsStrictlyIncreasing right

-- nodes of a decoded address, or none
abbrev pub MayDecode : Net → Option Decoded → Type 0
MayDecode net None = Unit {0}
MayDecode net (Some d) = Stands net d.hit 1 × Stands net d.word 16

abbrev pub hit_of : At → Option Decoded → ℕ
hit_of x None = 0
hit_of x (Some d) = x.node d.hit.0

abbrev pub word_of : At → Option Decoded → ℕ
word_of x None = 0
word_of x (Some d) = x.node d.word.0

-- the low bits of the address are those of an entry, and its number counted from first
pub record IsAmong (net : Net) (d : Option Decoded) (address : Id) (words : List ℕ) (first base bits : ℕ) : Type 0 where
  pub some : 0 < length words → IsSome d
  pub stands : MayDecode net d
  pub hit : (x : At) → Settles net x → hit_of x d ≡ bit_of (list_any (λ w. x.node address.0 % 2 ^ bits == w - base) words)
  pub word : (x : At) → Settles net x → (i w : ℕ) → slice_get words i ≡ Some w → x.node address.0 % 2 ^ bits ≡ w - base → word_of x d ≡ first + i

-- one of two by a bit
pub record IsJoined (net : Net) (d : Decoded) (bit : Id) (low high : Option Decoded) : Type 0 where
  pub stands : Stands net d.hit 1 × Stands net d.word 16
  pub hit : (x : At) → Settles net x → x.node d.hit.0 ≡ (if x.node bit.0 == 1 then hit_of x high else hit_of x low)
  pub low_word : (x : At) → Settles net x → x.node bit.0 ≡ 0 → IsSome low → x.node d.word.0 ≡ word_of x low
  pub high_word : (x : At) → Settles net x → x.node bit.0 ≡ 1 → IsSome high → x.node d.word.0 ≡ word_of x high

-- where bits of the address are a number
pub record IsNarrowed (net : Net) (d inner : Option Decoded) (address : Id) (hi lo value : ℕ) : Type 0 where
  pub some : IsSome inner → IsSome d
  pub stands : MayDecode net d
  pub hit : (x : At) → Settles net x → hit_of x d ≡ (if part (x.node address.0) hi lo == value then hit_of x inner else 0)
  pub word : (x : At) → Settles net x → word_of x d ≡ word_of x inner
