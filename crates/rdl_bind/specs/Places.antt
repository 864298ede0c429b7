-- The items of a node, put behind others.
use Rattle.std.specs.Prelude.{◌≡◌, ℕ, List, ◌++◌, map}
use Rattle.rb_base.specs.declared.place.Place.{Place}
use Rattle.rdl_refs.specs.declared.item.ItemOf.{ItemOf}
use Rattle.rdl_refs.specs.declared.item.What.{What}
use Rattle.rdl_refs.specs.declared.item.What.TheVariants as what

-- how many items of its node stand before an item
abbrev pub before : What → ℕ
before what.Value = 0
before what.Anded = 1
before what.Ored = 2
before what.Xored = 3
before what.IncrThreshold = 4
before what.DecrThreshold = 5
before what.Overflow = 6
before what.Underflow = 7
before what.SwMod = 8
before what.SwAcc = 9
before what.Intr = 0
before what.Halt = 1

-- These items of a node are put behind others, and for each the node's place.
pub record Adds (k : ℕ) (ws : List What) (p : Place) (is js : List ItemOf) (ps qs : List Place) : Type 0 where
  pub items_ : js ≡ is ++ map (λ w. record { node = k; what = w }) ws
  pub places_ : qs ≡ ps ++ map (λ w. p) ws
