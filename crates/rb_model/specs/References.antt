-- Which items an item is made of, and how wide items are.
use Rattle.std.specs.Prelude.{◌≡◌, ℕ, ◌<◌, ◌≤◌, ◌==◌, Bool, true, ◌&&◌, if◌then◌else◌, Option, Some, None, List, [], ◌∷◌, ◌++◌, slice_get, Contains}
use Rattle.std.specs.List.{enumerate_from, flat_map}
use Rattle.std.specs.Option.{option_map_or}
use Rattle.rb_model.specs.declared.kinds.RefItem.{RefItem}
use Rattle.rb_model.specs.declared.kinds.RefItem.TheVariants as item
use Rattle.rb_model.specs.declared.kinds.Class.{Class}
use Rattle.rb_model.specs.declared.kinds.Class.TheVariants.{Storage, Wire, Constant}
use Rattle.rb_model.specs.declared.kinds.Feed.{Feed}
use Rattle.rb_model.specs.declared.kinds.Feed.TheVariants as feed
use Rattle.rb_model.specs.declared.kinds.Gate.{Gate}
use Rattle.rb_model.specs.declared.kinds.Gate.TheVariants as gate
use Rattle.rb_model.specs.declared.kinds.Mask.{Mask}
use Rattle.rb_model.specs.declared.kinds.Mask.TheVariants as mask
use Rattle.rb_model.specs.declared.kinds.Amount.{Amount}
use Rattle.rb_model.specs.declared.kinds.Amount.TheVariants as amount
use Rattle.rb_model.specs.declared.kinds.Level.{Level}
use Rattle.rb_model.specs.declared.kinds.Level.TheVariants as level
use Rattle.rb_model.specs.declared.kinds.Part.{Part}
use Rattle.rb_model.specs.declared.kinds.Count.{Count}
use Rattle.rb_model.specs.declared.block.Block.{Block}
use Rattle.rb_model.specs.declared.block.Field.{Field}
use Rattle.rb_model.specs.Kept.{of_field}
use Rattle.rb_model.specs.Items.{items, is_interrupt, is_on}

-- P holds of each
abbrev pub Each : {X : Type 0} → (X → Type 0) → List X → Type 0
Each P [] = Unit {0}
Each P (x ∷ xs) = P x × Each P xs

-- P holds of the one there is
abbrev pub WithSome : {X : Type 0} → Option X → (X → Type 0) → Type 0
WithSome None P = Unit {0}
WithSome (Some x) P = P x

-- What an item is made of

abbrev pub feed_refs : Feed → List RefItem
feed_refs feed.Off = []
feed_refs feed.Pin = []
feed_refs (feed.Item i) = i ∷ []

abbrev pub gate_refs : Gate → List RefItem
gate_refs gate.Always = []
gate_refs (gate.High from) = feed_refs from
gate_refs (gate.Low from) = feed_refs from

abbrev pub mask_refs : Mask → List RefItem
mask_refs mask.Off = []
mask_refs (mask.Enable i) = i ∷ []
mask_refs (mask.Mask i) = i ∷ []

abbrev pub level_refs : Level → List RefItem
level_refs (level.Number x) = []
level_refs (level.Item i) = i ∷ []

abbrev pub amount_refs : Amount → List RefItem
amount_refs (amount.Number x) = []
amount_refs (amount.Item i) = i ∷ []
amount_refs (amount.Pin w) = []

abbrev pub part_refs : Option Part → List RefItem
part_refs None = []
part_refs (Some p) = feed_refs p.pulse ++ amount_refs p.amount

abbrev pub count_refs : Option Count → List RefItem
count_refs None = []
count_refs (Some c) = part_refs c.up ++ part_refs c.down

abbrev pub class_refs : Class → Feed → List RefItem
class_refs Storage source = []
class_refs Wire source = feed_refs source
class_refs Constant source = []

abbrev pub raise_refs : ℕ → Bool → Mask → ℕ × Field → List RefItem
raise_refs r counts m f = if counts && is_interrupt f.1.latch && f.1.reg == r then item.Field f.0 ∷ mask_refs m else []

-- the items that an item refers to
abbrev pub refs : Block → RefItem → List RefItem
refs b (item.Field k) = of_field b k [] (λ f. class_refs f.class f.source)
refs b (item.Signal s) = []
refs b (item.Anded k) = item.Field k ∷ []
refs b (item.Ored k) = item.Field k ∷ []
refs b (item.Xored k) = item.Field k ∷ []
refs b (item.IncrThreshold k) = item.Field k ∷ of_field b k [] (λ f. option_map_or (λ c. level_refs c.above) f.count [])
refs b (item.DecrThreshold k) = item.Field k ∷ of_field b k [] (λ f. option_map_or (λ c. level_refs c.below) f.count [])
refs b (item.Overflow k) = of_field b k [] (λ f. count_refs f.count)
refs b (item.Underflow k) = of_field b k [] (λ f. count_refs f.count)
refs b (item.SwMod k) = []
refs b (item.SwAcc k) = []
refs b (item.Intr r) = flat_map (λ f. raise_refs r true f.1.enable f) (enumerate_from 0 b.fields)
refs b (item.Halt r) = flat_map (λ f. raise_refs r (is_on f.1.halt) f.1.halt f) (enumerate_from 0 b.fields)

-- j stands before place k
abbrev pub StandsBefore : List RefItem → ℕ → RefItem → Type 0
StandsBefore is k j = (h : ℕ) × (h < k) × (slice_get is h ≡ Some j)

-- each item stands after those that it refers to
abbrev pub IsOrdered : Block → List RefItem → Type 0
IsOrdered b is = (k : ℕ) (i : RefItem) → slice_get is k ≡ Some i → Each (StandsBefore is k) (refs b i)

-- Widths of references

abbrev pub item_width : Block → RefItem → ℕ
item_width b (item.Field k) = of_field b k 0 (λ f. f.width)
item_width b (item.Signal s) = option_map_or (λ g. g.width) (slice_get b.signals s) 0
item_width b (item.Anded k) = 1
item_width b (item.Ored k) = 1
item_width b (item.Xored k) = 1
item_width b (item.IncrThreshold k) = 1
item_width b (item.DecrThreshold k) = 1
item_width b (item.Overflow k) = 1
item_width b (item.Underflow k) = 1
item_width b (item.SwMod k) = 1
item_width b (item.SwAcc k) = 1
item_width b (item.Intr r) = 1
item_width b (item.Halt r) = 1

-- the items are the block's, each w wide, or at most w wide
abbrev pub AreWide : Block → ℕ → List RefItem → Type 0
AreWide b w is = Each (λ i. Contains (items b) i × (item_width b i ≡ w)) is

abbrev pub AreWithin : Block → ℕ → List RefItem → Type 0
AreWithin b w is = Each (λ i. Contains (items b) i × (item_width b i ≤ w)) is
