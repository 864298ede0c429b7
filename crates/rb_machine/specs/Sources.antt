-- Where the values of items come from.
use Rattle.std.specs.Prelude.{◌≡◌, ℕ, true, false, Some, List, ◌++◌, codes, slice_get}
use Rattle.std.specs.Option.{option_map_or}
use Rattle.rb_model.specs.declared.kinds.Class.TheVariants.{Wire}
use Rattle.rb_model.specs.declared.kinds.Feed.TheVariants as feed
use Rattle.rb_model.specs.declared.kinds.RefItem.{RefItem}
use Rattle.rb_model.specs.declared.kinds.RefItem.TheVariants as item
use Rattle.rb_model.specs.declared.block.Block.{Block}
use Rattle.rb_model.specs.declared.block.Field.{Field}
use Rattle.rb_model.specs.Kept.{is_storage}
use Rattle.block_plan.specs.Plan.{IsPlaceOf}
use Rattle.rb_machine.specs.declared.sources.Source.{Source}
use Rattle.rb_machine.specs.declared.sources.Source.TheVariants as source

-- the item is a field that shows the pin at this place
pub record IsPinned (b : Block) (i : RefItem) (place : ℕ) : Type 0 where
  pub number : ℕ
  pub field : Field
  pub is : i ≡ item.Field number
  pub here : slice_get b.fields number ≡ Some field
  pub class : field.class ≡ Wire
  pub fed : field.source ≡ feed.Pin
  pub placed : IsPlaceOf b (codes "in$" ++ field.path) place

-- the item is a field that keeps its value
pub record IsHeld (b : Block) (i : RefItem) (number : ℕ) : Type 0 where
  pub is : i ≡ item.Field number
  pub stores : option_map_or (λ f. is_storage f.class) (slice_get b.fields number) false ≡ true

-- the value of the item comes from there
abbrev pub IsSourceOf : Block → RefItem → Source → Type 0
IsSourceOf b i source.Made = Unit {0}
IsSourceOf b i (source.Held number) = IsHeld b i number
IsSourceOf b i (source.Pin place) = IsPinned b i place

-- so for all items of a list
abbrev pub AreSources : Block → List RefItem → List Source → Type 0
AreSources b order sources = (k : ℕ) (i : RefItem) (s : Source) → slice_get order k ≡ Some i → slice_get sources k ≡ Some s → IsSourceOf b i s
