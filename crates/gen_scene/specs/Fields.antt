-- What hardware refers to in a field.
use Rattle.std.specs.Prelude.{◌≡◌, ℕ, ◌<◌, ◌≤◌, ◌^◌, Bool, true, Option, Some, None, List, [], ◌∷◌, ◌++◌, Contains, option_and_then, slice_get}
use Rattle.std.specs.Option.{option_map}
use Rattle.rtl_net.specs.Net.{Net}
use Rattle.rtl_net.specs.declared.node.Id.{Id}
use Rattle.rb_model.specs.declared.kinds.RefItem.{RefItem}
use Rattle.rb_model.specs.declared.kinds.RefItem.TheVariants as item
use Rattle.rb_model.specs.declared.kinds.Feed.{Feed}
use Rattle.rb_model.specs.declared.kinds.Feed.TheVariants as feed
use Rattle.rb_model.specs.declared.kinds.Gate.{Gate}
use Rattle.rb_model.specs.declared.kinds.Gate.TheVariants as gate
use Rattle.rb_model.specs.declared.kinds.Mask.{Mask}
use Rattle.rb_model.specs.declared.kinds.Mask.TheVariants as mask
use Rattle.rb_model.specs.declared.kinds.Amount.{Amount}
use Rattle.rb_model.specs.declared.kinds.Amount.TheVariants as amount
use Rattle.rb_model.specs.declared.kinds.Level.{Level}
use Rattle.rb_model.specs.declared.kinds.Level.TheVariants as level
use Rattle.rb_model.specs.declared.kinds.Part.{Part}
use Rattle.rb_model.specs.declared.kinds.Count.{Count}
use Rattle.rb_model.specs.declared.block.Block.{Block}
use Rattle.rb_model.specs.declared.block.Field.{Field}
use Rattle.rb_model.specs.declared.block.View.{View}
use Rattle.rb_model.specs.Items.{ItemValues, level_value}
use Rattle.rb_model.specs.PinsHave.{FeedHas}
use Rattle.rb_model.specs.Ports.{Outlet, outlets, pin}
use Rattle.rb_model.specs.References.{AreWide, Each, feed_refs, gate_refs, mask_refs, level_refs, count_refs, item_width}
use Rattle.block_plan.specs.declared.plan.PartPlaces.{PartPlaces}
use Rattle.block_plan.specs.Pins.{IsDataPin}
use Rattle.block_plan.specs.Plan.{IsPlaceOf}
use Rattle.block_plan.specs.Table.{item_place}
use Rattle.block_plan.specs.Needs.{hardware_refs}
use Rattle.gen_scene.specs.declared.scene.Scene.{Scene}
use Rattle.gen_scene.specs.Bases.{IsBase}
use Rattle.gen_scene.specs.Items.{IsItem}

-- the level above which a counter doesn't count, and the one below which it doesn't, where there are such
abbrev pub high_value : ItemValues → Field → Option ℕ
high_value v f = option_and_then (λ c. option_map (level_value v) c.high) f.count

abbrev pub low_value : ItemValues → Field → Option ℕ
low_value v f = option_and_then (λ c. option_map (level_value v) c.low) f.count

-- the table has the nodes of these items
abbrev pub HasNodes : Net → Scene → List RefItem → Type 0
HasNodes net s is = Each (IsItem s.base.now.block.now s.base.now.inlet net s.items.now) is

-- a netlist has the nodes of what hardware's steps on field k refer to
pub record HasField (net : Net) (s : Scene) (k : ℕ) (f : Field) : Type 0 where
  pub base : IsBase net s.base.now
  pub here : slice_get s.base.now.block.now.fields k ≡ Some f
  pub refs : HasNodes net s (hardware_refs f)

-- and of the gate of view k
pub record HasView (net : Net) (s : Scene) (k : ℕ) (u : View) : Type 0 where
  pub base : IsBase net s.base.now
  pub here : slice_get s.base.now.block.now.views k ≡ Some u
  pub refs : HasNodes net s (gate_refs u.gate)

-- The nodes of feeds, gates and masks, as they are looked up

abbrev pub item_node : Scene → RefItem → Option Id
item_node s i = slice_get s.items.now (item_place i)

abbrev pub fed_node : Scene → Feed → (place : ℕ) → Option Id
fed_node s feed.Off place = None
fed_node s feed.Pin place = slice_get s.base.now.pins.now place
fed_node s (feed.Item i) place = item_node s i

abbrev pub gated_node : Scene → Gate → (place : ℕ) → Option Id
gated_node s gate.Always place = None
gated_node s (gate.High from) place = fed_node s from place
gated_node s (gate.Low from) place = fed_node s from place

abbrev pub mask_node : Scene → Mask → Option Id
mask_node s mask.Off = None
mask_node s (mask.Enable i) = item_node s i
mask_node s (mask.Mask i) = item_node s i

-- A feed of this width: its pin, which has this name, stands at a place, and its item has its node.
pub record CanFeed (net : Net) (s : Scene) (from : Feed) (name : List ℕ) (w place : ℕ) : Type 0 where
  pub base : IsBase net s.base.now
  pub refs : HasNodes net s (feed_refs from)
  pub wide : AreWide s.base.now.block.now w (feed_refs from)
  pub pin : FeedHas (IsDataPin s.base.now.block.now) from name w
  pub at : IsPlaceOf s.base.now.block.now name place

-- an amount for counters of this width
abbrev pub CanAmount : Net → Scene → Amount → (name : List ℕ) → (w place : ℕ) → Type 0
CanAmount net s (amount.Number x) name w place = x < 2 ^ w
CanAmount net s (amount.Item i) name w place = HasNodes net s (i ∷ []) × (item_width s.base.now.block.now i ≤ w)
CanAmount net s (amount.Pin n) name w place = IsDataPin s.base.now.block.now (pin name n) × IsPlaceOf s.base.now.block.now name place × (n ≤ w)

-- a direction of such a counter
abbrev pub CanStep : Net → Scene → Option Part → (pulse value : List ℕ) → ℕ → PartPlaces → Type 0
CanStep net s None pulse value w places = Unit {0}
CanStep net s (Some p) pulse value w places = CanFeed net s p.pulse pulse 1 places.pulse × CanAmount net s p.amount value w places.amount

-- a level of such a counter
abbrev pub CanLevel : Net → Scene → ℕ → Level → Type 0
CanLevel net s w (level.Number x) = x < 2 ^ w
CanLevel net s w (level.Item i) = HasNodes net s (i ∷ []) × (item_width s.base.now.block.now i ≤ w)
