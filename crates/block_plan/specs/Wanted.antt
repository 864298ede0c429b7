-- Which items are wanted.
use Rattle.std.specs.Prelude.{◌≡◌, ℕ, ◌<◌, Bool, true, false, Some, List, Contains, length, slice_get, slice_index_or}
use Rattle.rb_model.specs.declared.kinds.RefItem.{RefItem}
use Rattle.rb_model.specs.declared.kinds.RefItem.TheVariants as item
use Rattle.rb_model.specs.declared.block.Block.{Block}
use Rattle.rb_model.specs.declared.block.Field.{Field}
use Rattle.rb_model.specs.declared.block.View.{View}
use Rattle.rb_model.specs.Items.{items}
use Rattle.rb_model.specs.Ports.{Outlet, outlets}
use Rattle.rb_model.specs.References.{Each, IsOrdered, gate_refs, refs}
use Rattle.block_plan.specs.Table.{item_place}
use Rattle.block_plan.specs.Needs.{hardware_refs}

-- the item is wanted
abbrev pub is_wanted : List Bool → RefItem → Bool
is_wanted wanted i = slice_index_or wanted (item_place i) false

-- what was wanted still is
pub record IsMore (old new : List Bool) : Type 0 where
  pub long : length new ≡ length old
  pub more : (i : RefItem) → is_wanted old i ≡ true → is_wanted new i ≡ true

-- those of these items that have a place are wanted
abbrev pub AreIn : List Bool → List RefItem → Type 0
AreIn wanted is = Each (λ i. item_place i < length wanted → is_wanted wanted i ≡ true) is

-- so they are, and no others but what was wanted
pub record Adds (old new : List Bool) (is : List RefItem) : Type 0 where
  pub older : IsMore old new
  pub these : AreIn new is
  pub only : (i : RefItem) → is_wanted new i ≡ true → is_wanted old i ≡ false → Contains is i

-- what is wanted of an item's references
pub record IsClosed (b : Block) (wanted : List Bool) : Type 0 where
  pub each : (i : RefItem) → Contains (items b) i → is_wanted wanted i ≡ true → Each (λ j. is_wanted wanted j ≡ true) (refs b i)

-- what the behaviour of the whole block wants
pub record IsAllWanted (b : Block) (wanted : List Bool) : Type 0 where
  pub shown : (o : Outlet) → Contains (outlets b) o → is_wanted wanted o.item ≡ true
  pub values : (k : ℕ) (f : Field) → slice_get b.fields k ≡ Some f → is_wanted wanted (item.Field k) ≡ true
  pub fields : (k : ℕ) (f : Field) → slice_get b.fields k ≡ Some f → Each (λ i. is_wanted wanted i ≡ true) (hardware_refs f)
  pub views : (k : ℕ) (u : View) → slice_get b.views k ≡ Some u → Each (λ i. is_wanted wanted i ≡ true) (gate_refs u.gate)

-- these are the wanted items of a block, each behind those that it refers to
pub record AreInOrder (b : Block) (wanted : List Bool) (is : List RefItem) : Type 0 where
  pub own : (k : ℕ) (i : RefItem) → slice_get is k ≡ Some i → Contains (items b) i
  pub ordered : IsOrdered b is
  pub all : (i : RefItem) → Contains (items b) i → is_wanted wanted i ≡ true → Contains is i
