-- The nodes of a block's items.
use Rattle.std.specs.Prelude.{◌≡◌, ℕ, ◌<◌, Bool, true, false, Some, List, Contains, is_some, length, slice_get, slice_index_or}
use Rattle.rtl_net.specs.Net.{Net}
use Rattle.rtl_net.specs.Ids.{at}
use Rattle.rtl_net.specs.declared.node.Id.{Id}
use Rattle.rb_model.specs.declared.kinds.RefItem.{RefItem}
use Rattle.rb_model.specs.declared.kinds.RefItem.TheVariants as item
use Rattle.rb_model.specs.declared.block.Block.{Block}
use Rattle.rb_model.specs.declared.block.Field.{Field}
use Rattle.rb_model.specs.declared.block.Signal.{Signal}
use Rattle.rb_model.specs.Items.{items, made}
use Rattle.rb_model.specs.References.{item_width}
use Rattle.block_plan.specs.Table.{item_place}
use Rattle.block_plan.specs.Wanted.{is_wanted}
use Rattle.gen_scene.specs.declared.base.Inlet.{Inlet}
use Rattle.gen_scene.specs.declared.items.Marks.{Marks}
use Rattle.gen_scene.specs.Worth.{IsWorth}

-- the table has the item's node, which is worth the item's value
pub record IsItem (b : Block) (a : Inlet) (net : Net) (table : List Id) (i : RefItem) : Type 0 where
  pub within : item_place i < length table
  pub worth : IsWorth b a net (at table (item_place i)) (item_width b i) (λ n v. v i)

-- the table has the node of each item that is wanted
pub record HasItems (b : Block) (a : Inlet) (net : Net) (wanted : List Bool) (table : List Id) : Type 0 where
  pub each : (i : RefItem) → Contains (items b) i → is_wanted wanted i ≡ true → IsItem b a net table i

-- the marks of field k
abbrev pub mark_at : List Marks → ℕ → Marks
mark_at marks k = slice_index_or marks k (record { modified = record { 0 = 0 }; accessed = record { 0 = 0 } })

-- the marks of each field, where they are wanted: whether the access modifies it, and whether it reads or writes it
pub record AreMarks (b : Block) (a : Inlet) (net : Net) (wanted : List Bool) (marks : List Marks) : Type 0 where
  pub long : length marks ≡ length b.fields
  pub modified : (k : ℕ) (f : Field) → slice_get b.fields k ≡ Some f → is_wanted wanted (item.SwMod k) ≡ true → IsWorth b a net (mark_at marks k).modified 1 (λ n v. made b n v (item.SwMod k))
  pub accessed : (k : ℕ) (f : Field) → slice_get b.fields k ≡ Some f → is_wanted wanted (item.SwAcc k) ≡ true → IsWorth b a net (mark_at marks k).accessed 1 (λ n v. made b n v (item.SwAcc k))

-- the marks have an item that says what an access does to a field
abbrev pub IsMarked : Block → Inlet → Net → List Marks → RefItem → Type 0
IsMarked b a net marks (item.SwMod k) = (k < length marks) × IsWorth b a net (mark_at marks k).modified 1 (λ n v. made b n v (item.SwMod k))
IsMarked b a net marks (item.SwAcc k) = (k < length marks) × IsWorth b a net (mark_at marks k).accessed 1 (λ n v. made b n v (item.SwAcc k))
IsMarked b a net marks _ = Unit {0}

-- what an item says of the block that it is one of
abbrev pub IsOwn : Block → RefItem → Type 0
IsOwn b (item.Signal s) = (g : Signal) × (slice_get b.signals s ≡ Some g)
IsOwn b (item.Field k) = (f : Field) × (slice_get b.fields k ≡ Some f)
IsOwn b (item.Anded k) = (f : Field) × (slice_get b.fields k ≡ Some f)
IsOwn b (item.Ored k) = (f : Field) × (slice_get b.fields k ≡ Some f)
IsOwn b (item.Xored k) = (f : Field) × (slice_get b.fields k ≡ Some f)
IsOwn b (item.IncrThreshold k) = (f : Field) × (slice_get b.fields k ≡ Some f) × (is_some f.count ≡ true)
IsOwn b (item.DecrThreshold k) = (f : Field) × (slice_get b.fields k ≡ Some f) × (is_some f.count ≡ true)
IsOwn b (item.Overflow k) = (f : Field) × (slice_get b.fields k ≡ Some f) × (is_some f.count ≡ true)
IsOwn b (item.Underflow k) = (f : Field) × (slice_get b.fields k ≡ Some f) × (is_some f.count ≡ true)
IsOwn b (item.SwMod k) = (f : Field) × (slice_get b.fields k ≡ Some f)
IsOwn b (item.SwAcc k) = (f : Field) × (slice_get b.fields k ≡ Some f)
IsOwn b (item.Intr r) = Unit {0}
IsOwn b (item.Halt r) = Unit {0}
