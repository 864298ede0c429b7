-- Where the wanted items have their nodes, so have those that a field or a view refers to.
use Rattle.std.proofs.Common.{◌≡◌, ℕ, Bool, true, Some, List, length, slice_get, refl, sym}
use Rattle.std.specs.Prelude.{Contains}
use Rattle.std.proofs.lemmas.Option.{slice_get_read}
use Rattle.rtl_net.specs.Net.{Net}
use Rattle.rb_model.specs.declared.kinds.RefItem.TheVariants as item
use Rattle.rb_model.specs.declared.block.Block.{Block}
use Rattle.rb_model.specs.declared.block.Field.{Field}
use Rattle.rb_model.specs.declared.block.View.{View}
use Rattle.rb_model.specs.Items.{items}
use Rattle.rb_model.specs.Ports.{Outlet, outlets}
use Rattle.rb_model.specs.References.{gate_refs}
use Rattle.rb_model.specs.Sound.{IsSound}
use Rattle.rb_model.proofs.Eachs.{Each-at, Each-both}
use Rattle.gen_scene.specs.declared.scene.Scene.{Scene}
use Rattle.gen_scene.specs.Bases.{IsBase}
use Rattle.gen_scene.specs.Fields.{HasField, HasView}
use Rattle.gen_scene.specs.Items.{HasItems, IsItem}
use Rattle.block_plan.specs.Needs.{hardware_refs}
use Rattle.block_plan.specs.Wanted.{IsAllWanted, is_wanted}
use Rattle.block_plan.proofs.Among.{outlets_among, value_among}
use Rattle.block_plan.proofs.Wanting.{field_sound, hardware_own, view_own}

pub field_nodes : (net : Net) (s : Scene) (wanted : List Bool) (k : ℕ) (f : Field) → IsBase net s.base.now → HasItems s.base.now.block.now s.base.now.inlet net wanted s.items.now → IsAllWanted s.base.now.block.now wanted → slice_get s.base.now.block.now.fields k ≡ Some f → HasField net s k f
field_nodes net s wanted k f base has all here = record {
  base = base;
  here = here;
  refs = Each-both (λ i. Contains (items s.base.now.block.now) i) (λ i. is_wanted wanted i ≡ true) (IsItem s.base.now.block.now s.base.now.inlet net s.items.now) (λ i c w. has.each i c w) (hardware_refs f)
      (hardware_own s.base.now.block.now f (field_sound s.base.now.block.now base.sound k f here).refers) (all.fields k f here);
}

pub view_nodes : (net : Net) (s : Scene) (wanted : List Bool) (k : ℕ) (u : View) → IsBase net s.base.now → HasItems s.base.now.block.now s.base.now.inlet net wanted s.items.now → IsAllWanted s.base.now.block.now wanted → slice_get s.base.now.block.now.views k ≡ Some u → HasView net s k u
view_nodes net s wanted k u base has all here = record {
  base = base;
  here = here;
  refs = Each-both (λ i. Contains (items s.base.now.block.now) i) (λ i. is_wanted wanted i ≡ true) (IsItem s.base.now.block.now s.base.now.inlet net s.items.now) (λ i c w. has.each i c w) (gate_refs u.gate) (view_own s.base.now.block.now base.sound k u here) (all.views k u here);
}

-- and each field has its value's node
pub value_node : (net : Net) (s : Scene) (wanted : List Bool) (k : ℕ) (f : Field) → IsBase net s.base.now → HasItems s.base.now.block.now s.base.now.inlet net wanted s.items.now → IsAllWanted s.base.now.block.now wanted → slice_get s.base.now.block.now.fields k ≡ Some f
    → IsItem s.base.now.block.now s.base.now.inlet net s.items.now (item.Field k)
value_node net s wanted k f base has all here = has.each (item.Field k) (value_among s.base.now.block.now k f here) (all.values k f here)

-- and so has what an output shows
pub outlet_node : (net : Net) (s : Scene) (wanted : List Bool) (o : Outlet) → IsBase net s.base.now → HasItems s.base.now.block.now s.base.now.inlet net wanted s.items.now → IsAllWanted s.base.now.block.now wanted → Contains (outlets s.base.now.block.now) o
    → IsItem s.base.now.block.now s.base.now.inlet net s.items.now o.item
outlet_node net s wanted o base has all c = has.each o.item (outlet_item s.base.now.block.now base.sound o c) (all.shown o c)
  where
    outlet_item : (b : Block) → IsSound b → (o : Outlet) → Contains (outlets b) o → Contains (items b) o.item
    outlet_item b sound o c = let (j, low, is) = c in Each-at (λ o. Contains (items b) o.item) (outlets b) j o (outlets_among b sound) (slice_get_read (outlets b) (length (outlets b)) j o refl low (sym is))
