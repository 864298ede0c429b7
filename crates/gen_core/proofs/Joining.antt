-- A block's nodes as those of its parts.
use Rattle.std.proofs.Common.{◌≡◌, Bool, List, length, refl, sym, subst}
use Rattle.std.proofs.lemmas.Option.{slice_get_read}
use Rattle.std.specs.Prelude.{Contains}
use Rattle.rtl_net.specs.Net.{Net, Extends, Grows}
use Rattle.rtl_net.specs.declared.node.Id.{Id}
use Rattle.rtl_net.proofs.Nets.{Extends-grows}
use Rattle.rb_model.specs.declared.block.Block.{Block}
use Rattle.rb_model.specs.References.{Each}
use Rattle.rb_model.proofs.Eachs.{Each-at}
use Rattle.gen_scene.specs.declared.base.Base.{Base}
use Rattle.gen_scene.specs.declared.base.Inlet.{Inlet}
use Rattle.gen_scene.specs.declared.scene.Scene.{Scene}
use Rattle.gen_scene.specs.Bases.{IsBase}
use Rattle.block_plan.specs.Wanted.{IsAllWanted}
use Rattle.gen_scene.specs.Items.{HasItems}
use Rattle.gen_scene.proofs.Wanting.{field_nodes, outlet_node, value_node, view_nodes}
use Rattle.gen_scene.proofs.Worths.{IsItem-extends}
use Rattle.gen_clock.specs.Edges.{IsScene}
use Rattle.gen_core.specs.Parts.{HasShown, IsSceneOf}

whole : (net : Net) (s : Scene) (wanted : List Bool) → IsBase net s.base.now → HasItems s.base.now.block.now s.base.now.inlet net wanted s.items.now → IsAllWanted s.base.now.block.now wanted → IsScene net s
whole net s wanted base has all = record {
  base = base;
  values = λ k f e. value_node net s wanted k f base has all e;
  fields = record { base = base; each = λ k f e. field_nodes net s wanted k f base has all e };
  views = record { base = base; each = λ k u e. view_nodes net s wanted k u base has all e };
}

pub scene_of : (net : Net) (base : Base) (wanted : List Bool) (table : List Id) → IsBase net base → HasItems base.block.now base.inlet net wanted table → IsAllWanted base.block.now wanted → IsSceneOf net base table
scene_of net base wanted table h has all = record {
  is = λ s at_base at_items. whole net s wanted (on_base s at_base) (items_in s at_base at_items) (wants s at_base);
  shown = λ s at_base at_items.
      subst (λ t. HasShown base.block.now base.inlet net t) at_items
      (subst (λ (x : Base). HasShown x.block.now x.inlet net s.items.now) at_base
      (record { each = λ o c. outlet_node net s wanted o (on_base s at_base) (items_in s at_base at_items) (wants s at_base) c }));
}
  where
    on_base : (s : Scene) → s.base.now ≡ base → IsBase net s.base.now
    on_base s e = subst (IsBase net) (sym e) h

    items_in : (s : Scene) → s.base.now ≡ base → s.items.now ≡ table → HasItems s.base.now.block.now s.base.now.inlet net wanted s.items.now
    items_in s e f = subst (λ t. HasItems s.base.now.block.now s.base.now.inlet net wanted t) (sym f) (subst (λ (x : Base). HasItems x.block.now x.inlet net wanted table) (sym e) has)

    wants : (s : Scene) → s.base.now ≡ base → IsAllWanted s.base.now.block.now wanted
    wants s e = subst (λ (x : Base). IsAllWanted x.block.now wanted) (sym e) all

-- what holds of each element holds of one of them
pub contained : {X : Type 0} (P : X → Type 0) (xs : List X) (x : X) → Each P xs → Contains xs x → P x
contained P xs x h c = let (j, low, is) = c in Each-at P xs j x h (slice_get_read xs (length xs) j x refl low (sym is))

pub HasShown-extends : (b : Block) (a : Inlet) (old new : Net) (table : List Id) → Extends old new → HasShown b a old table → HasShown b a new table
HasShown-extends b a old new table h k = record { each = λ o c. IsItem-extends b a old new table o.item h (k.each o c) }

pub HasShown-grows : (b : Block) (a : Inlet) (old new : Net) (table : List Id) → Grows old new → HasShown b a old table → HasShown b a new table
HasShown-grows b a old new table h = HasShown-extends b a old new table (Extends-grows old new h)
