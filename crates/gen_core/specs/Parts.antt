-- The nodes of a block over its registers.
use Rattle.std.specs.Prelude.{◌≡◌, List, Contains}
use Rattle.rtl_net.specs.Net.{Net}
use Rattle.rtl_net.specs.declared.node.Id.{Id}
use Rattle.rb_model.specs.declared.block.Block.{Block}
use Rattle.rb_model.specs.Machine.{read_data}
use Rattle.rb_model.specs.Ports.{Outlet, outlets}
use Rattle.gen_scene.specs.declared.base.Base.{Base}
use Rattle.gen_scene.specs.declared.base.Inlet.{Inlet}
use Rattle.gen_scene.specs.declared.scene.Scene.{Scene}
use Rattle.gen_scene.specs.Items.{IsItem}
use Rattle.gen_scene.specs.Worth.{IsWorth}
use Rattle.gen_clock.specs.Edges.{AreNexts, IsScene}
use Rattle.gen_core.specs.declared.nodes.EdgeResults.{EdgeResults}
use Rattle.gen_core.specs.declared.nodes.Parts.{Parts}

-- the table has the nodes of the items that outputs show
pub record HasShown (b : Block) (a : Inlet) (net : Net) (items : List Id) : Type 0 where
  pub each : (o : Outlet) → Contains (outlets b) o → IsItem b a net items o.item

-- the base and the items' nodes make a scene
pub record IsSceneOf (net : Net) (base : Base) (items : List Id) : Type 0 where
  pub is : (s : Scene) → s.base.now ≡ base → s.items.now ≡ items → IsScene net s
  pub shown : (s : Scene) → s.base.now ≡ base → s.items.now ≡ items → HasShown base.block.now base.inlet net items

-- the nodes of what an edge takes
pub record HasTaken (b : Block) (a : Inlet) (net : Net) (t : EdgeResults) : Type 0 where
  pub answered : IsWorth b a net t.answer 32 (λ n v. read_data b v n.access)
  pub nexts : AreNexts b a net t.nexts.items

-- the nodes of a block
pub record HasParts (b : Block) (a : Inlet) (net : Net) (p : Parts) : Type 0 where
  pub shown : HasShown b a net p.items.items
  pub taken : HasTaken b a net p.taken
