-- A block's behaviour in a netlist.
use Rattle.std.specs.Prelude.{◌≡◌, Contains}
use Rattle.rtl_net.specs.Value.{At}
use Rattle.rtl_net.specs.Net.{Net, Settles}
use Rattle.rtl_net.specs.declared.node.Id.{Id}
use Rattle.rb_model.specs.declared.block.Block.{Block}
use Rattle.rb_model.specs.Kept.{Kept, register_name, field_kept}
use Rattle.rb_model.specs.Items.{Now, ItemValues, AreItemValues}
use Rattle.rb_model.specs.Machine.{next, read_data}
use Rattle.rb_model.specs.Ports.{Outlet, outlets}
use Rattle.gen_scene.specs.declared.base.Inlet.{Inlet}
use Rattle.gen_scene.specs.Worth.{Finds, IsWorth}

-- At each edge of the netlist, where the block finds what the netlist's nodes say, the outputs show the block's items, the answer
-- is the read data, and the registers of what the fields keep take what those keep next.
pub record IsCore (b : Block) (a : Inlet) (net : Net) (answer : Id) : Type 0 where
  pub shown : (v : At) → Settles net v → (n : Now) → Finds b a v n → (items : ItemValues) → AreItemValues b n items → (o : Outlet) → Contains (outlets b) o → v.outs o.name ≡ items o.item
  pub answered : IsWorth b a net answer 32 (λ n items. read_data b items n.access)
  pub moved : (v : At) → Settles net v → (n : Now) → Finds b a v n → (items : ItemValues) → AreItemValues b n items → (k : Kept) → Contains (field_kept b) k → v.after (register_name b k) ≡ next b n items k
