-- Registers driven and outputs shown by what an edge makes of a block.
use Rattle.std.specs.Prelude.{◌≡◌, ℕ, Some, List, [], ◌∷◌, Contains, slice_get}
use Rattle.rb_base.specs.declared.ports.Pin.{Pin}
use Rattle.rtl_net.specs.Value.{At}
use Rattle.rtl_net.specs.Net.{Net, Settles, Awaits}
use Rattle.rtl_net.specs.Ids.{at}
use Rattle.rtl_net.specs.Ports.{seated}
use Rattle.rtl_net.specs.declared.node.Id.{Id}
use Rattle.rtl_net.specs.declared.node.Seat.{Seat}
use Rattle.rtl_net.specs.declared.node.Occupant.TheVariants.{Output}
use Rattle.rb_model.specs.declared.block.Block.{Block}
use Rattle.rb_model.specs.Kept.{Kept, register_name, register_width, field_kept}
use Rattle.rb_model.specs.Ports.{Outlet, outlets}
use Rattle.rb_model.specs.Items.{Now, ItemValues, AreItemValues}
use Rattle.rb_model.specs.Machine.{next}
use Rattle.block_plan.specs.declared.plan.Plan.{Plan}
use Rattle.gen_scene.specs.declared.base.Inlet.{Inlet}
use Rattle.gen_scene.specs.Bases.{reset_of}
use Rattle.gen_scene.specs.Worth.{Finds}

-- the registers of what the fields keep are still to be driven
pub record AreAwaiting (b : Block) (p : Plan) (pins : List Id) (net : Net) (kept : List Id) : Type 0 where
  pub each : (j : ℕ) (k : Kept) → slice_get (field_kept b) j ≡ Some k → Awaits net (at kept j) (register_name b k) (register_width b k) (reset_of b p pins k)

-- after each edge the registers contain what the fields keep next
pub record MovesOn (b : Block) (a : Inlet) (net : Net) : Type 0 where
  pub moved : (v : At) → Settles net v → (n : Now) → Finds b a v n → (items : ItemValues) → AreItemValues b n items → (k : Kept) → Contains (field_kept b) k → v.after (register_name b k) ≡ next b n items k

abbrev pub outlet_pin : Outlet → Pin
outlet_pin o = record { name = o.name; width = o.width }

-- the seats where outputs of these pins are added in turn
abbrev pub SeatsTaken : (old new : List Seat) → List Pin → Type 0
SeatsTaken old new [] = new ≡ old
SeatsTaken old new (p ∷ ps) = (id : Id) × SeatsTaken (seated old p.name p.width (Output id)) new ps

-- at each edge the outputs behind those of the bus show their items
pub record Shows (b : Block) (a : Inlet) (net : Net) : Type 0 where
  pub shown : (v : At) → Settles net v → (n : Now) → Finds b a v n → (items : ItemValues) → AreItemValues b n items → (o : Outlet) → Contains (outlets b) o → v.outs o.name ≡ items o.item
