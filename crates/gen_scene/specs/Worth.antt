-- What the nodes of a netlist are worth to a block.
use Rattle.std.specs.Prelude.{◌≡◌, ℕ, ◌==◌, false, if◌then◌else◌, Option, Contains}
use Rattle.rb_base.specs.declared.ports.Pin.{Pin}
use Rattle.rtl_net.specs.Value.{At}
use Rattle.rtl_net.specs.Net.{Net, Settles, Stands, MayHave, seen, seen_or_zero}
use Rattle.rtl_net.specs.declared.node.Id.{Id}
use Rattle.rb_model.specs.declared.block.Block.{Block}
use Rattle.rb_model.specs.Kept.{Kept, register_name, field_kept}
use Rattle.rb_model.specs.Ports.{input_pins}
use Rattle.rb_model.specs.Items.{Access, NoAccess, Read, Write, Now, ItemValues, AreItemValues}
use Rattle.rb_model.specs.Machine.{held}
use Rattle.block_plan.specs.Behind.{IsThere}
use Rattle.block_plan.specs.Pins.{is_access_pin}
use Rattle.gen_scene.specs.declared.base.Inlet.{Inlet}

-- the access that the nodes say
abbrev pub access_at : Inlet → At → Access
access_at a v = if v.node a.valid.0 == 0 then NoAccess else (if v.node a.write.0 == 0 then Read (v.node a.word.0) else Write (v.node a.word.0) (v.node a.bits.0))

-- At the netlist's edge v the block finds n: the access that the nodes say, of a word that is there; the input pins but for
-- those of a bus's access; and what its fields keep, once asynchronous resets have acted.
pub record Finds (b : Block) (a : Inlet) (v : At) (n : Now) : Type 0 where
  pub access : n.access ≡ access_at a v
  pub there : IsThere b n.access
  pub pins : (p : Pin) → Contains (input_pins b) p → is_access_pin p.name ≡ false → n.pins p.name ≡ v.ins p.name
  pub kept : (k : Kept) → Contains (field_kept b) k → n.kept k ≡ held b n.pins (λ j. v.kept (register_name b j)) k

-- what is read at each edge is g of what the block finds there
pub record IsRead {X : Type 0} (b : Block) (a : Inlet) (net : Net) (r : At → X) (g : Now → ItemValues → X) : Type 0 where
  pub value : (v : At) → Settles net v → (n : Now) → Finds b a v n → (items : ItemValues) → AreItemValues b n items → r v ≡ g n items

-- a node of this width that is worth g of what the block finds
pub record IsWorth (b : Block) (a : Inlet) (net : Net) (id : Id) (w : ℕ) (g : Now → ItemValues → ℕ) : Type 0 where
  pub stands : Stands net id w
  pub value : (v : At) → Settles net v → (n : Now) → Finds b a v n → (items : ItemValues) → AreItemValues b n items → v.node id.0 ≡ g n items

-- a node of this width that may be absent and is worth g, which is 0 where it is absent
pub record MayBeWorth (b : Block) (a : Inlet) (net : Net) (id : Option Id) (w : ℕ) (g : Now → ItemValues → ℕ) : Type 0 where
  pub may : MayHave net id w
  pub read : IsRead b a net (λ v. seen_or_zero v id) g

-- a node of this width that is there exactly where g is, and is worth that
pub record IsSeenAs (b : Block) (a : Inlet) (net : Net) (id : Option Id) (w : ℕ) (g : Now → ItemValues → Option ℕ) : Type 0 where
  pub may : MayHave net id w
  pub read : IsRead b a net (λ v. seen v id) g
