-- The bus's pins and kept values at an edge, and nodes of them (IHI 0024B), with no or one wait state.
use Rattle.std.specs.Prelude.{◌≡◌, ℕ, ◌==◌, true, if◌then◌else◌, List, codes}
use Rattle.rtl_net.specs.Value.{At}
use Rattle.rtl_net.specs.Net.{Net, Settles, Stands}
use Rattle.rtl_net.specs.declared.node.Id.{Id}
use Rattle.rb_model.specs.declared.block.Block.{Block}
use Rattle.rb_model.specs.Kept.{Map, Waited, Data, Error, has_wait}
use Rattle.rb_model.specs.Protocol.{Bus, bus_of}

-- what a register that PRESETn clears contains
abbrev pub cleared : List ℕ → At → ℕ
cleared name v = if v.ins (codes "PRESETn") == 0 then 0 else v.kept name

-- At the netlist's edge v the bus finds m kept: what its registers contain. Nothing is selected under PRESETn.
pub record Meets (b : Block) (v : At) (m : Map) : Type 0 where
  pub quiet : v.ins (codes "PRESETn") ≡ 0 → v.ins (codes "PSEL") ≡ 0
  pub waited : has_wait b ≡ true → m Waited ≡ cleared (codes "apb$wait") v
  pub answered : has_wait b ≡ true → m Data ≡ cleared (codes "apb$data") v
  pub error : has_wait b ≡ true → m Error ≡ cleared (codes "apb$error") v

-- a node of this width that is worth g of the bus's pins and of what it finds kept
pub record IsOfBus (b : Block) (net : Net) (id : Id) (w : ℕ) (g : Bus → Map → ℕ) : Type 0 where
  pub stands : Stands net id w
  pub value : (v : At) → Settles net v → (m : Map) → Meets b v m → v.node id.0 ≡ g (bus_of v.ins) m
