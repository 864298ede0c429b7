-- The bus at a vector.
use Rattle.std.specs.Prelude.{◌≡◌, ◌<◌, ℕ, ◌&&◌, if◌then◌else◌, length}
use Rattle.v_design.specs.Expr.{bit_of}
use Rattle.rb_model.specs.declared.block.Block.{Block}
use Rattle.rb_model.specs.Kept.{Map, has_wait}
use Rattle.rb_model.specs.Protocol as protocol
use Rattle.rb_model.specs.Items as items
use Rattle.rb_model.specs.Run as run
use Rattle.rb_machine.specs.declared.bus.Bus.{Bus}
use Rattle.rb_machine.specs.declared.bus.Access.{Access}
use Rattle.rb_machine.specs.declared.bus.Access.TheVariants as access
use Rattle.rb_machine.specs.declared.bus.Transfer.{Transfer}
use Rattle.rb_machine.specs.declared.bus.BusOuts.{BusOuts}
use Rattle.rb_machine.specs.declared.scene.Held.{Held}

abbrev pub bus_seen : Bus → protocol.Bus
bus_seen p = record { resetn = p.resetn; address = p.address; select = p.select; enable = p.enable; write = p.write; data_in = p.data_in }

abbrev pub access_seen : Access → items.Access
access_seen access.Off = items.NoAccess
access_seen (access.Read i) = items.Read i
access_seen (access.Write i d) = items.Write i d

-- the word of an access is there
abbrev pub IsThere : Block → Access → Type 0
IsThere b access.Off = Unit {0}
IsThere b (access.Read i) = i < length b.reads
IsThere b (access.Write i d) = i < length b.writes

-- what a block makes of the bus, where it holds the map m
pub record IsTransfer (b : Block) (p : protocol.Bus) (m : Map) (t : Transfer) : Type 0 where
  pub there : IsThere b t.access
  pub access : access_seen t.access ≡ (if run.carries b p m then run.carried b p else items.NoAccess)
  pub carries : t.carries ≡ run.carries b p m
  pub closes : t.closes ≡ run.closes b p m
  pub unmapped : t.unmapped ≡ run.is_unmapped b p

-- what the bus shows, where the access is answered this
abbrev pub outs_shown : Block → Transfer → Held → (answer : ℕ) → BusOuts
outs_shown b t h answer = record {
  ready = if has_wait b then bit_of t.closes else 1;
  «data» = if has_wait b then (if t.closes then h.«data» else 0) else answer;
  error = if has_wait b then (if t.closes then bit_of h.error else 0) else bit_of (t.carries && t.unmapped);
}
