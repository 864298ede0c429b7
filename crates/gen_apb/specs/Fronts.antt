-- What an APB slave port shows, and what it keeps, for a block with no or one wait state.
use Rattle.std.specs.Prelude.{◌≡◌, ◌==◌, true, false, ◌&&◌, if◌then◌else◌, Option, Some, None, List, [], ◌∷◌, codes}
use Rattle.rb_base.specs.declared.ports.Pin.{Pin}
use Rattle.rtl_net.specs.Value.{At, bit_of}
use Rattle.rtl_net.specs.Net.{Net, Settles, Stands}
use Rattle.rtl_net.specs.declared.node.Id.{Id}
use Rattle.rb_model.specs.declared.block.Block.{Block}
use Rattle.rb_model.specs.Kept.{Map, Error, has_wait}
use Rattle.rb_model.specs.Protocol.{bus_of}
use Rattle.rb_model.specs.Run.{carries, closes, is_unmapped}
use Rattle.gen_apb.specs.declared.front.Front.{Front}
use Rattle.gen_apb.specs.Accesses.{SaysAccess}
use Rattle.gen_apb.specs.Bus.{IsOfBus, Meets, cleared}

-- the node that says that the second vector of an access closes it, which there is with a wait state alone
abbrev pub IsClosing : Block → Net → Option Id → Type 0
IsClosing b net None = has_wait b ≡ false
IsClosing b net (Some id) = (has_wait b ≡ true) × IsOfBus b net id 1 (λ p m. bit_of (closes b p m))

-- after each edge the registers of a wait state contain that the vector carried an access, and that this failed
pub record KeepsAccess (b : Block) (net : Net) : Type 0 where
  pub waited : (v : At) → Settles net v → (m : Map) → Meets b v m → v.after (codes "apb$wait") ≡ bit_of (carries b (bus_of v.ins) m)
  pub failed : (v : At) → Settles net v → (m : Map) → Meets b v m → v.after (codes "apb$error") ≡ bit_of (carries b (bus_of v.ins) m && is_unmapped b (bus_of v.ins))

-- what the access is, what PREADY and PSLVERR show, and what is kept of it but for the data
pub record IsFront (b : Block) (net : Net) (f : Front) : Type 0 where
  pub says : SaysAccess b net f.inlet
  pub ready : IsOfBus b net f.ready 1 (λ p m. if has_wait b then bit_of (closes b p m) else 1)
  pub error : IsOfBus b net f.error 1 (λ p m. if has_wait b then (if closes b p m then m Error else 0) else bit_of (carries b p m && is_unmapped b p))
  pub closing : IsClosing b net f.closes
  pub keeps : has_wait b ≡ true → KeepsAccess b net

-- the registers of a wait state but for that of the data
abbrev pub access_registers : Block → List Pin
access_registers b = if has_wait b then record { name = codes "apb$wait"; width = 1 } ∷ record { name = codes "apb$error"; width = 1 } ∷ [] else []

-- that of the data
abbrev pub data_registers : Option Id → List Pin
data_registers None = []
data_registers (Some closes) = record { name = codes "apb$data"; width = 32 } ∷ []

-- Without a wait state the answer is shown at once; with one it is kept from the first vector of an access, and shown in the second.
abbrev pub ShowsData : Net → (closes : Option Id) → (answer shown : Id) → Type 0
ShowsData net None answer shown = shown ≡ answer
ShowsData net (Some closes) answer shown =
    Stands net shown 32
    × ((v : At) → Settles net v → v.node shown.0 ≡ (if v.node closes.0 == 1 then cleared (codes "apb$data") v else 0))
    × ((v : At) → Settles net v → v.after (codes "apb$data") ≡ (if v.ins (codes "PRESETn") == 0 then 0 else v.node answer.0))
