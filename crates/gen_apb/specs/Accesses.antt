-- What an access of the bus is.
use Rattle.std.specs.Prelude.{◌≡◌, ◌&&◌, if◌then◌else◌, is_some, unwrap_or}
use Rattle.rtl_net.specs.Value.{At, bit_of}
use Rattle.rtl_net.specs.Net.{Net, Settles}
use Rattle.rb_model.specs.declared.block.Block.{Block}
use Rattle.rb_model.specs.Kept.{Map}
use Rattle.rb_model.specs.Items.{NoAccess}
use Rattle.rb_model.specs.Protocol.{bus_of}
use Rattle.rb_model.specs.Run.{carried, carries, is_unmapped, word_at}
use Rattle.gen_decode.specs.declared.words.Decoded.{Decoded}
use Rattle.gen_scene.specs.declared.base.Inlet.{Inlet}
use Rattle.gen_scene.specs.Bases.{HasInlet}
use Rattle.gen_scene.specs.Worth.{access_at}
use Rattle.gen_apb.specs.declared.access.Request.{Request}
use Rattle.gen_apb.specs.Bus.{IsOfBus, Meets}

-- whether the address is a word's, and the number of the word
pub record HasAddress (b : Block) (net : Net) (d : Decoded) : Type 0 where
  pub hit : IsOfBus b net d.hit 1 (λ p m. bit_of (is_some (word_at b.reads p.address)))
  pub word : IsOfBus b net d.word 16 (λ p m. unwrap_or (word_at b.reads p.address) 0)

-- the nodes say the access that a vector carries
pub record SaysAccess (b : Block) (net : Net) (a : Inlet) : Type 0 where
  pub inlet : HasInlet net a
  pub access : (v : At) → Settles net v → (m : Map) → Meets b v m → access_at a v ≡ (if carries b (bus_of v.ins) m then carried b (bus_of v.ins) else NoAccess)

-- the nodes of what a vector carries
pub record IsCarried (b : Block) (net : Net) (c : Request) : Type 0 where
  pub says : SaysAccess b net c.inlet
  pub fails : IsOfBus b net c.fails 1 (λ p m. bit_of (carries b p m && is_unmapped b p))
