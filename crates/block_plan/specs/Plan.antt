-- What is looked up once for a block.
use Rattle.std.specs.Prelude.{◌≡◌, ℕ, ◌==◌, Bool, ◌&&◌, Some, List, [], ◌++◌, codes, length, map, filter, slice_get, Vec}
use Rattle.std.specs.List.{enumerate_from}
use Rattle.std.specs.declared.alloc.Global.{Global}
use Rattle.std.specs.Option.{option_map_or}
use Rattle.rb_model.specs.declared.kinds.Gate.{Gate}
use Rattle.rb_model.specs.declared.kinds.Gate.TheVariants as gate
use Rattle.rb_model.specs.declared.block.Block.{Block}
use Rattle.rb_model.specs.declared.block.Field.{Field}
use Rattle.rb_model.specs.declared.block.Signal.{Signal}
use Rattle.rb_model.specs.declared.block.View.{View}
use Rattle.rb_model.specs.Ports.{input_pins, outlets, signal_name}
use Rattle.rb_model.specs.Items.{is_interrupt}
use Rattle.rb_base.specs.declared.ports.Pin.{Pin}
use Rattle.block_plan.specs.Kept.{AreKeptOf}
use Rattle.block_plan.specs.Outlets.{outlet_seen}
use Rattle.block_plan.specs.declared.plan.FieldPlaces.{FieldPlaces}
use Rattle.block_plan.specs.declared.plan.PartPlaces.{PartPlaces}
use Rattle.block_plan.specs.declared.plan.BusPlaces.{BusPlaces}
use Rattle.block_plan.specs.declared.plan.Plan.{Plan}

-- The pin of a name, if there is one, stands at this place; where there is none, neither is there a pin at the place.
pub record IsPlaceOf (b : Block) (name : List ℕ) (place : ℕ) : Type 0 where
  pub found : (p : Pin) → slice_get (input_pins b) place ≡ Some p → p.name ≡ name
  pub every : (k : ℕ) (p : Pin) → slice_get (input_pins b) k ≡ Some p → p.name ≡ name → place ≡ k

-- the pin of a gate stands at this place
abbrev pub IsGatePlace : Block → Gate → (high low path : List ℕ) → ℕ → Type 0
IsGatePlace b gate.Always high low path place = Unit {0}
IsGatePlace b (gate.High from) high low path place = IsPlaceOf b (high ++ path) place
IsGatePlace b (gate.Low from) high low path place = IsPlaceOf b (low ++ path) place

-- the pins of one direction of a counter stand at these places
pub record ArePartPlaces (b : Block) (pulse_name amount_name : List ℕ) (p : PartPlaces) : Type 0 where
  pub pulse : IsPlaceOf b pulse_name p.pulse
  pub amount : IsPlaceOf b amount_name p.amount

-- so do the pins of a field
pub record AreFieldPlaces (b : Block) (f : Field) (p : FieldPlaces) : Type 0 where
  pub source : IsPlaceOf b (codes "in$" ++ f.path) p.source
  pub gate : IsGatePlace b f.gate (codes "we$") (codes "wel$") f.path p.gate
  pub set : IsPlaceOf b (codes "hwset$" ++ f.path) p.set
  pub clear : IsPlaceOf b (codes "hwclr$" ++ f.path) p.clear
  pub up : ArePartPlaces b (codes "incr$" ++ f.path) (codes "incrvalue$" ++ f.path) p.up
  pub down : ArePartPlaces b (codes "decr$" ++ f.path) (codes "decrvalue$" ++ f.path) p.down

-- and those of the bus
pub record AreBusPlaces (b : Block) (p : BusPlaces) : Type 0 where
  pub resetn : IsPlaceOf b (codes "PRESETn") p.resetn
  pub address : IsPlaceOf b (codes "PADDR") p.address
  pub select : IsPlaceOf b (codes "PSEL") p.select
  pub enable : IsPlaceOf b (codes "PENABLE") p.enable
  pub write : IsPlaceOf b (codes "PWRITE") p.write
  pub data_in : IsPlaceOf b (codes "PWDATA") p.data_in

-- the numbers that are listed for a register
abbrev pub members_at : List (Vec ℕ Global) → ℕ → List ℕ
members_at all r = option_map_or (λ v. v.items) (slice_get all r) []

abbrev pub members_of : Plan → ℕ → List ℕ
members_of p r = members_at p.members.items r

-- an interrupt of the register
abbrev pub is_member : ℕ → ℕ × Field → Bool
is_member r f = is_interrupt f.1.latch && f.1.reg == r

-- the numbers of a register's interrupts, in order
abbrev pub members_among : List Field → ℕ → List ℕ
members_among fields r = map (λ (f : ℕ × Field). f.0) (filter (is_member r) (enumerate_from 0 fields))

-- a plan is of a block
pub record IsPlanOf (b : Block) (p : Plan) : Type 0 where
  pub inputs : p.inputs ≡ length (input_pins b)
  pub bus : AreBusPlaces b p.bus
  pub signals : (k : ℕ) (s : Signal) → slice_get b.signals k ≡ Some s → (place : ℕ) × (slice_get p.signals.items k ≡ Some place) × IsPlaceOf b (signal_name s) place
  pub fields : (k : ℕ) (f : Field) → slice_get b.fields k ≡ Some f → (places : FieldPlaces) × (slice_get p.fields.items k ≡ Some places) × AreFieldPlaces b f places
  pub gates : (k : ℕ) (v : View) → slice_get b.views k ≡ Some v → (place : ℕ) × (slice_get p.gates.items k ≡ Some place) × IsGatePlace b v.gate (codes "swwe$") (codes "swwel$") v.path place
  pub members : (r : ℕ) → members_of p r ≡ members_among b.fields r
  pub outlets : map outlet_seen p.outlets.items ≡ outlets b
  pub addresses : p.addresses.items ≡ map (λ w. w.address) b.reads
  pub kept : AreKeptOf b.fields p.kept
