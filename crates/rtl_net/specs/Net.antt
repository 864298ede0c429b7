-- A netlist, and what is known of its nodes.
use Rattle.std.specs.Str.{bytes_eq}
use Rattle.std.specs.List.{list_any}
use Rattle.std.specs.Prelude.{ℕ, ◌+◌, ◌≡◌, ◌<◌, ◌≤◌, ◌^◌, Bool, true, false, IsTrue, List, [], ◌∷◌, length, slice_index, slice_get, count_by, Option, Some, None, unwrap_or}
use Rattle.rb_base.specs.declared.ports.Pin.{Pin}
use Rattle.rtl_net.specs.Names.{clock}
use Rattle.rtl_net.specs.Value.{At, widths_after, node_value, under}
use Rattle.rtl_net.specs.declared.node.Id.{Id}
use Rattle.rtl_net.specs.declared.node.NetNode.{NetNode}
use Rattle.rtl_net.specs.declared.node.NetNode.TheVariants.{Input, Register, Wire}
use Rattle.rtl_net.specs.declared.node.NetReset.{NetReset}
use Rattle.rtl_net.specs.declared.node.NetReset.TheVariants as resets
use Rattle.rtl_net.specs.declared.node.NetExpr.{NetExpr}
use Rattle.rtl_net.specs.declared.node.NetExpr.TheVariants.{Const, Part, Cat, Not, All, Any, Odd, Add, Sub, And, Or, Xor, Eq, Lt, Pick}
use Rattle.rtl_net.specs.declared.node.Seat.{Seat}
use Rattle.rtl_net.specs.declared.node.Occupant.TheVariants as takes

-- a module's name, its nodes by number, and its ports in order
pub record Net : Type 0 where
  pub name : List ℕ
  pub nodes : List NetNode
  pub seats : List Seat

abbrev pub widths : Net → List ℕ
widths net = widths_after [] net.nodes

-- the width of a node that expressions may name, and 0 for the clock
abbrev pub width_in : Net → Id → ℕ
width_in net id = slice_index (widths net) id.0

-- the netlist has a node of this number that expressions may name
abbrev pub Has : Net → Id → Type 0
Has net id = (id.0 < length net.nodes) × (0 < width_in net id)

-- the same, where the node has this width
pub record Stands (net : Net) (id : Id) (w : ℕ) : Type 0 where
  pub below : id.0 < length net.nodes
  pub some : 0 < w
  pub width : width_in net id ≡ w

pub record IsInput (net : Net) (id : Id) (name : List ℕ) (w : ℕ) : Type 0 where
  pub is : slice_get net.nodes id.0 ≡ Some (Input name w)

pub record IsWire (net : Net) (id : Id) (e : NetExpr) : Type 0 where
  pub is : slice_get net.nodes id.0 ≡ Some (Wire e)

-- a register that is still to be driven
pub record Awaits (net : Net) (id : Id) (name : List ℕ) (w : ℕ) (reset : NetReset) : Type 0 where
  pub is : slice_get net.nodes id.0 ≡ Some (Register name w reset None)

abbrev pub is_clock : NetNode → Bool
is_clock (Input name w) = bytes_eq name clock
is_clock (Register name w reset next) = false
is_clock (Wire e) = false

abbrev pub HasClock : Net → Type 0
HasClock net = IsTrue (list_any is_clock net.nodes)

-- the registers in order, by name and width
abbrev pub registers_of : List NetNode → List Pin
registers_of [] = []
registers_of (Input name w ∷ ns) = registers_of ns
registers_of (Register name w reset next ∷ ns) = record { name = name; width = w } ∷ registers_of ns
registers_of (Wire e ∷ ns) = registers_of ns

abbrev pub awaits_next : NetNode → Bool
awaits_next (Input name w) = false
awaits_next (Register name w reset None) = true
awaits_next (Register name w reset (Some next)) = false
awaits_next (Wire e) = false

-- how many registers are still to be driven
abbrev pub undriven : List NetNode → ℕ
undriven ns = count_by awaits_next ns

-- At an edge each node has the value of its input or expression, or what its register contains; each driven
-- register takes its next value, or its constant under an asserted reset; and each output shows its node.
pub record IsEdge (net : Net) (v : At) : Type 0 where
  pub nodes : (i : ℕ) (n : NetNode) → slice_get net.nodes i ≡ Some n → v.node i ≡ node_value v (widths net) n
  pub nexts : (i : ℕ) (name : List ℕ) (w : ℕ) (reset : NetReset) (next : Id) → slice_get net.nodes i ≡ Some (Register name w reset (Some next)) → v.after name ≡ under v.node reset (v.node next.0)
  pub outs : (i : ℕ) (name : List ℕ) (w : ℕ) (from : Id) → slice_get net.seats i ≡ Some (record { name = name; width = w; taken = Some (takes.Output from) }) → v.outs name ≡ v.node from.0

-- an edge at which each node that expressions may name is within its width
pub record Settles (net : Net) (v : At) : Type 0 where
  pub edge : IsEdge net v
  pub fits : (id : Id) → Has net id → v.node id.0 < 2 ^ width_in net id

-- a node of this width, whose value is always f
pub record IsNode (net : Net) (id : Id) (w : ℕ) (f : At → ℕ) : Type 0 where
  pub stands : Stands net id w
  pub value : (v : At) → Settles net v → v.node id.0 ≡ f v

-- what holds of the old netlist's nodes holds of the new one's
pub record Extends (old new : Net) : Type 0 where
  pub settles : (v : At) → Settles new v → Settles old v
  pub count : length old.nodes ≤ length new.nodes
  pub width : (id : Id) → id.0 < length old.nodes → width_in new id ≡ width_in old id
  pub inputs : (id : Id) (name : List ℕ) (w : ℕ) → IsInput old id name w → IsInput new id name w
  pub clock : HasClock old → HasClock new

-- no register is driven
pub record Keeps (old new : Net) : Type 0 where
  pub awaits : (id : Id) (name : List ℕ) (w : ℕ) (reset : NetReset) → Awaits old id name w reset → Awaits new id name w reset

-- only wires are added
pub record Grows (old new : Net) : Type 0 where
  pub settles : (v : At) → Settles new v → Settles old v
  pub count : length old.nodes ≤ length new.nodes
  pub width : (id : Id) → id.0 < length old.nodes → width_in new id ≡ width_in old id
  pub inputs : (id : Id) (name : List ℕ) (w : ℕ) → IsInput old id name w → IsInput new id name w
  pub clock : HasClock old → HasClock new
  pub awaits : (id : Id) (name : List ℕ) (w : ℕ) (reset : NetReset) → Awaits old id name w reset → Awaits new id name w reset
  pub registers : registers_of new.nodes ≡ registers_of old.nodes
  pub undriven : undriven new.nodes ≡ undriven old.nodes
  pub seats : new.seats ≡ old.seats

-- a width that a net may have
abbrev pub IsWidth : ℕ → Type 0
IsWidth w = (0 < w) × (w ≤ 128)

-- the operands stand, and have the widths that the operator asks for
abbrev pub CanWire : Net → NetExpr → Type 0
CanWire net (Const w x) = (0 < w) × (w ≤ 128) × (x < 2 ^ w)
CanWire net (Part a hi lo) = Has net a × (lo ≤ hi) × (hi < width_in net a)
CanWire net (Cat a b) = Has net a × Has net b × (width_in net a + width_in net b ≤ 128)
CanWire net (Not a) = Has net a
CanWire net (All a) = Has net a
CanWire net (Any a) = Has net a
CanWire net (Odd a) = Has net a
CanWire net (Add a b) = Has net a × Has net b × (width_in net a ≡ width_in net b)
CanWire net (Sub a b) = Has net a × Has net b × (width_in net a ≡ width_in net b)
CanWire net (And a b) = Has net a × Has net b × (width_in net a ≡ width_in net b)
CanWire net (Or a b) = Has net a × Has net b × (width_in net a ≡ width_in net b)
CanWire net (Xor a b) = Has net a × Has net b × (width_in net a ≡ width_in net b)
CanWire net (Eq a b) = Has net a × Has net b × (width_in net a ≡ width_in net b)
CanWire net (Lt a b) = Has net a × Has net b × (width_in net a ≡ width_in net b)
CanWire net (Pick c a b) = Has net c × Has net a × Has net b × (width_in net c ≡ 1) × (width_in net a ≡ width_in net b)

-- a reset's pin is an input of one bit other than the clock, and its value is within the register's width
abbrev pub CanReset : Net → ℕ → NetReset → Type 0
CanReset net w resets.None = Unit {0}
CanReset net w (resets.Async pin low value) = (name : List ℕ) × IsInput net pin name 1 × (bytes_eq name clock ≡ false) × (value < 2 ^ w)

-- the register is still to be driven, and the node that it is to take has its width
pub record CanDrive (net : Net) (reg next : Id) : Type 0 where
  pub name : List ℕ
  pub width : ℕ
  pub reset : NetReset
  pub awaits : Awaits net reg name width reset
  pub stands : Stands net next width

-- the value of a node that may be absent
abbrev pub seen : At → Option Id → Option ℕ
seen v None = None
seen v (Some i) = Some (v.node i.0)

-- a node that is absent or one bit
abbrev pub MayStand : Net → Option Id → Type 0
MayStand net None = Unit {0}
MayStand net (Some i) = Stands net i 1

-- the value of a node that may be absent, and 0 where it is
abbrev pub seen_or_zero : At → Option Id → ℕ
seen_or_zero v o = unwrap_or (seen v o) 0

-- a node that is absent or has this width
abbrev pub MayHave : Net → Option Id → ℕ → Type 0
MayHave net None w = Unit {0}
MayHave net (Some i) w = Stands net i w
