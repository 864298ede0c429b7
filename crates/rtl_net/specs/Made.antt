-- How a netlist is made: what holds of all that its calls build.
use Rattle.std.specs.Str.{bytes_eq}
use Rattle.std.specs.List.{list_all, IsDistinct, AllByRecursion}
use Rattle.std.specs.Bool.{OnTrue}
use Rattle.std.specs.Prelude.{ℕ, ◌≡◌, ◌<◌, ◌≤◌, IsTrue, List, slice_get, Option, Some, None}
use Rattle.rtl_net.specs.Names.{clock, is_identifier, is_net_name, Lacks}
use Rattle.rtl_net.specs.Value.{expr_width, operands}
use Rattle.rtl_net.specs.Net.{Net, widths, IsInput, IsWire, Stands, IsWidth, CanWire, CanReset}
use Rattle.rtl_net.specs.Ports.{seat_names, register_names}
use Rattle.rtl_net.specs.declared.node.Id.{Id}
use Rattle.rtl_net.specs.declared.node.NetNode.{NetNode}
use Rattle.rtl_net.specs.declared.node.NetNode.TheVariants as nodes
use Rattle.rtl_net.specs.declared.node.NetExpr.{NetExpr}
use Rattle.rtl_net.specs.declared.node.NetReset.{NetReset}
use Rattle.rtl_net.specs.declared.node.NetReset.TheVariants as resets
use Rattle.rtl_net.specs.declared.node.Seat.{Seat}
use Rattle.rtl_net.specs.declared.node.Occupant.{Occupant}
use Rattle.rtl_net.specs.declared.node.Occupant.TheVariants.{Input, Output}

abbrev pub IsPinBelow : ℕ → NetReset → Type 0
IsPinBelow i resets.None = Unit {0}
IsPinBelow i (resets.Async pin low value) = pin.0 < i

abbrev pub CanNext : Net → ℕ → Option Id → Type 0
CanNext net w None = Unit {0}
CanNext net w (Some next) = Stands net next w

-- the node of number i is made of nodes before it, apart from what a register takes next
abbrev pub IsNodeMade : Net → ℕ → NetNode → Type 0
IsNodeMade net i (nodes.Input name w) = IsWidth w × OnTrue (bytes_eq name clock) (w ≡ 1)
IsNodeMade net i (nodes.Register name w reset next) = IsWidth w × CanReset net w reset × IsPinBelow i reset × CanNext net w next
    × ((k : Id) × (k.0 < i) × IsInput net k clock 1)
IsNodeMade net i (nodes.Wire e) = CanWire net e × AllByRecursion (λ a. a.0 < i) (operands e) × (expr_width (widths net) e ≤ 128)

-- a seat is taken by an input of its name and width, or shows a node of its width
abbrev pub IsTakenBy : Net → List ℕ → ℕ → Option Occupant → Type 0
IsTakenBy net name w None = Unit {0}
IsTakenBy net name w (Some (Input id)) = IsInput net id name w
IsTakenBy net name w (Some (Output from)) = Stands net from w

-- the names of the seats and of the registers: each is an identifier and no wire's, and no name stands twice
pub record AreNames (seats registers : List (List ℕ)) : Type 0 where
  pub seat_named : IsTrue (list_all is_net_name seats)
  pub register_named : IsTrue (list_all is_net_name registers)
  pub seats_differ : IsDistinct bytes_eq seats
  pub registers_differ : IsDistinct bytes_eq registers
  pub apart : AllByRecursion (Lacks seats) registers

pub record IsMade (net : Net) : Type 0 where
  pub identifier : IsTrue (is_identifier net.name)
  pub names : AreNames (seat_names net.seats) (register_names net)
  pub nodes : (i : ℕ) (n : NetNode) → slice_get net.nodes i ≡ Some n → IsNodeMade net i n
  pub seats : (i : ℕ) (s : Seat) → slice_get net.seats i ≡ Some s → IsWidth s.width × IsTakenBy net s.name s.width s.taken
  -- each input has its seat
  pub seated : (id : Id) (name : List ℕ) (w : ℕ) → IsInput net id name w
      → (i : ℕ) × (slice_get net.seats i ≡ Some (record { name = name; width = w; taken = Some (Input id) }))
  -- no two wires are of one expression
  pub shared : (a b : Id) (e : NetExpr) → IsWire net a e → IsWire net b e → a ≡ b
