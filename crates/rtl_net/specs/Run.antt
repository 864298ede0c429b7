-- What a netlist does at its clock's edges, with its ports in order.
use Rattle.std.specs.List.{AllByRecursion}
use Rattle.std.specs.Str.{bytes_eq}
use Rattle.std.specs.Prelude.{◌≡◌, ℕ, Bool, true, false, not, ◌&&◌, Option, Some, None, List, [], ◌∷◌, map, filter}
use Rattle.rb_base.specs.declared.ports.Pin.{Pin}
use Rattle.rtl_net.specs.Names.{clock}
use Rattle.rtl_net.specs.Value.{At, Values}
use Rattle.rtl_net.specs.Net.{Net, IsEdge, registers_of}
use Rattle.rtl_net.specs.declared.node.Seat.{Seat}
use Rattle.rtl_net.specs.declared.node.Occupant.{Occupant}
use Rattle.rtl_net.specs.declared.node.Occupant.TheVariants.{Input, Output}

-- what an input has taken
abbrev pub by_input : Option Occupant → Bool
by_input None = false
by_input (Some (Input id)) = true
by_input (Some (Output from)) = false

-- what an output has taken
abbrev pub by_output : Option Occupant → Bool
by_output None = false
by_output (Some (Input id)) = false
by_output (Some (Output from)) = true

-- the seat of an input other than the clock
abbrev pub is_data_input : Seat → Bool
is_data_input s = by_input s.taken && not (bytes_eq s.name clock)

-- the seat of an output
abbrev pub is_output : Seat → Bool
is_output s = by_output s.taken

-- a seat by name and width alone
abbrev pub seat_pin : Seat → Pin
seat_pin s = record { name = s.name; width = s.width }

-- the inputs without the clock, in order: the pins whose numbers each vector of a run gives
abbrev pub inputs : Net → List Pin
inputs net = map seat_pin (filter is_data_input net.seats)

-- the outputs, in order: the pins whose numbers a run answers at each edge
abbrev pub outputs : Net → List Pin
outputs net = map seat_pin (filter is_output net.seats)

-- the registers, in order: the names under which a run keeps contents between edges
abbrev pub registers : Net → List Pin
registers net = registers_of net.nodes

-- the values of these pins
abbrev pub values_at : Values → List Pin → List ℕ
values_at v ps = map (λ p. v p.name) ps

-- both have the same values at these pins
abbrev pub SameAt : Values → Values → List Pin → Type 0
SameAt v w ps = AllByRecursion (λ p. v p.name ≡ w p.name) ps

-- At one edge the inputs are the vector's, the registers contain these contents, the outputs are these, and after the
-- edge the registers contain those.
pub record NetEdge (net : Net) (contents : Values) (ins outs : List ℕ) (after : Values) : Type 0 where
  pub at : At
  pub edge : IsEdge net at
  pub given : values_at at.ins (inputs net) ≡ ins
  pub kept : SameAt at.kept contents (registers net)
  pub seen : values_at at.outs (outputs net) ≡ outs
  pub moved : SameAt at.after after (registers net)

-- from these contents and for these vectors, one an edge, the outputs are these
abbrev pub NetRun : Net → Values → List (List ℕ) → List (List ℕ) → Type 0
NetRun net contents [] [] = Unit {0}
NetRun net contents [] (o ∷ os) = ⊥
NetRun net contents (x ∷ xs) [] = ⊥
NetRun net contents (x ∷ xs) (o ∷ os) = (after : Values) × NetEdge net contents x o after × NetRun net after xs os
