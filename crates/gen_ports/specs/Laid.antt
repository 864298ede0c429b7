-- Ports in a netlist.
use Rattle.std.specs.Prelude.{◌≡◌, ℕ, Bool, true, false, ◌++◌, Option, Some, None, List, [], ◌∷◌, IsTrue, length, map, slice_get}
use Rattle.std.specs.Str.{bytes_eq}
use Rattle.rb_base.specs.declared.ports.Dir.{Dir}
use Rattle.rb_base.specs.declared.ports.Dir.TheVariants.{In, Out}
use Rattle.rb_base.specs.declared.ports.Pin.{Pin}
use Rattle.rb_base.specs.declared.ports.Port.{Port}
use Rattle.v_design.specs.Design.{is_data_input, port_pin}
use Rattle.v_design.specs.WellFormed.{distinct}
use Rattle.rtl_net.specs.Names.{clock, is_net_name}
use Rattle.rtl_net.specs.Net.{Net, IsWidth}
use Rattle.rtl_net.specs.Ids.{at}
use Rattle.rtl_net.specs.declared.node.Id.{Id}
use Rattle.rtl_net.specs.declared.node.Seat.{Seat}
use Rattle.rtl_net.specs.declared.node.Occupant.{Occupant}
use Rattle.rtl_net.specs.declared.node.Occupant.TheVariants.{Input}
use Rattle.rb_model.specs.Ports.{input, pin}
use Rattle.rb_model.specs.References.{Each}
use Rattle.gen_scene.specs.Bases.{IsPinNode}

-- a port's name may be one, its width too, and the clock has one bit
pub record IsPort (p : Port) : Type 0 where
  pub named : IsTrue (is_net_name p.name)
  pub wide : IsWidth p.width
  pub clocked : bytes_eq p.name clock ≡ true → p.width ≡ 1

-- ports that may be laid into a netlist without ports: the clock comes first, and no two have one name
pub record CanLay (ps : List Port) : Type 0 where
  pub first : (rest : List Port) × (ps ≡ input (pin clock 1) ∷ rest)
  pub each : Each IsPort ps
  pub apart : distinct (map (λ p. p.name) ps) ≡ true

-- an input's seat is taken by an input, and an output's is free
abbrev pub IsTakenAs : Dir → Option Occupant → Type 0
IsTakenAs In t = (id : Id) × (t ≡ Some (Input id))
IsTakenAs Out t = t ≡ None

-- the seat of a port that no output has taken yet
pub record IsSeatOf (s : Seat) (p : Port) : Type 0 where
  pub name : s.name ≡ p.name
  pub width : s.width ≡ p.width
  pub taken : IsTakenAs p.dir s.taken

-- the seats are those of these ports, in order
abbrev pub AreSeatsOf : List Seat → List Port → Type 0
AreSeatsOf [] [] = Unit {0}
AreSeatsOf [] (p ∷ ps) = ⊥
AreSeatsOf (s ∷ ss) [] = ⊥
AreSeatsOf (s ∷ ss) (p ∷ ps) = IsSeatOf s p × AreSeatsOf ss ps

-- the nodes are the inputs of these pins, in order
pub record AreInputs (net : Net) (ids : List Id) (ps : List Pin) : Type 0 where
  pub long : length ids ≡ length ps
  pub each : (k : ℕ) (p : Pin) → slice_get ps k ≡ Some p → IsPinNode net (at ids k) p

-- the nodes after a port more: the input of a pin is put behind them
abbrev pub HasPortIf : (is_pin : Bool) → Net → Port → (old new : List Id) → Type 0
HasPortIf true net p old new = (id : Id) × (new ≡ old ++ id ∷ []) × IsPinNode net id (port_pin p)
HasPortIf false net p old new = new ≡ old

abbrev pub HasPort : Net → Port → (old new : List Id) → Type 0
HasPort net p old new = HasPortIf (is_data_input p) net p old new
