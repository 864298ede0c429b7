-- A block behind a bus: the ports of its module, what is kept from one clock edge to the next, and what an edge makes of that.
use Rattle.std.specs.Prelude.{◌≡◌, ℕ, ◌^◌, ◌<◌, List, [], ◌∷◌, map}
use Rattle.std.specs.List.{AllByRecursion}
use Rattle.rb_base.specs.declared.ports.Pin.{Pin}
use Rattle.rb_base.specs.declared.ports.Port.{Port}
use Rattle.v_design.specs.Expr.{Values}
use Rattle.v_design.specs.Design.{inputs_among, outputs_among}
use Rattle.rb_model.specs.declared.block.Block.{Block}
use Rattle.rb_model.specs.Ports.{by_name}
use Rattle.rb_model.specs.Items.{Now, ItemValues, AreItemValues}

-- a register of a module, and what it contains where K is what is kept
pub record Register (K : Type 0) : Type 0 where
  pub name : List ℕ
  pub width : ℕ
  pub value : K → ℕ

-- A block behind a bus: its module's name, ports and registers, and the machine that it is. Pins are given by name.
pub record Front : Type 1 where
  -- what is kept from one edge to the next
  pub Kept : Type 0
  pub block : Block
  pub name : List ℕ
  -- in order, the clock among them
  pub ports : List Port
  pub registers : List (Register Kept)
  -- what the block finds at an edge: an access, the pins, and what its fields keep once asynchronous resets have acted
  pub found : Values → Kept → Now
  -- all outputs, in port order
  pub shown : Values → Kept → ItemValues → List ℕ
  -- what is kept after the edge
  pub next : Values → Kept → ItemValues → Kept
  -- the vectors keep the bus's protocol
  pub Keeps : List Values → Type 0

-- input ports without the clock, and outputs
abbrev pub front_inputs : Front → List Pin
front_inputs F = inputs_among F.ports

abbrev pub front_outputs : Front → List Pin
front_outputs F = outputs_among F.ports

-- the input pins of a vector, by name
abbrev pub pins_at : Front → List ℕ → Values
pins_at F x = by_name (front_inputs F) x

-- the registers, as pins
abbrev pub register_pins : Front → List Pin
register_pins F = map (λ r. record { name = r.name; width = r.width }) F.registers

-- each kept value is within its register's width
abbrev pub IsWithin : (F : Front) → F.Kept → Type 0
IsWithin F k = AllByRecursion (λ r. r.value k < 2 ^ r.width) F.registers

-- the registers contain what is kept
abbrev pub Contain : (F : Front) → F.Kept → Values → Type 0
Contain F k contents = AllByRecursion (λ r. contents r.name ≡ r.value k) F.registers

-- At one edge, from what is kept and for the vector x, the outputs are these, and so is what is kept after it.
pub record FrontEdge (F : Front) (k : F.Kept) (x outs : List ℕ) (after : F.Kept) : Type 0 where
  pub items : ItemValues
  pub valued : AreItemValues F.block (F.found (pins_at F x) k) items
  pub seen : outs ≡ F.shown (pins_at F x) k items
  pub moved : after ≡ F.next (pins_at F x) k items

-- from what is kept and for these vectors, the outputs are these
abbrev pub FrontRun : (F : Front) → F.Kept → List (List ℕ) → List (List ℕ) → Type 0
FrontRun F k [] [] = Unit {0}
FrontRun F k [] (o ∷ os) = ⊥
FrontRun F k (x ∷ xs) [] = ⊥
FrontRun F k (x ∷ xs) (o ∷ os) = (after : F.Kept) × FrontEdge F k x o after × FrontRun F after xs os
