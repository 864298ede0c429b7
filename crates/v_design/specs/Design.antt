-- A module apart from its spelling: what a run reads (IEEE 1364-2005, clause 12.1).
use Rattle.std.specs.Str.{bytes_eq}
use Rattle.std.specs.Prelude.{ℕ, Bool, true, false, not, ◌&&◌, if◌then◌else◌, Option, Some, None, List, [], ◌∷◌, ◌++◌, codes, map, filter}
use Rattle.v_design.specs.Expr.{Expr, Exprs, Net, Bits, Const, Cat, One, Two, Pick, none, more, Widths}
use Rattle.v_design.specs.Tree.{Tree, Statement, Assign, Clocked, Resettable, Term, Operand, Operands, Plain, Prefixed, Joined, Chosen, Whole, Bit, Part, Sized, Braced, Grouped, no_more, and_also}
use Rattle.rb_base.specs.declared.ports.Dir.{Dir}
use Rattle.rb_base.specs.declared.ports.Dir.TheVariants.{In, Out}
use Rattle.rb_base.specs.declared.ports.Port.{Port}
use Rattle.v_design.specs.declared.design.Decl.{Decl}
use Rattle.rb_base.specs.declared.ports.Pin.{Pin}

-- an asynchronous reset: its input, whether it is active at 0, and the constant that it sets
pub record Reset : Type 0 where
  pub pin : List ℕ
  pub low : Bool
  pub width : ℕ
  pub value : ℕ

-- an assignment, or a register's clocked block
pub record Step : Type 0 where
  pub to : List ℕ
  pub clocked : Bool
  pub reset : Option Reset
  pub expr : Expr

-- a module: its ports and declarations in order, and what its statements do
pub record Module : Type 0 where
  pub name : List ℕ
  pub ports : List Port
  pub decls : List Decl
  pub steps : List Step

abbrev mutual
  -- an expression without its brackets
  pub expr_of : Term → Expr
  expr_of (Plain a) = operand_of a
  expr_of (Prefixed op a) = One op (operand_of a)
  expr_of (Joined op a b) = Two op (operand_of a) (operand_of b)
  expr_of (Chosen c a b) = Pick (operand_of c) (operand_of a) (operand_of b)

  pub operand_of : Operand → Expr
  operand_of (Whole n) = Net n
  operand_of (Bit n k) = Bits n k k
  operand_of (Part n hi lo) = Bits n hi lo
  operand_of (Sized w v) = Const w v
  operand_of (Braced a rest) = Cat (more (operand_of a) (operands_of rest))
  operand_of (Grouped e) = expr_of e

  pub operands_of : Operands → Exprs
  operands_of no_more = none
  operands_of (and_also a rest) = more (operand_of a) (operands_of rest)

-- a statement without what it spells twice
abbrev pub step_of : Statement → Step
step_of (Assign to e) = record { to = to; clocked = false; reset = None; expr = expr_of e }
step_of (Clocked clock to e) = record { to = to; clocked = true; reset = None; expr = expr_of e }
step_of (Resettable clock low reset negated test to width value again e) =
    record { to = to; clocked = true; reset = Some (record { pin = reset; low = low; width = width; value = value }); expr = expr_of e }

-- the module of a tree
abbrev pub module_of : Tree → Module
module_of t = record { name = t.name; ports = t.ports; decls = t.decls; steps = map step_of t.stmts }

-- the clock's name
abbrev pub clock : List ℕ
clock = codes "PCLK"

-- the side of an input
abbrev pub is_input : Dir → Bool
is_input In = true
is_input Out = false

-- an input other than the clock
abbrev pub is_data_input : Port → Bool
is_data_input p = is_input p.dir && not (bytes_eq p.name clock)

-- an output
abbrev pub is_output : Port → Bool
is_output p = not (is_input p.dir)

-- a port by name and width alone
abbrev pub port_pin : Port → Pin
port_pin p = record { name = p.name; width = p.width }

-- a declaration by name and width alone
abbrev pub decl_pin : Decl → Pin
decl_pin d = record { name = d.name; width = d.width }

-- the inputs without the clock, in order of declaration
abbrev pub inputs_among : List Port → List Pin
inputs_among ps = map port_pin (filter is_data_input ps)

-- the outputs, in order of declaration
abbrev pub outputs_among : List Port → List Pin
outputs_among ps = map port_pin (filter is_output ps)

-- the registers, in order of declaration
abbrev pub registers_among : List Decl → List Pin
registers_among ds = map decl_pin (filter (λ d. d.reg) ds)

-- the pins whose numbers each vector of a run gives
abbrev pub inputs : Module → List Pin
inputs m = inputs_among m.ports

-- the pins whose numbers a run answers at each edge
abbrev pub outputs : Module → List Pin
outputs m = outputs_among m.ports

-- the names under which a run keeps contents between edges
abbrev pub registers : Module → List Pin
registers m = registers_among m.decls

-- the width of a name among these, or 0
abbrev pub width_among : List Pin → List ℕ → ℕ
width_among [] n = 0
width_among (p ∷ ps) n = if bytes_eq p.name n then p.width else width_among ps n

-- the width that a name is declared with, or 0
abbrev pub widths : Module → Widths
widths m n = width_among (map port_pin m.ports ++ map decl_pin m.decls) n
