-- The wires of a netlist by their expressions.
use Rattle.std.specs.Prelude.{ℕ, ◌≡◌, ◌≢◌, Bool, true, false, if◌then◌else◌, ◌⊎◌, ◌++◌, ◌∷◌, [], length, List, Option, is_some, slice_get, Some, IfSome, IfNone}
use Rattle.std.specs.BTreeMap as tree
use Rattle.std.specs.HashMap as hash
use Rattle.rtl_net.specs.Fold.{constant_of}
use Rattle.rtl_net.specs.declared.node.Id.{Id}
use Rattle.rtl_net.specs.declared.node.NetExpr.{NetExpr}
use Rattle.rtl_net.specs.declared.node.NetNode.{NetNode}
use Rattle.rtl_net.specs.declared.node.NetNode.TheVariants.{Input, Register, Wire}
use Rattle.rtl_net.specs.declared.wires.Wires.{Wires}
use Rattle.rtl_net.specs.contracts.node.NetExprOrd.TheImpl.{cmp-value}
use Rattle.rtl_net.specs.contracts.node.NetExprPartialEq.TheImpl.{eq-value}

abbrev pub is_wire : NetNode → Bool
is_wire (Input name w) = false
is_wire (Register name w reset next) = false
is_wire (Wire e) = true

-- no wire is of the expression
abbrev pub LacksWire : List NetNode → NetExpr → Type 0
LacksWire ns e = (i : ℕ) → slice_get ns i ≢ Some (Wire e)

-- the wire of the expression stands and has this number, or it is put at the end
abbrev pub SharesWire : List NetNode → List NetNode → NetExpr → Id → Type 0
SharesWire old new x id = ((new ≡ old) × (slice_get old id.0 ≡ Some (Wire x))) ⊎ ((new ≡ old ++ Wire x ∷ []) × (id.0 ≡ length old) × LacksWire old x)

-- the wire under an expression
abbrev pub wire_under : Wires → NetExpr → Option Id
wire_under wires e = if is_some (constant_of e) then tree.get cmp-value.it wires.constants e else hash.get eq-value.it wires.operations e

-- both have the same wire under each expression
abbrev pub SameWires : Wires → Wires → Type 0
SameWires old new = (e : NetExpr) → wire_under new e ≡ wire_under old e

-- the new ones have this wire, or none, under the expression, and the old ones' under each other
pub record NotesWire (old new : Wires) (x : NetExpr) (wire : Option Id) : Type 0 where
  pub at : wire_under new x ≡ wire
  pub elsewhere : (e : NetExpr) → e ≢ x → wire_under new e ≡ wire_under old e

-- each expression that has a wire among the nodes has its number, and no other one has a number
pub record AreWires (wires : Wires) (ns : List NetNode) : Type 0 where
  pub found : (e : NetExpr) → IfSome (wire_under wires e) (λ id. slice_get ns id.0 ≡ Some (Wire e))
  pub absent : (e : NetExpr) → IfNone (wire_under wires e) (LacksWire ns e)
