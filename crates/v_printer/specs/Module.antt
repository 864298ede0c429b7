-- The module that a netlist is printed as.
use Rattle.std.specs.Prelude.{ℕ, ◌+◌, ◌==◌, true, false, if◌then◌else◌, Option, Some, None, List, [], ◌∷◌, ◌++◌, map, slice_get, codes, decimal}
use Rattle.rb_base.specs.declared.ports.Dir.{Dir}
use Rattle.rb_base.specs.declared.ports.Dir.TheVariants.{In, Out}
use Rattle.rb_base.specs.declared.ports.Port.{Port}
use Rattle.v_design.specs.Tree.{Tree, Term, Operand, Statement, Assign, Clocked, Resettable, Plain, Prefixed, Joined, Chosen, Whole, Bit, Part, Sized, Braced, no_more, and_also}
use Rattle.v_design.specs.declared.design.VOne.TheVariants as one
use Rattle.v_design.specs.declared.design.VTwo.TheVariants as two
use Rattle.v_design.specs.declared.design.Decl.{Decl}
use Rattle.rtl_net.specs.Names.{clock}
use Rattle.rtl_net.specs.Net.{Net, width_in}
use Rattle.rtl_net.specs.declared.node.Id.{Id}
use Rattle.rtl_net.specs.declared.node.NetExpr.{NetExpr}
use Rattle.rtl_net.specs.declared.node.NetExpr.TheVariants as exprs
use Rattle.rtl_net.specs.declared.node.NetNode.{NetNode}
use Rattle.rtl_net.specs.declared.node.NetNode.TheVariants.{Input, Register, Wire}
use Rattle.rtl_net.specs.declared.node.NetReset.{NetReset}
use Rattle.rtl_net.specs.declared.node.NetReset.TheVariants as resets
use Rattle.rtl_net.specs.declared.node.Seat.{Seat}
use Rattle.rtl_net.specs.declared.node.Occupant.{Occupant}
use Rattle.rtl_net.specs.declared.node.Occupant.TheVariants as takes

-- what each item gives, where the first has the number k
abbrev pub numbered : {X A : Type 0} → (ℕ → X → List A) → ℕ → List X → List A
numbered f k [] = []
numbered f k (x ∷ xs) = f k x ++ numbered f (k + 1) xs

-- the name of the wire of number k
abbrev pub wire_name : ℕ → List ℕ
wire_name k = codes "n$" ++ decimal k

-- the name of a node: an input and a register have their own
abbrev pub name_of : ℕ → NetNode → List ℕ
name_of k (Input name w) = name
name_of k (Register name w reset next) = name
name_of k (Wire e) = wire_name k

-- the name of the node of number k
abbrev pub name_if : ℕ → Option NetNode → List ℕ
name_if k None = []
name_if k (Some n) = name_of k n

abbrev pub node_name : List NetNode → ℕ → List ℕ
node_name ns k = name_if k (slice_get ns k)

-- a node as an operand
abbrev pub whole : Net → Id → Operand
whole net a = Whole (node_name net.nodes a.0)

-- bits of a net of w bits; of a net of one bit, which has no range, its and with 1
abbrev pub selected : (w : ℕ) → List ℕ → (hi lo : ℕ) → Term
selected w name hi lo = if w == 1 then Joined two.And (Whole name) (Sized 1 1) else Plain (if hi == lo then Bit name hi else Part name hi lo)

-- the expression of a wire
abbrev pub term_of : Net → NetExpr → Term
term_of net (exprs.Const w x) = Plain (Sized w x)
term_of net (exprs.Part a hi lo) = selected (width_in net a) (node_name net.nodes a.0) hi lo
term_of net (exprs.Cat a b) = Plain (Braced (whole net a) (and_also (whole net b) no_more))
term_of net (exprs.Not a) = Prefixed one.Not (whole net a)
term_of net (exprs.All a) = Prefixed one.All (whole net a)
term_of net (exprs.Any a) = Prefixed one.Any (whole net a)
term_of net (exprs.Odd a) = Prefixed one.Odd (whole net a)
term_of net (exprs.Add a b) = Joined two.Add (whole net a) (whole net b)
term_of net (exprs.Sub a b) = Joined two.Sub (whole net a) (whole net b)
term_of net (exprs.And a b) = Joined two.And (whole net a) (whole net b)
term_of net (exprs.Or a b) = Joined two.Or (whole net a) (whole net b)
term_of net (exprs.Xor a b) = Joined two.Xor (whole net a) (whole net b)
term_of net (exprs.Eq a b) = Joined two.Eq (whole net a) (whole net b)
term_of net (exprs.Lt a b) = Joined two.Lt (whole net a) (whole net b)
term_of net (exprs.Pick c a b) = Chosen (whole net c) (whole net a) (whole net b)

-- the side of a taken seat
abbrev pub side_of : Option Occupant → Dir
side_of None = In
side_of (Some (takes.Input id)) = In
side_of (Some (takes.Output from)) = Out

-- a seat as a port
abbrev pub port_of : Seat → Port
port_of s = record { dir = side_of s.taken; name = s.name; width = s.width }

-- the ports: the seats in order
abbrev pub ports : Net → List Port
ports net = map port_of net.seats

-- the declaration of a register
abbrev pub register_decl : ℕ → NetNode → List Decl
register_decl k (Input name w) = []
register_decl k (Register name w reset next) = record { reg = true; name = name; width = w } ∷ []
register_decl k (Wire e) = []

-- the declaration of a wire
abbrev pub wire_decl : Net → ℕ → NetNode → List Decl
wire_decl net k (Input name w) = []
wire_decl net k (Register name w reset next) = []
wire_decl net k (Wire e) = record { reg = false; name = wire_name k; width = width_in net (record { 0 = k }) } ∷ []

-- the assignment of a wire
abbrev pub wire_stmt : Net → ℕ → NetNode → List Statement
wire_stmt net k (Input name w) = []
wire_stmt net k (Register name w reset next) = []
wire_stmt net k (Wire e) = Assign (wire_name k) (term_of net e) ∷ []

-- the assignment of an output
abbrev pub shown_stmt : Net → List ℕ → Option Occupant → List Statement
shown_stmt net name None = []
shown_stmt net name (Some (takes.Input id)) = []
shown_stmt net name (Some (takes.Output from)) = Assign name (Plain (whole net from)) ∷ []

abbrev pub output_stmt : Net → ℕ → Seat → List Statement
output_stmt net k s = shown_stmt net s.name s.taken

-- the block of a register
abbrev pub block : Net → List ℕ → ℕ → NetReset → Id → Statement
block net name w resets.None next = Clocked clock name (Plain (whole net next))
block net name w (resets.Async pin low value) next =
    Resettable clock low (node_name net.nodes pin.0) low (node_name net.nodes pin.0) name w value name (Plain (whole net next))

abbrev pub driven_stmt : Net → List ℕ → ℕ → NetReset → Option Id → List Statement
driven_stmt net name w reset None = []
driven_stmt net name w reset (Some next) = block net name w reset next ∷ []

abbrev pub register_stmt : Net → ℕ → NetNode → List Statement
register_stmt net k (Input name w) = []
register_stmt net k (Register name w reset next) = driven_stmt net name w reset next
register_stmt net k (Wire e) = []

-- the registers and the wires
abbrev pub decls : Net → List Decl
decls net = numbered register_decl 0 net.nodes ++ numbered (wire_decl net) 0 net.nodes

-- the wires, the outputs and the registers' blocks
abbrev pub stmts : Net → List Statement
stmts net = numbered (wire_stmt net) 0 net.nodes ++ (numbered (output_stmt net) 0 net.seats ++ numbered (register_stmt net) 0 net.nodes)

-- the module of a netlist
abbrev pub tree_of : Net → Tree
tree_of net = record { name = net.name; ports = ports net; decls = decls net; stmts = stmts net }
