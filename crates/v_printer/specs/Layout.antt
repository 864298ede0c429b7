-- The layout of a module's text: each declaration and each statement in lines of its own.
use Rattle.std.specs.Fmt.{digits}
use Rattle.std.specs.Prelude.{ℕ, ◌+◌, ◌==◌, if◌then◌else◌, Bool, true, false, List, [], ◌∷◌, ◌++◌, codes, decimal}
use Rattle.v_design.specs.Tree.{Term, Operand, Operands, Statement, Assign, Clocked, Resettable, Plain, Prefixed, Joined, Chosen, Whole, Bit, Part, Sized, Braced, Grouped, no_more, and_also, one_word, two_word, decl_word, edge_word}
use Rattle.v_design.specs.declared.design.Decl.{Decl}
use Rattle.rtl_net.specs.Net.{Net}
use Rattle.rtl_net.specs.declared.node.NetNode.{NetNode}
use Rattle.rtl_net.specs.declared.node.Seat.{Seat}
use Rattle.v_design.specs.Header.{range_text, port_text, header}
use Rattle.v_printer.specs.Module.{numbered, ports, port_of, register_decl, wire_decl, wire_stmt, output_stmt, register_stmt}
use Rattle.v_printer.specs.declared.section.Section.{Section}
use Rattle.v_printer.specs.declared.section.Section.TheVariants.{Registers, Wires, Assignments, Blocks}

-- a constant: its width, and its value in hexadecimal digits
abbrev pub constant_text : (w v : ℕ) → List ℕ
constant_text w v = decimal w ++ (codes "'h" ++ digits 16 false v)

abbrev mutual
  pub term_text : Term → List ℕ
  term_text (Plain a) = operand_text a
  term_text (Prefixed op a) = one_word op ++ operand_text a
  term_text (Joined op a b) = operand_text a ++ (codes " " ++ (two_word op ++ (codes " " ++ operand_text b)))
  term_text (Chosen c a b) = operand_text c ++ (codes " ? " ++ (operand_text a ++ (codes " : " ++ operand_text b)))

  pub operand_text : Operand → List ℕ
  operand_text (Whole n) = n
  operand_text (Bit n k) = n ++ (codes "[" ++ (decimal k ++ codes "]"))
  operand_text (Part n hi lo) = n ++ (codes "[" ++ (decimal hi ++ (codes ":" ++ (decimal lo ++ codes "]"))))
  operand_text (Sized w v) = constant_text w v
  operand_text (Braced a rest) = codes "{" ++ (operand_text a ++ (operands_text rest ++ codes "}"))
  operand_text (Grouped e) = codes "(" ++ (term_text e ++ codes ")")

  pub operands_text : Operands → List ℕ
  operands_text no_more = []
  operands_text (and_also a rest) = codes ", " ++ (operand_text a ++ operands_text rest)

abbrev pub decl_text : Decl → List ℕ
decl_text d = codes "  " ++ (decl_word d.reg ++ (codes " " ++ (range_text d.width ++ (d.name ++ codes ";\n"))))

abbrev pub negation_text : Bool → List ℕ
negation_text true = codes "!"
negation_text false = []

abbrev pub stmt_text : Statement → List ℕ
stmt_text (Assign to e) = codes "  assign " ++ (to ++ (codes " = " ++ (term_text e ++ codes ";\n")))
stmt_text (Clocked clock to e) = codes "  always @(posedge " ++ (clock ++ (codes ") " ++ (to ++ (codes " <= " ++ (term_text e ++ codes ";\n")))))
stmt_text (Resettable clock low reset negated test to width value again e) =
    codes "  always @(posedge " ++ (clock ++ (codes " or " ++ (edge_word low ++ (codes " " ++ (reset ++ (codes ")\n    if (" ++ (negation_text negated ++ (test ++ (codes ") "
    ++ (to ++ (codes " <= " ++ (constant_text width value ++ (codes ";\n    else " ++ (again ++ (codes " <= " ++ (term_text e ++ codes ";\n"))))))))))))))))

-- the parts of a block: its event, its test, and what its register takes
abbrev pub event_text : Bool → List ℕ → List ℕ
event_text low pin = codes "  always @(posedge PCLK or " ++ (edge_word low ++ (codes " " ++ pin))

abbrev pub test_text : Bool → List ℕ → List ℕ
test_text low pin = codes ")\n    if (" ++ (negation_text low ++ (pin ++ codes ") "))

abbrev pub reset_value_text : List ℕ → (w v : ℕ) → List ℕ
reset_value_text name w v = name ++ (codes " <= " ++ (constant_text w v ++ codes ";\n    else "))

abbrev pub next_text : List ℕ → List ℕ → List ℕ
next_text name next = name ++ (codes " <= " ++ (next ++ codes ";\n"))

-- each in turn
abbrev pub each_text : {X : Type 0} → (X → List ℕ) → List X → List ℕ
each_text f [] = []
each_text f (x ∷ xs) = f x ++ each_text f xs

-- the lines of a node in a section
abbrev pub line_text : Net → Section → ℕ → NetNode → List ℕ
line_text net Registers k n = each_text decl_text (register_decl k n)
line_text net Wires k n = each_text decl_text (wire_decl net k n)
line_text net Assignments k n = each_text stmt_text (wire_stmt net k n)
line_text net Blocks k n = each_text stmt_text (register_stmt net k n)

-- the lines of a section
abbrev pub section_text : Net → Section → List ℕ
section_text net section = numbered (line_text net section) 0 net.nodes

-- the line of a port, of which there are so many
abbrev pub port_line : (count : ℕ) → ℕ → Seat → List ℕ
port_line count k s = port_text (port_of s) ++ (if k + 1 == count then codes "\n" else codes ",\n")

-- the line of an output
abbrev pub shown_text : Net → ℕ → Seat → List ℕ
shown_text net k s = each_text stmt_text (output_stmt net k s)

-- the text of a netlist
unfoldable pub text_of : Net → List ℕ
text_of net = header net.name (ports net) ++ (section_text net Registers ++ (section_text net Wires ++ (section_text net Assignments
    ++ (numbered (shown_text net) 0 net.seats ++ (section_text net Blocks ++ codes "endmodule\n")))))
