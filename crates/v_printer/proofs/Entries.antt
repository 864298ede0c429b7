-- The nets of a printed module, each with what it stands for.
use Rattle.std.specs.Str.{bytes_eq}
use Rattle.std.proofs.Common.{◌≡◌, ℕ, ◌+◌, if◌then◌else◌, List, [], ◌∷◌, ◌++◌, map, refl, ap, sym, ◌∙◌}
use Rattle.std.proofs.lemmas.List.{map-append}
use Rattle.rb_base.specs.declared.ports.Pin.{Pin}
use Rattle.rtl_net.proofs.HasRun as finding
use Rattle.rtl_net.specs.Net.{Net, width_in}
use Rattle.rtl_net.specs.declared.node.NetNode.{NetNode}
use Rattle.rtl_net.specs.declared.node.NetNode.TheVariants.{Input, Register, Wire}
use Rattle.rtl_net.specs.declared.node.Seat.{Seat}
use Rattle.v_design.specs.Design.{width_among, port_pin, decl_pin, module_of}
use Rattle.v_design.specs.Design as design
use Rattle.v_design.specs.WellFormed as form
use Rattle.v_design.specs.WellFormed.{Kind, Given, Wired, Kept, port_net, decl_net, port_kind}
use Rattle.v_printer.specs.Module.{numbered, wire_name, side_of, port_of, ports, register_decl, wire_decl, decls, tree_of}

-- a net of the module: a port, a register, or the wire of a number
pub data Entry : Type 0 where
  Port : Seat → Entry
  Kept_by : List ℕ → ℕ → ℕ → Entry
  Wire_of : ℕ → ℕ → Entry

abbrev pub entry_name : Entry → List ℕ
entry_name (Port s) = s.name
entry_name (Kept_by name w k) = name
entry_name (Wire_of w k) = wire_name k

abbrev pub entry_width : Entry → ℕ
entry_width (Port s) = s.width
entry_width (Kept_by name w k) = w
entry_width (Wire_of w k) = w

abbrev pub entry_kind : Entry → Kind
entry_kind (Port s) = port_kind (side_of s.taken)
entry_kind (Kept_by name w k) = Kept
entry_kind (Wire_of w k) = Wired

abbrev pub entry_net : Entry → form.Net
entry_net e = record { name = entry_name e; kind = entry_kind e; width = entry_width e }

abbrev pub entry_pin : Entry → Pin
entry_pin e = record { name = entry_name e; width = entry_width e }

abbrev pub register_entry : ℕ → NetNode → List Entry
register_entry k (Input name w) = []
register_entry k (Register name w reset next) = Kept_by name w k ∷ []
register_entry k (Wire e) = []

abbrev pub wire_entry : Net → ℕ → NetNode → List Entry
wire_entry net k (Input name w) = []
wire_entry net k (Register name w reset next) = []
wire_entry net k (Wire e) = Wire_of (width_in net (record { 0 = k })) k ∷ []

abbrev pub entries : Net → List Entry
entries net = map Port net.seats ++ (numbered register_entry 0 net.nodes ++ numbered (wire_entry net) 0 net.nodes)

-- the nets of the module are those of the entries
nets_ports : (ss : List Seat) → map port_net (map port_of ss) ≡ map entry_net (map Port ss)
nets_ports [] = refl
nets_ports (s ∷ ss) = ap (λ l. port_net (port_of s) ∷ l) (nets_ports ss)

nets_registers : (k : ℕ) (ns : List NetNode) → map decl_net (numbered register_decl k ns) ≡ map entry_net (numbered register_entry k ns)
nets_registers k [] = refl
nets_registers k (Input name w ∷ ns) = nets_registers (k + 1) ns
nets_registers k (Register name w reset next ∷ ns) = ap (λ l. entry_net (Kept_by name w k) ∷ l) (nets_registers (k + 1) ns)
nets_registers k (Wire e ∷ ns) = nets_registers (k + 1) ns

nets_wires : (net : Net) (k : ℕ) (ns : List NetNode) → map decl_net (numbered (wire_decl net) k ns) ≡ map entry_net (numbered (wire_entry net) k ns)
nets_wires net k [] = refl
nets_wires net k (Input name w ∷ ns) = nets_wires net (k + 1) ns
nets_wires net k (Register name w reset next ∷ ns) = nets_wires net (k + 1) ns
nets_wires net k (Wire e ∷ ns) = ap (λ l. entry_net (Wire_of (width_in net (record { 0 = k })) k) ∷ l) (nets_wires net (k + 1) ns)

pub nets_are : (net : Net) → form.nets (tree_of net) ≡ map entry_net (entries net)
nets_are net =
    ap (λ l. map port_net (ports net) ++ l) (map-append decl_net (numbered register_decl 0 net.nodes) (numbered (wire_decl net) 0 net.nodes)
    ∙ (ap (λ l. l ++ map decl_net (numbered (wire_decl net) 0 net.nodes)) (nets_registers 0 net.nodes) ∙ ap (λ l. map entry_net (numbered register_entry 0 net.nodes) ++ l) (nets_wires net 0 net.nodes)))
    ∙ (ap (λ l. l ++ (map entry_net (numbered register_entry 0 net.nodes) ++ map entry_net (numbered (wire_entry net) 0 net.nodes))) (nets_ports net.seats)
    ∙ sym (map-append entry_net (map Port net.seats) (numbered register_entry 0 net.nodes ++ numbered (wire_entry net) 0 net.nodes)
    ∙ ap (λ l. map entry_net (map Port net.seats) ++ l) (map-append entry_net (numbered register_entry 0 net.nodes) (numbered (wire_entry net) 0 net.nodes))))

-- a net's pin
abbrev net_pin : form.Net → Pin
net_pin n = record { name = n.name; width = n.width }

pins_ports : (ps : List _) → map port_pin ps ≡ map net_pin (map port_net ps)
pins_ports [] = refl
pins_ports (p ∷ ps) = ap (λ l. port_pin p ∷ l) (pins_ports ps)

pins_decls : (ds : List _) → map decl_pin ds ≡ map net_pin (map decl_net ds)
pins_decls [] = refl
pins_decls (d ∷ ds) = ap (λ l. decl_pin d ∷ l) (pins_decls ds)

pins_entries : (es : List Entry) → map net_pin (map entry_net es) ≡ map entry_pin es
pins_entries [] = refl
pins_entries (e ∷ es) = ap (λ l. entry_pin e ∷ l) (pins_entries es)

pub pins_are : (net : Net) → map port_pin (ports net) ++ map decl_pin (decls net) ≡ map entry_pin (entries net)
pins_are net =
    ap (λ l. l ++ map decl_pin (decls net)) (pins_ports (ports net))
    ∙ (ap (λ l. map net_pin (map port_net (ports net)) ++ l) (pins_decls (decls net))
    ∙ (sym (map-append net_pin (map port_net (ports net)) (map decl_net (decls net)))
    ∙ (ap (map net_pin) (nets_are net) ∙ pins_entries (entries net))))

-- the number of the first entry with the name
abbrev pub look : (Entry → ℕ) → List Entry → List ℕ → ℕ
look number es n = finding.look entry_name number es n

look_width : (es : List Entry) (n : List ℕ) → width_among (map entry_pin es) n ≡ look entry_width es n
look_width [] n = refl
look_width (e ∷ es) n = ap (λ x. if bytes_eq (entry_name e) n then entry_width e else x) (look_width es n)

pub widths_are : (net : Net) (n : List ℕ) → design.widths (module_of (tree_of net)) n ≡ look entry_width (entries net) n
widths_are net n = ap (λ ps. width_among ps n) (pins_are net) ∙ look_width (entries net) n
