-- When a text is a module of a netlist.
use Rattle.std.specs.List.{list_all}
use Rattle.std.specs.Prelude.{◌≡◌, ◌↔◌, ◌<◌, ℕ, List, ◌++◌, IsTrue, length, is_some}
use Rattle.v_design.specs.Tree.{Tree, IsTree}
use Rattle.v_design.specs.WellFormed.{IsWellFormed}
use Rattle.v_design.specs.Expr.{Values}
use Rattle.v_design.specs.Design.{module_of}
use Rattle.v_design.specs.Design as design
use Rattle.v_design.specs.Run.{Run}
use Rattle.rtl_net.specs.Net.{Net, undriven}
use Rattle.rtl_net.specs.Run.{NetRun, registers}
use Rattle.v_design.specs.Header.{header}
use Rattle.v_printer.specs.Module.{ports}

-- each register is driven, and there are ports, each of them taken
pub record IsWhole (net : Net) : Type 0 where
  pub driven : undriven net.nodes ≡ 0
  pub some : 0 < length net.seats
  pub taken : IsTrue (list_all (λ s. is_some s.taken) net.seats)

-- The text is one module of the netlist: of its name, ports and registers, and for any contents and any vectors with the
-- outputs of the netlist.
pub record IsTextOf (net : Net) (text : List ℕ) : Type 0 where
  pub tree : Tree
  pub is_tree : IsTree text tree
  pub well_formed : IsWellFormed tree
  pub body : List ℕ
  pub headed : text ≡ header net.name (ports net) ++ body
  pub named : tree.name ≡ net.name
  pub ported : tree.ports ≡ ports net
  pub kept : design.registers (module_of tree) ≡ registers net
  pub runs : (contents : Values) (vectors outputs : List (List ℕ)) → NetRun net contents vectors outputs ↔ Run (module_of tree) contents vectors outputs
