-- When a text is a module of a block behind a bus.
use Rattle.std.specs.Prelude.{◌≡◌, ◌↔◌, List, ℕ, ◌++◌, map, Contains}
use Rattle.rb_base.specs.declared.ports.Pin.{Pin}
use Rattle.v_design.specs.Tree.{Tree, IsTree}
use Rattle.v_design.specs.WellFormed.{IsWellFormed}
use Rattle.v_design.specs.Design.{module_of, registers}
use Rattle.v_design.specs.Expr.{Values}
use Rattle.v_design.specs.Run.{Run}
use Rattle.v_design.specs.Fits.{AllFit}
use Rattle.v_design.specs.Header.{header}
use Rattle.rb_model.specs.Front.{Front, Contain, FrontRun, IsWithin, front_inputs, pins_at, register_pins}

-- The text is one module of the block behind its bus: of its name, ports and registers, and from any start, for any vectors that
-- keep the protocol, with the outputs of the block's machine.
pub record Agrees (text : List ℕ) (F : Front) : Type 0 where
  pub tree : Tree
  pub is_tree : IsTree text tree
  pub well_formed : IsWellFormed tree
  pub body : List ℕ
  pub headed : text ≡ header F.name F.ports ++ body
  pub named : tree.name ≡ F.name
  pub ported : tree.ports ≡ F.ports
  pub kept_only : (p : Pin) → Contains (registers (module_of tree)) p ↔ Contains (register_pins F) p
  pub runs : (k : F.Kept) (contents : Values) (vectors outputs : List (List ℕ)) → IsWithin F k → Contain F k contents
      → AllFit (front_inputs F) vectors → F.Keeps (map (pins_at F) vectors)
      → FrontRun F k vectors outputs → Run (module_of tree) contents vectors outputs
