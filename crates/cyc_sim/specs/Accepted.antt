-- Which modules are simulated.
use Rattle.std.specs.Prelude.{◌≡◌, ℕ, List}
use Rattle.v_design.specs.Design.{Module, module_of}
use Rattle.v_design.specs.Tree.{Tree, IsTree}
use Rattle.v_design.specs.WellFormed.{IsWellFormed}

-- a module is that of bytes that are a well-formed module tree
pub record IsAccepted (m : Module) : Type 0 where
  pub bytes : List ℕ
  pub tree : Tree
  pub spelled : IsTree bytes tree
  pub formed : IsWellFormed tree
  pub is : m ≡ module_of tree
