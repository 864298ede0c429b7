-- Simulations that go on from what their registers contain.
use Rattle.std.specs.Prelude.{◌≡◌}
use Rattle.v_design.specs.Expr.{Values}
use Rattle.v_design.specs.Design.{Module, registers}
use Rattle.v_design.specs.Run.{values_at}
use Rattle.cyc_sim.specs.Simulation.{IsSimOf, held}
use Rattle.cyc_sim.specs.declared.sim.Sim.{Sim}

-- a simulation is of a module, and what its registers contain is known by their names
pub record Goes (m : Module) (s : Sim) : Type 0 where
  pub is_sim : IsSimOf m s
  pub contents : Values
  pub kept : values_at contents (registers m) ≡ held s
