-- What a script sees of a module.
use Rattle.std.specs.Prelude.{◌≡◌, ℕ, Ok, List, map, zip}
use Rattle.v_design.specs.Design.{Module}
use Rattle.v_design.specs.Run.{Run}
use Rattle.rb_model.specs.declared.block.Block.{Block}
use Rattle.sim_run.specs.Simulated.{IsModule, zeros}
use Rattle.drive_lang.specs.Steps.{Step}
use Rattle.drive_lang.specs.Scripts.{script_of}
use Rattle.drive_run.specs.Transcript.{failed_in, transcript}

-- the first bytes are a well-formed module, the second a script for the block, and the text tells what its steps saw of the module's
-- run from zeros over their vectors, of which so many checks failed
pub record IsSeenOf (b : Block) (verilog bytes text : List ℕ) (failed : ℕ) : Type 0 where
  pub module_ : Module
  pub is_module : IsModule verilog module_
  pub steps : List Step
  pub script : script_of b bytes ≡ Ok steps
  pub results : List (List ℕ)
  pub run : Run module_ zeros (map (λ s. s.vector) steps) results
  pub text_is : text ≡ transcript steps results
  pub failed_is : failed ≡ failed_in (zip steps results)
