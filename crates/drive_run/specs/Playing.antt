-- What a script sees of a block's machine.
use Rattle.std.specs.Prelude.{◌≡◌, ℕ, ◌+◌, if◌then◌else◌, List, Ok, length, map, zip}
use Rattle.v_design.specs.Fits.{AllFit}
use Rattle.rb_model.specs.declared.block.Block.{Block}
use Rattle.rb_model.specs.Ports.{input_pins}
use Rattle.machine_run.specs.Runs.{output_pins, zeros}
use Rattle.drive_lang.specs.Scripts.{script_of}
use Rattle.rb_model.specs.Run.{MachineRun}
use Rattle.drive_lang.specs.Steps.{Ask, Step}
use Rattle.drive_run.specs.Transcript.{failed_in, is_check, is_failed, transcript}
use Rattle.drive_run.specs.declared.playing.Tally.{Tally}

abbrev pub output_count : Block → ℕ
output_count b = length (output_pins b)

-- one ask more
abbrev pub tallied : Ask → (outs : List ℕ) → Tally → Tally
tallied ask outs t = record { checks = t.checks + (if is_check ask then 1 else 0); failed = t.failed + (if is_failed ask outs then 1 else 0) }

-- the text tells what the steps saw of the run of the block's machine from zeros over their vectors, and so many checks failed
pub record IsTranscript (b : Block) (steps : List Step) (text : List ℕ) (failed : ℕ) : Type 0 where
  pub results : List (List ℕ)
  pub run : MachineRun b zeros (map (λ s. s.vector) steps) results
  pub text_is : text ≡ transcript steps results
  pub failed_is : failed ≡ failed_in (zip steps results)

-- the bytes are a script of these steps, whose vectors fit the block's pins, and this is what they saw
pub record IsTranscriptOf (b : Block) (bytes text : List ℕ) (failed : ℕ) : Type 0 where
  pub steps : List Step
  pub script : script_of b bytes ≡ Ok steps
  pub fits : AllFit (input_pins b) (map (λ s. s.vector) steps)
  pub seen : IsTranscript b steps text failed
