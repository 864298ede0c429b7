-- When a run does what its words ask for.
use Rattle.std.specs.Prelude.{◌≡◌, ◌⊎◌, ℕ, ◌≤◌, List, [], ◌∷◌, length, All, Option, None, Some, Ok, ⊤}
use Rattle.rb_base.specs.declared.ports.Pin.{Pin}
use Rattle.rb_edge.specs.Count.{Rose}
use Rattle.rb_edge.specs.Shelf.{Files}
use Rattle.sim_run.specs.Simulated.{IsFitTable}
use Rattle.vcd_syntax.specs.Reading.{IsTable}
use Rattle.rb_model.specs.declared.block.Block.{Block}
use Rattle.rdl_tree.specs.declared.item.Source.{Source}
use Rattle.machine_run.specs.Runs.{IsFitFor}
use Rattle.drive_lang.specs.Steps.{Step}
use Rattle.drive_lang.specs.Scripts.{script_of}
use Rattle.command_line.specs.Source.{source_of}
use Rattle.rdl_parser.specs.Verdicts.{Reads}
use Rattle.rdl_verdict.specs.Verdict.{accesses}
use Rattle.replies.specs.Verdict.{BreaksNone, IsDescribedWith}
use Rattle.replies.specs.declared.status.Status.{Status}
use Rattle.replies.specs.declared.status.Status.TheVariants.{Done, NoMemory, Unmet}
use Rattle.command_line.specs.Words.{Command, check, compile, map_of, header_of, manual_of, axi_of, sim, vcd, pins_of, run_of, drive_of, gen_of, waits_of, Asks}
use Rattle.replies.specs.Outcome.{files_of}
use Rattle.replies.specs.Ends.{Passage}

-- each file that the command names is held and within its limit, and no read of it failed
abbrev pub AreAtHand : Files → (List ℕ → Type 0) → List (List ℕ × ℕ) → Type 0
AreAtHand files failed [] = ⊤
AreAtHand files failed (file ∷ more) = ((bytes : List ℕ) × (files file.0 ≡ Some bytes) × (length bytes ≤ file.1)) × ¬ failed file.0 × AreAtHand files failed more

-- the file is a source that breaks no rule
abbrev pub IsFit : Option (List ℕ) → Files → List ℕ → Type 0
IsFit top files file = (source : List ℕ) → files file ≡ Some source → BreaksNone top source

-- for a bus of 32 data bits, also each of its registers is accessed 32 bits at once
abbrev pub IsFitForAxi : Option (List ℕ) → Files → List ℕ → Type 0
IsFitForAxi top files file = (source : List ℕ) → files file ≡ Some source → BreaksNone top source × ((tree : Source) → Reads source tree.items.now → accesses top tree [])

-- The source breaks no rule, the table fits the block that it describes, and its rows keep the bus protocol.
pub record FitsBlock (waits : ℕ) (top : Option (List ℕ)) (source stimulus : List ℕ) : Type 0 where
  pub tree : Source
  pub block : Block
  pub described : IsDescribedWith top source tree waits block
  pub fits : IsFitFor block stimulus

-- The source breaks no rule, and the bytes are a script for the block that it describes.
pub record IsScriptFor (top : Option (List ℕ)) (source bytes : List ℕ) : Type 0 where
  pub clean : BreaksNone top source
  pub script : (tree : Source) (block : Block) → IsDescribedWith top source tree 0 block → (steps : List Step) × (script_of block bytes ≡ Ok steps)

-- The command's files are what it asks for: sources that break no rule, a module or a source and a table or a script for it, a dump
-- that has a table, or the source that the program writes.
abbrev pub AreFit : Command → Files → Type 0
AreFit (compile waits top file) files = IsFit top files file
AreFit (check top names) files = All (IsFit top files) names
AreFit (map_of top file) files = IsFit top files file
AreFit (header_of top file) files = IsFit top files file
AreFit (manual_of top file) files = IsFit top files file
AreFit (axi_of top file) files = IsFitForAxi top files file
AreFit (sim file table) files = (verilog stimulus : List ℕ) → files file ≡ Some verilog → files table ≡ Some stimulus → IsFitTable verilog stimulus
AreFit (vcd file table) files = (verilog stimulus : List ℕ) → files file ≡ Some verilog → files table ≡ Some stimulus → IsFitTable verilog stimulus
AreFit (pins_of file) files = (text : List ℕ) → files file ≡ Some text → (pins : List Pin) × (rows : List (List ℕ)) × IsTable text pins rows
AreFit (run_of waits top file table) files = (source stimulus : List ℕ) → files file ≡ Some source → files table ≡ Some stimulus → FitsBlock (waits_of waits) top source stimulus
AreFit (drive_of top file script) files = (source bytes : List ℕ) → files file ≡ Some source → files script ≡ Some bytes → IsScriptFor top source bytes
AreFit (gen_of count) files = BreaksNone None (source_of count)

-- no write to the sink failed
abbrev pub IsUnharmed : Passage → Type 0
IsUnharmed sink = ¬ Rose sink.before sink.after

-- what the words ask for can be done
pub record CanBeDone (words : List (List ℕ)) (files : Files) (failed : List ℕ → Type 0) (err out : Passage) (command : Command) : Type 0 where
  pub asked : Asks words command
  pub at_hand : AreAtHand files failed (files_of command)
  pub fit : AreFit command files
  pub err_unharmed : IsUnharmed err
  pub out_unharmed : IsUnharmed out

-- how a command ends that is done: checks of a script may have failed
abbrev pub IsEnd : Command → Status → Type 0
IsEnd (drive_of top file script) status = (status ≡ Done) ⊎ (status ≡ Unmet)
IsEnd _ status = status ≡ Done

-- where it can be done it is, unless memory runs out
abbrev pub IsComplete : List (List ℕ) → Option Files → (List ℕ → Type 0) → Passage → Passage → Status → Type 0
IsComplete words None failed err out status = ⊤
IsComplete words (Some files) failed err out status = (command : Command) → CanBeDone words files failed err out command → IsEnd command status ⊎ (status ≡ NoMemory)
