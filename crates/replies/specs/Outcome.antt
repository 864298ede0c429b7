-- Which status and which texts belong to the words of a command line and the files that they name.
use Rattle.std.specs.Prelude.{◌≡◌, ◌⊎◌, ℕ, ◌<◌, ◌≤◌, Bool, true, false, cond, List, [], ◌∷◌, ◌++◌, codes, length, map, Option, None, Err, ⊤}
use Rattle.std.specs.List.{list_all}
use Rattle.rb_edge.specs.Count.{Rose, raised}
use Rattle.rb_edge.specs.Shelf.{Files, Holds, IsLonger}
use Rattle.rb_model.specs.declared.block.Block.{Block}
use Rattle.rb_model.specs.Agreement.{Agrees}
use Rattle.rb_model.specs.Run.{apb}
use Rattle.axi_model.specs.Axi.{axi}
use Rattle.rdl_base.specs.declared.fault.Fault.{Fault}
use Rattle.rdl_tree.specs.declared.item.Source.{Source}
use Rattle.rdl_verdict.specs.Verdict.{IsAxiVerdict, IsVerdict, accesses}
use Rattle.report_text.specs.Lines.{address_lines}
use Rattle.c_header.specs.Header.{header}
use Rattle.html_manual.specs.Page.{page}
use Rattle.rdl_encodings.specs.Encoded.{source_encodings}
use Rattle.rdl_notes.specs.Notes.{notes_of}
use Rattle.verdict_text.specs.Lines.{ok_line, rule_line, verdict_lines}
use Rattle.command_line.specs.Words.{Command, check, compile, map_of, header_of, manual_of, axi_of, sim, vcd, pins_of, run_of, drive_of, gen_of, waits_of, Asks, AsksNothing}
use Rattle.replies.specs.declared.status.Status.{Status}
use Rattle.replies.specs.declared.status.Status.TheVariants.{Done, Refused, Usage, ReadFault, TooLong, BadVerilog, BadStimulus, Protocol, BadVcd, BadScript, Unmet}
use Rattle.replies.specs.Text.{cannot_read, too_long, verilog_line, stimulus_line, protocol_line, script_line, IsVcdLine, usage}
use Rattle.replies.specs.Verdict.{IsDescribedWith, IsFirst}
use Rattle.sim_run.specs.Simulated.{IsSimulated, IsProblem}
use Rattle.wave_text.specs.Dumped.{IsWave}
use Rattle.vcd_syntax.specs.Reading.{Fails as DumpFails, IsTable}
use Rattle.vcd_syntax.specs.declared.error.VcdError.{VcdError}
use Rattle.report_text.specs.Printed.{printed_run}
use Rattle.rb_base.specs.declared.ports.Pin.{Pin}
use Rattle.machine_run.specs.Runs.{IsRunOf, IsBreak}
use Rattle.machine_run.specs.Runs as machine
use Rattle.command_line.specs.Source.{source_of, summary_of}
use Rattle.drive_lang.specs.declared.error.DriveError.{DriveError}
use Rattle.drive_lang.specs.Scripts.{script_of}
use Rattle.drive_run.specs.Modules.{IsSeenOf}
use Rattle.drive_run.specs.Playing.{IsTranscriptOf}
use Rattle.v_syntax.specs.Failing.{Fails}
use Rattle.v_syntax.specs.declared.error.VError.{VError}
use Rattle.rb_base.specs.declared.place.Place.{Place}
use Rattle.rdl_base.specs.declared.rule.Rule.{Rule}

-- what is written: a text on err, and one on out
pub record Texts : Type 0 where
  pub err : List ℕ
  pub out : List ℕ

-- a text on err alone
abbrev pub IsNotice : Texts → List ℕ → Type 0
IsNotice texts line = (texts.err ≡ line) × (texts.out ≡ [])

-- a read of this name failed between two states of a shelf
abbrev pub FailedRead : {S : Type 0} → (S → List ℕ → ℕ) → S → S → List ℕ → Type 0
FailedRead faults old new name = Rose (faults old name) (faults new name)

-- the most bytes that a source, a table of pin values or a script may have, and a module
abbrev pub source_limit : ℕ
source_limit = 8388608

abbrev pub verilog_limit : ℕ
verilog_limit = 67108864

-- and a dump
abbrev pub waves_limit : ℕ
waves_limit = 67108864

-- the files that a command names, in order, each with the most bytes that it may have
abbrev pub files_of : Command → List (List ℕ × ℕ)
files_of (compile waits top source) = (source, source_limit) ∷ []
files_of (check top sources) = map (λ source. (source, source_limit)) sources
files_of (map_of top source) = (source, source_limit) ∷ []
files_of (header_of top source) = (source, source_limit) ∷ []
files_of (manual_of top source) = (source, source_limit) ∷ []
files_of (axi_of top source) = (source, source_limit) ∷ []
files_of (sim verilog stimulus) = (verilog, verilog_limit) ∷ (stimulus, source_limit) ∷ []
files_of (vcd verilog stimulus) = (verilog, verilog_limit) ∷ (stimulus, source_limit) ∷ []
files_of (pins_of waves) = (waves, waves_limit) ∷ []
files_of (run_of waits top source stimulus) = (source, source_limit) ∷ (stimulus, source_limit) ∷ []
files_of (drive_of top source script) = (source, source_limit) ∷ (script, source_limit) ∷ []
files_of (gen_of count) = []

-- the file was read whole
pub record IsRead (contents : Option Files) (file : List ℕ) (limit : ℕ) (bytes : List ℕ) : Type 0 where
  pub held : Holds contents file bytes
  pub within : length bytes ≤ limit

-- each of the files was
abbrev pub AreRead : Option Files → List (List ℕ × ℕ) → List (List ℕ) → Type 0
AreRead contents [] [] = ⊤
AreRead contents (file ∷ files) (bytes ∷ more) = IsRead contents file.0 file.1 bytes × AreRead contents files more
AreRead contents _ _ = ⊥

-- some file has this, and those before it were read whole
abbrev pub StopsAt : Option Files → (List ℕ → ℕ → Type 0) → List (List ℕ × ℕ) → Type 0
StopsAt contents P [] = ⊥
StopsAt contents P (file ∷ files) = P file.0 file.1 ⊎ ((bytes : List ℕ) × IsRead contents file.0 file.1 bytes × StopsAt contents P files)

-- the source breaks no rule, and on out is a module of the block that it describes, with so many wait states
pub record IsCompiled (waits : ℕ) (top : Option (List ℕ)) (source : List ℕ) (texts : Texts) : Type 0 where
  pub tree : Source
  pub block : Block
  pub described : IsDescribedWith top source tree waits block
  pub agrees : Agrees texts.out (apb block)
  pub quiet : texts.err ≡ []

-- the source breaks no rule, and on out is the address table of the block that it describes
pub record IsMapped (top : Option (List ℕ)) (source : List ℕ) (texts : Texts) : Type 0 where
  pub tree : Source
  pub block : Block
  pub described : IsDescribedWith top source tree 0 block
  pub table : texts.out ≡ address_lines block
  pub quiet : texts.err ≡ []

-- the source breaks no rule, and on out is the C header of the block that it describes and of the enumerations by which its fields are
-- encoded
pub record IsHeaded (top : Option (List ℕ)) (source : List ℕ) (texts : Texts) : Type 0 where
  pub tree : Source
  pub block : Block
  pub described : IsDescribedWith top source tree 0 block
  pub text : texts.out ≡ header block (source_encodings top tree)
  pub quiet : texts.err ≡ []

-- the source breaks no rule, and on out is the manual page of the block that it describes, with what the source says of its parts and the
-- enumerations by which its fields are encoded
pub record IsDocumented (top : Option (List ℕ)) (source : List ℕ) (texts : Texts) : Type 0 where
  pub tree : Source
  pub block : Block
  pub described : IsDescribedWith top source tree 0 block
  pub text : texts.out ≡ page block (notes_of top tree) (source_encodings top tree)
  pub quiet : texts.err ≡ []

-- the source breaks no rule, each of its registers is accessed 32 bits at once, and on out is a module of the block that it describes
-- behind an AXI4-Lite slave port
pub record IsFronted (top : Option (List ℕ)) (source : List ℕ) (texts : Texts) : Type 0 where
  pub tree : Source
  pub block : Block
  pub described : IsDescribedWith top source tree 0 block
  pub whole : accesses top tree []
  pub agrees : Agrees texts.out (axi block)
  pub quiet : texts.err ≡ []

-- on err is the line of the first failure of a verdict
pub record IsTold (IsVerdictOf : List Fault → Type 0) (file source : List ℕ) (texts : Texts) : Type 0 where
  pub place : Place
  pub rule : Rule
  pub fails : IsFirst IsVerdictOf place rule
  pub told : IsNotice texts (rule_line file source place rule)

-- that of the first rule that the source breaks
abbrev pub IsRefused : Option (List ℕ) → (file source : List ℕ) → Texts → Type 0
IsRefused top file source texts = IsTold (IsVerdict top source) file source texts

-- and behind an AXI4-Lite slave port
abbrev pub IsUnfronted : Option (List ℕ) → (file source : List ℕ) → Texts → Type 0
IsUnfronted top file source texts = IsTold (IsAxiVerdict top source) file source texts

-- The verdicts of some sources, each by its own text alone.
abbrev pub AreVerdicts : Option (List ℕ) → List (List ℕ) → List (List Fault) → Type 0
AreVerdicts top [] [] = ⊤
AreVerdicts top (source ∷ sources) (list ∷ lists) = IsVerdict top source list × AreVerdicts top sources lists
AreVerdicts top _ _ = ⊥

abbrev pub has_none : List Fault → Bool
has_none [] = true
has_none (f ∷ fs) = false

-- the lines of all failures, and of all files without any
abbrev pub all_failures : (files sources : List (List ℕ)) → List (List Fault) → List ℕ
all_failures (file ∷ files) (source ∷ sources) (list ∷ lists) = verdict_lines file source list ++ all_failures files sources lists
all_failures _ _ _ = []

abbrev pub all_fine : (files : List (List ℕ)) → List (List Fault) → List ℕ
all_fine (file ∷ files) (list ∷ lists) = cond (has_none list) (ok_line file) [] ++ all_fine files lists
all_fine _ _ = []

-- on err are the failures of all sources, in the order of the words, and on out a line for each source that has none
pub record IsChecked (top : Option (List ℕ)) (files sources : List (List ℕ)) (status : Status) (texts : Texts) : Type 0 where
  pub lists : List (List Fault)
  pub verdicts : AreVerdicts top sources lists
  pub told : texts.err ≡ all_failures files sources lists
  pub fine : texts.out ≡ all_fine files lists
  pub ends : status ≡ cond (list_all has_none lists) Done Refused

-- on out is the run of a module over a table
pub record IsSimulation (verilog stimulus : List ℕ) (texts : Texts) : Type 0 where
  pub run : IsSimulated verilog stimulus texts.out
  pub quiet : texts.err ≡ []

-- on out is the dump of the run of a module over a table
pub record IsWaved (verilog stimulus : List ℕ) (texts : Texts) : Type 0 where
  pub wave : IsWave verilog stimulus texts.out
  pub quiet : texts.err ≡ []

-- on out is the table of a dump
pub record IsReadBack (text : List ℕ) (texts : Texts) : Type 0 where
  pub pins : List Pin
  pub rows : List (List ℕ)
  pub table : IsTable text pins rows
  pub printed : texts.out ≡ printed_run pins rows
  pub quiet : texts.err ≡ []

-- on err is the line of what is wrong with one
pub record IsBadVcd (file text : List ℕ) (texts : Texts) : Type 0 where
  pub error : VcdError
  pub line : List ℕ
  pub fails : DumpFails text error
  pub is : IsVcdLine file text error line
  pub told : IsNotice texts line

-- on err is the line of what is wrong with a module
pub record IsBadVerilog (file verilog : List ℕ) (texts : Texts) : Type 0 where
  pub error : VError
  pub fails : Fails verilog error
  pub told : IsNotice texts (verilog_line file verilog error)

-- on err is the line of what is wrong with a table for a module
pub record IsBadStimulus (verilog file stimulus : List ℕ) (texts : Texts) : Type 0 where
  pub problem : List ℕ
  pub fails : IsProblem verilog stimulus problem
  pub told : IsNotice texts (stimulus_line file problem)

-- on out is the run of a block's machine over a table, which a simulation of each module of the block prints too
pub record IsRunText (b : Block) (stimulus text : List ℕ) : Type 0 where
  pub run : IsRunOf b stimulus text
  pub simulated : (verilog : List ℕ) → Agrees verilog (apb b) → IsSimulated verilog stimulus text

-- the source breaks no rule, and on out is the run of its block's machine
pub record IsRan (waits : ℕ) (top : Option (List ℕ)) (source stimulus : List ℕ) (texts : Texts) : Type 0 where
  pub tree : Source
  pub block : Block
  pub described : IsDescribedWith top source tree waits block
  pub run : IsRunText block stimulus texts.out
  pub quiet : texts.err ≡ []

-- it breaks none, and on err is the line of what is wrong with a table for its block
pub record IsUnfit (waits : ℕ) (top : Option (List ℕ)) (source file stimulus : List ℕ) (texts : Texts) : Type 0 where
  pub tree : Source
  pub block : Block
  pub described : IsDescribedWith top source tree waits block
  pub problem : List ℕ
  pub fails : machine.IsProblem block stimulus problem
  pub told : IsNotice texts (stimulus_line file problem)

-- it breaks none, and on err is the line of the first row that breaks the bus protocol
pub record IsBroken (waits : ℕ) (top : Option (List ℕ)) (source file stimulus : List ℕ) (texts : Texts) : Type 0 where
  pub tree : Source
  pub block : Block
  pub described : IsDescribedWith top source tree waits block
  pub row : ℕ
  pub breaks : IsBreak block stimulus row
  pub told : IsNotice texts (protocol_line file row)

-- the text is what a script sees of a block's machine, of which so many checks failed, and what it sees of each module of the block
pub record IsDriveText (b : Block) (bytes text : List ℕ) (failed : ℕ) : Type 0 where
  pub seen : IsTranscriptOf b bytes text failed
  pub of_modules : (verilog : List ℕ) → Agrees verilog (apb b) → IsSeenOf b verilog bytes text failed

-- the source breaks no rule, and on out is what the script sees of its block's machine, of which so many checks failed
pub record IsDriven (top : Option (List ℕ)) (source bytes : List ℕ) (failed : ℕ) (texts : Texts) : Type 0 where
  pub tree : Source
  pub block : Block
  pub described : IsDescribedWith top source tree 0 block
  pub text : IsDriveText block bytes texts.out failed
  pub quiet : texts.err ≡ []

-- it breaks none, and on err is the line of the script's first error for its block
pub record IsBadScript (top : Option (List ℕ)) (source file bytes : List ℕ) (texts : Texts) : Type 0 where
  pub tree : Source
  pub block : Block
  pub described : IsDescribedWith top source tree 0 block
  pub error : DriveError
  pub fails : script_of block bytes ≡ Err error
  pub told : IsNotice texts (script_line file error)

-- the length of some module of the block, or the greatest count of 64 bits where the module is longer
pub record IsModuleLength (b : Block) (bytes : ℕ) : Type 0 where
  pub text : List ℕ
  pub agrees : Agrees text (apb b)
  pub counted : bytes ≡ raised 0 (length text)

-- on out is the source of so many registers, which breaks no rule, and on err its summary, with the length of a module of the
-- block that it describes
pub record IsGenerated (count : ℕ) (texts : Texts) : Type 0 where
  pub tree : Source
  pub block : Block
  pub bytes : ℕ
  pub described : IsDescribedWith None (source_of count) tree 0 block
  pub long : IsModuleLength block bytes
  pub generated : texts.out ≡ source_of count
  pub summed : texts.err ≡ summary_of count bytes

-- The status and the texts of a command whose files have these bytes.
abbrev pub Judges : Command → List (List ℕ) → Status → Texts → Type 0
Judges (compile waits top file) (source ∷ []) Done texts = IsCompiled (waits_of waits) top source texts
Judges (compile waits top file) (source ∷ []) Refused texts = IsRefused top file source texts
Judges (map_of top file) (source ∷ []) Done texts = IsMapped top source texts
Judges (map_of top file) (source ∷ []) Refused texts = IsRefused top file source texts
Judges (header_of top file) (source ∷ []) Done texts = IsHeaded top source texts
Judges (header_of top file) (source ∷ []) Refused texts = IsRefused top file source texts
Judges (manual_of top file) (source ∷ []) Done texts = IsDocumented top source texts
Judges (manual_of top file) (source ∷ []) Refused texts = IsRefused top file source texts
Judges (axi_of top file) (source ∷ []) Done texts = IsFronted top source texts
Judges (axi_of top file) (source ∷ []) Refused texts = IsUnfronted top file source texts
Judges (check top files) sources status texts = IsChecked top files sources status texts
Judges (sim file table) (verilog ∷ stimulus ∷ []) Done texts = IsSimulation verilog stimulus texts
Judges (sim file table) (verilog ∷ stimulus ∷ []) BadVerilog texts = IsBadVerilog file verilog texts
Judges (sim file table) (verilog ∷ stimulus ∷ []) BadStimulus texts = IsBadStimulus verilog table stimulus texts
Judges (vcd file table) (verilog ∷ stimulus ∷ []) Done texts = IsWaved verilog stimulus texts
Judges (vcd file table) (verilog ∷ stimulus ∷ []) BadVerilog texts = IsBadVerilog file verilog texts
Judges (vcd file table) (verilog ∷ stimulus ∷ []) BadStimulus texts = IsBadStimulus verilog table stimulus texts
Judges (pins_of file) (text ∷ []) Done texts = IsReadBack text texts
Judges (pins_of file) (text ∷ []) BadVcd texts = IsBadVcd file text texts
Judges (run_of waits top file table) (source ∷ stimulus ∷ []) Done texts = IsRan (waits_of waits) top source stimulus texts
Judges (run_of waits top file table) (source ∷ stimulus ∷ []) Refused texts = IsRefused top file source texts
Judges (run_of waits top file table) (source ∷ stimulus ∷ []) BadStimulus texts = IsUnfit (waits_of waits) top source table stimulus texts
Judges (run_of waits top file table) (source ∷ stimulus ∷ []) Protocol texts = IsBroken (waits_of waits) top source table stimulus texts
Judges (drive_of top file script) (source ∷ bytes ∷ []) Done texts = IsDriven top source bytes 0 texts
Judges (drive_of top file script) (source ∷ bytes ∷ []) Unmet texts = (failed : ℕ) × (0 < failed) × IsDriven top source bytes failed texts
Judges (drive_of top file script) (source ∷ bytes ∷ []) BadScript texts = IsBadScript top source script bytes texts
Judges (drive_of top file script) (source ∷ bytes ∷ []) Refused texts = IsRefused top file source texts
Judges (gen_of count) [] Done texts = IsGenerated count texts
Judges (gen_of count) [] Refused texts = IsRefused None (codes "gen") (source_of count) texts
Judges _ _ _ _ = ⊥

-- The status and the texts of a command. `failed name` says that a read of that name failed in this call.
abbrev pub Answers : Option Files → (List ℕ → Type 0) → Command → Status → Texts → Type 0
Answers contents failed command ReadFault texts = StopsAt contents (λ file limit. failed file × IsNotice texts (cannot_read file)) (files_of command)
Answers contents failed command TooLong texts = StopsAt contents (λ file limit. IsLonger contents file limit × IsNotice texts (too_long file limit)) (files_of command)
Answers contents failed command status texts = (sources : List (List ℕ)) × AreRead contents (files_of command) sources × Judges command sources status texts

-- The status and the texts for the words. Want of memory and failed writes are no part of it.
abbrev pub Outcome : List (List ℕ) → Option Files → (List ℕ → Type 0) → Status → Texts → Type 0
Outcome words contents failed status texts =
    ((command : Command) × Asks words command × Answers contents failed command status texts) ⊎ (AsksNothing words × (status ≡ Usage) × IsNotice texts usage)
