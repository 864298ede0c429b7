-- The rows of the outcome, at a status that is known by an equation.
use Rattle.std.proofs.Common.{◌≡◌, ◌≢◌, ◌⊎◌, ⊎_elim, ℕ, zero, suc, ◌==◌, ◌<◌, Bool, true, false, cond, List, [], ◌∷◌, append-nil, codes, take, Option, None, Err, refl, sym, ◌∙◌, ap, subst, arith}
use Rattle.std.specs.List.{list_all}
use Rattle.std.proofs.lemmas.Bool.{eqb-true}
use Rattle.rdl_base.specs.declared.fault.Fault.{Fault}
use Rattle.rdl_verdict.specs.Answers as verdict
use Rattle.verdict_text.specs.Lines.{rule_line, verdict_lines}
use Rattle.rb_edge.specs.Shelf.{Files, IsLonger}
use Rattle.sim_run.specs.Simulated.{IsSimulated, IsProblem}
use Rattle.v_syntax.specs.Failing.{Fails}
use Rattle.v_syntax.specs.declared.error.VError.{VError}
use Rattle.replies.specs.declared.status.Status.{Status}
use Rattle.replies.specs.declared.status.Status.TheVariants.{Done, Refused, ReadFault, WriteFault, NoMemory, TooLong, BadVerilog, BadStimulus, Protocol, BadVcd, BadScript, Unmet}
use Rattle.vcd_syntax.specs.Reading.{Fails as DumpFails, IsTable}
use Rattle.vcd_syntax.specs.declared.error.VcdError.{VcdError}
use Rattle.report_text.specs.Printed.{printed_run}
use Rattle.rb_base.specs.declared.ports.Pin.{Pin}
use Rattle.replies.specs.Text.{IsVcdLine, cannot_read, too_long, verilog_line, stimulus_line, protocol_line, script_line}
use Rattle.command_line.specs.Words.{Command, check, compile, map_of, header_of, manual_of, axi_of, sim, vcd, pins_of, run_of, drive_of, gen_of, waits_of}
use Rattle.rb_model.specs.declared.block.Block.{Block}
use Rattle.rdl_tree.specs.declared.item.Source.{Source}
use Rattle.replies.specs.Verdict.{IsDescribedWith, IsVerdict}
use Rattle.machine_run.specs.Runs.{IsBreak}
use Rattle.machine_run.specs.Runs as machine
use Rattle.command_line.specs.Source.{source_of}
use Rattle.replies.specs.RunAnswer.{IsRunAnswer}
use Rattle.drive_lang.specs.declared.error.DriveError.{DriveError}
use Rattle.drive_lang.specs.Scripts.{script_of}
use Rattle.replies.specs.DriveAnswer.{IsDriveAnswer, status_of_checks}
use Rattle.replies.specs.Outcome.{IsDocumented, IsDriveText, IsHeaded, IsMapped, IsRefused, IsRunText, IsTold, IsUnfronted, AreRead, StopsAt, Texts, IsNotice, Judges, Answers, Outcome, files_of, has_none}
use Rattle.replies.specs.Ends.{Passage, TookAll, IsCutShort, Ends}

-- the first failure of a verdict, told alone
pub told_first : (IsVerdictOf : List Fault → Type 0) (file source : List ℕ) (list : List Fault) (texts : Texts)
    → IsVerdictOf list → list ≢ [] → IsNotice texts (verdict_lines file source (take 1 list)) → IsTold IsVerdictOf file source texts
told_first IsVerdictOf file source [] texts is some notice = absurd (some refl)
told_first IsVerdictOf file source (f ∷ fs) texts is some notice = record {
  place = f.place;
  rule = f.rule;
  fails = record { others = fs; verdict = is };
  told = (notice.0 ∙ append-nil (rule_line file source f.place f.rule), notice.1);
}

pub first_told : (top : Option (List ℕ)) (file source : List ℕ) (list : List Fault) (texts : Texts)
    → verdict.IsRefused top source list → IsNotice texts (verdict_lines file source (take 1 list)) → IsRefused top file source texts
first_told top file source list texts refused notice = told_first (IsVerdict top source) file source list texts refused.verdict refused.some notice

-- the one file of `compile` breaks a rule
pub Judges-uncompiled : (waits : Option ℕ) (top : Option (List ℕ)) (file source : List ℕ) (status : Status) (texts : Texts)
    → status ≡ Refused → IsRefused top file source texts → Judges (compile waits top file) (source ∷ []) status texts
Judges-uncompiled waits top file source status texts is refused =
    let P : Status → Type 0 = λ s. Judges (compile waits top file) (source ∷ []) s texts in
    subst P (sym is) refused

-- the table of the block that the one file of `map` describes
pub Judges-mapped : (top : Option (List ℕ)) (file source : List ℕ) (status : Status) (texts : Texts)
    → status ≡ Done → IsMapped top source texts → Judges (map_of top file) (source ∷ []) status texts
Judges-mapped top file source status texts is mapped =
    let P : Status → Type 0 = λ s. Judges (map_of top file) (source ∷ []) s texts in
    subst P (sym is) mapped

pub Judges-unmapped : (top : Option (List ℕ)) (file source : List ℕ) (status : Status) (texts : Texts)
    → status ≡ Refused → IsRefused top file source texts → Judges (map_of top file) (source ∷ []) status texts
Judges-unmapped top file source status texts is refused =
    let P : Status → Type 0 = λ s. Judges (map_of top file) (source ∷ []) s texts in
    subst P (sym is) refused

-- the header of the block that the one file of `header` describes
pub Judges-headed : (top : Option (List ℕ)) (file source : List ℕ) (status : Status) (texts : Texts)
    → status ≡ Done → IsHeaded top source texts → Judges (header_of top file) (source ∷ []) status texts
Judges-headed top file source status texts is headed =
    let P : Status → Type 0 = λ s. Judges (header_of top file) (source ∷ []) s texts in
    subst P (sym is) headed

pub Judges-unheaded : (top : Option (List ℕ)) (file source : List ℕ) (status : Status) (texts : Texts)
    → status ≡ Refused → IsRefused top file source texts → Judges (header_of top file) (source ∷ []) status texts
Judges-unheaded top file source status texts is refused =
    let P : Status → Type 0 = λ s. Judges (header_of top file) (source ∷ []) s texts in
    subst P (sym is) refused

-- the manual page of the block that the one file of `manual` describes
pub Judges-documented : (top : Option (List ℕ)) (file source : List ℕ) (status : Status) (texts : Texts)
    → status ≡ Done → IsDocumented top source texts → Judges (manual_of top file) (source ∷ []) status texts
Judges-documented top file source status texts is documented =
    let P : Status → Type 0 = λ s. Judges (manual_of top file) (source ∷ []) s texts in
    subst P (sym is) documented

pub Judges-undocumented : (top : Option (List ℕ)) (file source : List ℕ) (status : Status) (texts : Texts)
    → status ≡ Refused → IsRefused top file source texts → Judges (manual_of top file) (source ∷ []) status texts
Judges-undocumented top file source status texts is refused =
    let P : Status → Type 0 = λ s. Judges (manual_of top file) (source ∷ []) s texts in
    subst P (sym is) refused

-- the one file of `axi` breaks a rule
pub Judges-unfronted : (top : Option (List ℕ)) (file source : List ℕ) (status : Status) (texts : Texts)
    → status ≡ Refused → IsUnfronted top file source texts → Judges (axi_of top file) (source ∷ []) status texts
Judges-unfronted top file source status texts is refused =
    let P : Status → Type 0 = λ s. Judges (axi_of top file) (source ∷ []) s texts in
    subst P (sym is) refused

-- what the two files of `sim` give
pub Judges-run : (file table verilog stimulus : List ℕ) (status : Status) (texts : Texts)
    → status ≡ Done → IsSimulated verilog stimulus texts.out → texts.err ≡ [] → Judges (sim file table) (verilog ∷ stimulus ∷ []) status texts
Judges-run file table verilog stimulus status texts is run quiet =
    let P : Status → Type 0 = λ s. Judges (sim file table) (verilog ∷ stimulus ∷ []) s texts in
    subst P (sym is) (record { run = run; quiet = quiet })

pub Judges-bad_verilog : (file table verilog stimulus : List ℕ) (error : VError) (status : Status) (texts : Texts)
    → status ≡ BadVerilog → Fails verilog error → IsNotice texts (verilog_line file verilog error) → Judges (sim file table) (verilog ∷ stimulus ∷ []) status texts
Judges-bad_verilog file table verilog stimulus error status texts is fails notice =
    let P : Status → Type 0 = λ s. Judges (sim file table) (verilog ∷ stimulus ∷ []) s texts in
    subst P (sym is) (record { error = error; fails = fails; told = notice })

pub Judges-bad_stimulus : (file table verilog stimulus problem : List ℕ) (status : Status) (texts : Texts)
    → status ≡ BadStimulus → IsProblem verilog stimulus problem → IsNotice texts (stimulus_line table problem) → Judges (sim file table) (verilog ∷ stimulus ∷ []) status texts
Judges-bad_stimulus file table verilog stimulus problem status texts is fails notice =
    let P : Status → Type 0 = λ s. Judges (sim file table) (verilog ∷ stimulus ∷ []) s texts in
    subst P (sym is) (record { problem = problem; fails = fails; told = notice })

-- what the machine of a block gives, where the first file of `run` describes the block
pub Judges-ran : (waits : Option ℕ) (top : Option (List ℕ)) (file table source stimulus : List ℕ) (tree : Source) (block : Block) (status : Status) (texts : Texts)
    → IsDescribedWith top source tree (waits_of waits) block → IsRunAnswer block table stimulus status texts → Judges (run_of waits top file table) (source ∷ stimulus ∷ []) status texts
Judges-ran waits top file table source stimulus tree block Done texts d a = record { tree = tree; block = block; described = d; run = a.0; quiet = a.1 }
Judges-ran waits top file table source stimulus tree block BadStimulus texts d a = record { tree = tree; block = block; described = d; problem = a.0; fails = a.1; told = a.2 }
Judges-ran waits top file table source stimulus tree block Protocol texts d a = record { tree = tree; block = block; described = d; row = a.0; breaks = a.1; told = a.2 }
Judges-ran waits top file table source stimulus tree block _ texts d a = absurd a

pub Judges-not_run : (waits : Option ℕ) (top : Option (List ℕ)) (file table source stimulus : List ℕ) (status : Status) (texts : Texts)
    → status ≡ Refused → IsRefused top file source texts → Judges (run_of waits top file table) (source ∷ stimulus ∷ []) status texts
Judges-not_run waits top file table source stimulus status texts is refused =
    let P : Status → Type 0 = λ s. Judges (run_of waits top file table) (source ∷ stimulus ∷ []) s texts in
    subst P (sym is) refused

-- the run of a machine, what is wrong with its table, and a row that breaks the protocol
pub IsRunAnswer-run : (b : Block) (table stimulus : List ℕ) (status : Status) (texts : Texts)
    → status ≡ Done → IsRunText b stimulus texts.out → texts.err ≡ [] → IsRunAnswer b table stimulus status texts
IsRunAnswer-run b table stimulus status texts is run quiet =
    let P : Status → Type 0 = λ s. IsRunAnswer b table stimulus s texts in subst P (sym is) (run, quiet)

pub IsRunAnswer-unfit : (b : Block) (table stimulus problem : List ℕ) (status : Status) (texts : Texts)
    → status ≡ BadStimulus → machine.IsProblem b stimulus problem → IsNotice texts (stimulus_line table problem) → IsRunAnswer b table stimulus status texts
IsRunAnswer-unfit b table stimulus problem status texts is fails told =
    let P : Status → Type 0 = λ s. IsRunAnswer b table stimulus s texts in subst P (sym is) (problem, fails, told)

pub IsRunAnswer-broken : (b : Block) (table stimulus : List ℕ) (row : ℕ) (status : Status) (texts : Texts)
    → status ≡ Protocol → IsBreak b stimulus row → IsNotice texts (protocol_line table row) → IsRunAnswer b table stimulus status texts
IsRunAnswer-broken b table stimulus row status texts is breaks told =
    let P : Status → Type 0 = λ s. IsRunAnswer b table stimulus s texts in subst P (sym is) (row, breaks, told)

-- what a script sees of the machine of a block, where the first file of `drive` describes the block
pub Judges-driven : (top : Option (List ℕ)) (file script source bytes : List ℕ) (tree : Source) (block : Block) (status : Status) (texts : Texts)
    → IsDescribedWith top source tree 0 block → IsDriveAnswer block script bytes status texts → Judges (drive_of top file script) (source ∷ bytes ∷ []) status texts
Judges-driven top file script source bytes tree block Done texts d a = record { tree = tree; block = block; described = d; text = a.0; quiet = a.1 }
Judges-driven top file script source bytes tree block Unmet texts d a = (a.0, a.1, record { tree = tree; block = block; described = d; text = a.2; quiet = a.3 })
Judges-driven top file script source bytes tree block BadScript texts d a = record { tree = tree; block = block; described = d; error = a.0; fails = a.1; told = a.2 }
Judges-driven top file script source bytes tree block _ texts d a = absurd a

pub Judges-not_driven : (top : Option (List ℕ)) (file script source bytes : List ℕ) (status : Status) (texts : Texts)
    → status ≡ Refused → IsRefused top file source texts → Judges (drive_of top file script) (source ∷ bytes ∷ []) status texts
Judges-not_driven top file script source bytes status texts is refused =
    let P : Status → Type 0 = λ s. Judges (drive_of top file script) (source ∷ bytes ∷ []) s texts in
    subst P (sym is) refused

-- what a script saw, and its first error
pub IsDriveAnswer-seen : (b : Block) (file bytes : List ℕ) (failed : ℕ) (status : Status) (texts : Texts)
    → status ≡ status_of_checks failed → IsDriveText b bytes texts.out failed → texts.err ≡ [] → IsDriveAnswer b file bytes status texts
IsDriveAnswer-seen b file bytes failed status texts is text quiet =
    let P : Status → Type 0 = λ s. IsDriveAnswer b file bytes s texts in subst P (sym is) (by (failed == 0) refl)
  where
    by : (c : Bool) → (failed == 0) ≡ c → IsDriveAnswer b file bytes (cond c Done Unmet) texts
    by true e = (subst (IsDriveText b bytes texts.out) (eqb-true failed 0 e) text, quiet)
    by false e = (failed, some failed e, text, quiet)
      where
        some : (n : ℕ) → (n == 0) ≡ false → 0 < n
        some zero e = cc e
        some (suc n) e = omega arith

pub IsDriveAnswer-bad : (b : Block) (file bytes : List ℕ) (error : DriveError) (status : Status) (texts : Texts)
    → status ≡ BadScript → script_of b bytes ≡ Err error → IsNotice texts (script_line file error) → IsDriveAnswer b file bytes status texts
IsDriveAnswer-bad b file bytes error status texts is fails told =
    let P : Status → Type 0 = λ s. IsDriveAnswer b file bytes s texts in subst P (sym is) (error, fails, told)

-- what the file of `pins` is, and what is wrong with it
pub Judges-read_back : (file text : List ℕ) (pins : List Pin) (rows : List (List ℕ)) (status : Status) (texts : Texts)
    → status ≡ Done → IsTable text pins rows → texts.out ≡ printed_run pins rows → texts.err ≡ [] → Judges (pins_of file) (text ∷ []) status texts
Judges-read_back file text pins rows status texts is table printed quiet =
    let P : Status → Type 0 = λ s. Judges (pins_of file) (text ∷ []) s texts in
    subst P (sym is) (record { pins = pins; rows = rows; table = table; printed = printed; quiet = quiet })

pub Judges-bad_vcd : (file text : List ℕ) (error : VcdError) (line : List ℕ) (status : Status) (texts : Texts)
    → status ≡ BadVcd → DumpFails text error → IsVcdLine file text error line → IsNotice texts line → Judges (pins_of file) (text ∷ []) status texts
Judges-bad_vcd file text error line status texts is fails named told =
    let P : Status → Type 0 = λ s. Judges (pins_of file) (text ∷ []) s texts in
    subst P (sym is) (record { error = error; line = line; fails = fails; is = named; told = told })

-- the source that `gen` makes breaks a rule
pub Judges-not_generated : (count : ℕ) (status : Status) (texts : Texts)
    → status ≡ Refused → IsRefused None (codes "gen") (source_of count) texts → Judges (gen_of count) [] status texts
Judges-not_generated count status texts is refused =
    let P : Status → Type 0 = λ s. Judges (gen_of count) [] s texts in subst P (sym is) refused

-- the statuses that files can be judged with
abbrev is_judged : Status → Bool
is_judged Done = true
is_judged Refused = true
is_judged BadVerilog = true
is_judged BadStimulus = true
is_judged Protocol = true
is_judged BadVcd = true
is_judged BadScript = true
is_judged Unmet = true
is_judged _ = false

check_judged : (t : Bool) (status : Status) → status ≡ cond t Done Refused → is_judged status ≡ true
check_judged true status e = ap is_judged e
check_judged false status e = ap is_judged e

only_judged : (command : Command) (sources : List (List ℕ)) (status : Status) (texts : Texts) → Judges command sources status texts → is_judged status ≡ true
only_judged (compile waits top file) [] status texts j = absurd j
only_judged (compile waits top file) (a ∷ []) Done texts j = refl
only_judged (compile waits top file) (a ∷ []) Refused texts j = refl
only_judged (compile waits top file) (a ∷ []) _ texts j = absurd j
only_judged (compile waits top file) (a ∷ b ∷ more) status texts j = absurd j
only_judged (map_of top file) [] status texts j = absurd j
only_judged (map_of top file) (a ∷ []) Done texts j = refl
only_judged (map_of top file) (a ∷ []) Refused texts j = refl
only_judged (map_of top file) (a ∷ []) _ texts j = absurd j
only_judged (map_of top file) (a ∷ b ∷ more) status texts j = absurd j
only_judged (header_of top file) [] status texts j = absurd j
only_judged (header_of top file) (a ∷ []) Done texts j = refl
only_judged (header_of top file) (a ∷ []) Refused texts j = refl
only_judged (header_of top file) (a ∷ []) _ texts j = absurd j
only_judged (header_of top file) (a ∷ b ∷ more) status texts j = absurd j
only_judged (manual_of top file) [] status texts j = absurd j
only_judged (manual_of top file) (a ∷ []) Done texts j = refl
only_judged (manual_of top file) (a ∷ []) Refused texts j = refl
only_judged (manual_of top file) (a ∷ []) _ texts j = absurd j
only_judged (manual_of top file) (a ∷ b ∷ more) status texts j = absurd j
only_judged (axi_of top file) [] status texts j = absurd j
only_judged (axi_of top file) (a ∷ []) Done texts j = refl
only_judged (axi_of top file) (a ∷ []) Refused texts j = refl
only_judged (axi_of top file) (a ∷ []) _ texts j = absurd j
only_judged (axi_of top file) (a ∷ b ∷ more) status texts j = absurd j
only_judged (check top files) sources status texts j = check_judged (list_all has_none j.lists) status j.ends
only_judged (sim file table) [] status texts j = absurd j
only_judged (sim file table) (a ∷ []) status texts j = absurd j
only_judged (sim file table) (a ∷ b ∷ []) Done texts j = refl
only_judged (sim file table) (a ∷ b ∷ []) BadVerilog texts j = refl
only_judged (sim file table) (a ∷ b ∷ []) BadStimulus texts j = refl
only_judged (sim file table) (a ∷ b ∷ []) _ texts j = absurd j
only_judged (sim file table) (a ∷ b ∷ c ∷ more) status texts j = absurd j
only_judged (vcd file table) [] status texts j = absurd j
only_judged (vcd file table) (a ∷ []) status texts j = absurd j
only_judged (vcd file table) (a ∷ b ∷ []) Done texts j = refl
only_judged (vcd file table) (a ∷ b ∷ []) BadVerilog texts j = refl
only_judged (vcd file table) (a ∷ b ∷ []) BadStimulus texts j = refl
only_judged (vcd file table) (a ∷ b ∷ []) _ texts j = absurd j
only_judged (vcd file table) (a ∷ b ∷ c ∷ more) status texts j = absurd j
only_judged (pins_of file) [] status texts j = absurd j
only_judged (pins_of file) (a ∷ []) Done texts j = refl
only_judged (pins_of file) (a ∷ []) BadVcd texts j = refl
only_judged (pins_of file) (a ∷ []) _ texts j = absurd j
only_judged (pins_of file) (a ∷ b ∷ more) status texts j = absurd j
only_judged (run_of waits top file table) [] status texts j = absurd j
only_judged (run_of waits top file table) (a ∷ []) status texts j = absurd j
only_judged (run_of waits top file table) (a ∷ b ∷ []) Done texts j = refl
only_judged (run_of waits top file table) (a ∷ b ∷ []) Refused texts j = refl
only_judged (run_of waits top file table) (a ∷ b ∷ []) BadStimulus texts j = refl
only_judged (run_of waits top file table) (a ∷ b ∷ []) Protocol texts j = refl
only_judged (run_of waits top file table) (a ∷ b ∷ []) _ texts j = absurd j
only_judged (run_of waits top file table) (a ∷ b ∷ c ∷ more) status texts j = absurd j
only_judged (drive_of top file script) [] status texts j = absurd j
only_judged (drive_of top file script) (a ∷ []) status texts j = absurd j
only_judged (drive_of top file script) (a ∷ b ∷ []) Done texts j = refl
only_judged (drive_of top file script) (a ∷ b ∷ []) Refused texts j = refl
only_judged (drive_of top file script) (a ∷ b ∷ []) BadScript texts j = refl
only_judged (drive_of top file script) (a ∷ b ∷ []) Unmet texts j = refl
only_judged (drive_of top file script) (a ∷ b ∷ []) _ texts j = absurd j
only_judged (drive_of top file script) (a ∷ b ∷ c ∷ more) status texts j = absurd j
only_judged (gen_of count) [] Done texts j = refl
only_judged (gen_of count) [] Refused texts j = refl
only_judged (gen_of count) [] _ texts j = absurd j
only_judged (gen_of count) (a ∷ more) status texts j = absurd j

-- no file is judged with another status
pub unjudged : (command : Command) (sources : List (List ℕ)) (status : Status) (texts : Texts) → is_judged status ≡ false → Judges command sources status texts → ⊥
unjudged command sources status texts is j = let e : true ≡ false = sym (only_judged command sources status texts j) ∙ is in cc e

-- all files of a command are read and judged
pub Answers-judged : (contents : Option Files) (failed : List ℕ → Type 0) (command : Command) (sources : List (List ℕ)) (status : Status) (texts : Texts)
    → AreRead contents (files_of command) sources → Judges command sources status texts → Answers contents failed command status texts
Answers-judged contents failed command sources ReadFault texts read judged = absurd (unjudged command sources ReadFault texts refl judged)
Answers-judged contents failed command sources TooLong texts read judged = absurd (unjudged command sources TooLong texts refl judged)
Answers-judged contents failed command sources _ texts read judged = (sources, read, judged)

-- a file of a command can't be read, or is too long
pub Answers-failed : (contents : Option Files) (failed : List ℕ → Type 0) (command : Command) (status : Status) (texts : Texts)
    → status ≡ ReadFault → StopsAt contents (λ file limit. failed file × IsNotice texts (cannot_read file)) (files_of command) → Answers contents failed command status texts
Answers-failed contents failed command status texts is stops =
    let P : Status → Type 0 = λ s. Answers contents failed command s texts in subst P (sym is) stops

pub Answers-too_long : (contents : Option Files) (failed : List ℕ → Type 0) (command : Command) (status : Status) (texts : Texts)
    → status ≡ TooLong → StopsAt contents (λ file limit. IsLonger contents file limit × IsNotice texts (too_long file limit)) (files_of command) → Answers contents failed command status texts
Answers-too_long contents failed command status texts is stops =
    let P : Status → Type 0 = λ s. Answers contents failed command s texts in subst P (sym is) stops

-- want of memory and a failed write are no outcome
no_memory_outcome : (words : List (List ℕ)) (contents : Option Files) (failed : List ℕ → Type 0) (texts : Texts) → Outcome words contents failed NoMemory texts → ⊥
no_memory_outcome words contents failed texts is = ⊎_elim (λ asked. unjudged asked.0 asked.2.0 NoMemory texts refl asked.2.2) (λ none. let e = none.1 in cc) is

write_fault_outcome : (words : List (List ℕ)) (contents : Option Files) (failed : List ℕ → Type 0) (texts : Texts) → Outcome words contents failed WriteFault texts → ⊥
write_fault_outcome words contents failed texts is = ⊎_elim (λ asked. unjudged asked.0 asked.2.0 WriteFault texts refl asked.2.2) (λ none. let e = none.1 in cc) is

ends_whole : (words : List (List ℕ)) (contents : Option Files) (failed : List ℕ → Type 0) (err out : Passage) (status : Status) (texts : Texts)
    → Outcome words contents failed status texts → TookAll err texts.err → TookAll out texts.out → Ends (Outcome words contents failed) err out status
ends_whole words contents failed err out NoMemory texts is e o = absurd (no_memory_outcome words contents failed texts is)
ends_whole words contents failed err out WriteFault texts is e o = absurd (write_fault_outcome words contents failed texts is)
ends_whole words contents failed err out _ texts is e o = (texts, is, e, o)

-- a run that has an answer and writes it
pub Ends-written : (words : List (List ℕ)) (contents : Option Files) (failed : List ℕ → Type 0) (err out : Passage) (status : Status) (texts : Texts) (result : Status)
    → Outcome words contents failed status texts
    → ((result ≡ status) × TookAll err texts.err × TookAll out texts.out) ⊎ ((result ≡ WriteFault) × IsCutShort err out texts)
    → Ends (Outcome words contents failed) err out result
Ends-written words contents failed err out status texts result is written =
    let P : Status → Type 0 = λ s. Ends (Outcome words contents failed) err out s in
    ⊎_elim (λ whole. subst P (sym whole.0) (ends_whole words contents failed err out status texts is whole.1 whole.2))
    (λ cut. subst P (sym cut.0) (status, texts, is, cut.1)) written
