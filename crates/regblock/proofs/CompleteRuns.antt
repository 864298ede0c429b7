-- A run that can be done is done.
use Rattle.std.specs.List.{AllByRecursion, list_all}
use Rattle.std.proofs.lemmas.List.Elements.{recursion_from_All}
use Rattle.std.proofs.Common.{◌≡◌, ◌⊎◌, ⊎_elim, inl, inr, ℕ, true, ◌&&◌, cond, List, [], ◌∷◌, length, map, Option, None, Some, Ok, Err, refl, sym, ◌∙◌, ap, subst, arith}
use Rattle.rb_base.specs.declared.ports.Pin.{Pin}
use Rattle.vcd_syntax.specs.Reading.{IsTable}
use Rattle.vcd_syntax.proofs.Answered.{no_error}
use Rattle.rb_edge.specs.Count.{Rose}
use Rattle.rb_edge.specs.Shelf.{Files, IsLonger}
use Rattle.replies.specs.declared.status.Status.{Status}
use Rattle.replies.specs.declared.status.Status.TheVariants.{Done, Refused, ReadFault, WriteFault, NoMemory, TooLong, BadVerilog, BadStimulus, Protocol, BadVcd, BadScript, Unmet}
use Rattle.command_line.specs.Words.{Command, check, compile, map_of, header_of, manual_of, axi_of, sim, vcd, pins_of, run_of, drive_of, gen_of, waits_of, Asks}
use Rattle.command_line.proofs.Asking.{one-command}
use Rattle.replies.specs.Outcome.{AreRead, AreVerdicts, StopsAt, Texts, Judges, Answers, Outcome, files_of, has_none, source_limit}
use Rattle.replies.specs.Ends.{Passage, IsCutShort, Ends}
use Rattle.regblock.specs.Complete.{AreAtHand, AreFit, CanBeDone, FitsBlock, IsComplete, IsEnd, IsFit, IsScriptFor}
use Rattle.rdl_parser.specs.Verdicts.{Reads}
use Rattle.rdl_verdict.specs.Verdict.{IsAxiVerdict, accesses}
use Rattle.replies.specs.Verdict.{BreaksNone, FailsFirst, IsFirst, tree}
use Rattle.rdl_verdict_laws.proofs.OneVerdict.{one, one_block}
use Rattle.rdl_base.specs.declared.fault.Fault.{Fault}
use Rattle.rb_base.specs.declared.place.Place.{Place}
use Rattle.rdl_base.specs.declared.rule.Rule.{Rule}
use Rattle.rb_model.specs.declared.block.Block.{Block}
use Rattle.rdl_tree.specs.declared.item.Source.{Source}
use Rattle.replies.specs.Verdict.{IsDescribedWith}
use Rattle.machine_run.specs.Runs.{IsFitFor}
use Rattle.sim_run.specs.Simulated.{IsModule, IsProblem, IsFitTable}
use Rattle.machine_run.proofs.Fitting as machine
use Rattle.command_line.specs.Source.{source_of}
use Rattle.stim_csv.specs.PinTable.{table_of, records_of}
use Rattle.v_design.specs.Design.{Module, module_of, inputs, outputs}
use Rattle.v_design.specs.Tree.{Tree, IsTree}
use Rattle.v_design.specs.WellFormed.{IsWellFormed}
use Rattle.v_design.proofs.OneTree.{tree_once}
use Rattle.v_syntax.specs.Failing as verilog
use Rattle.v_syntax.specs.declared.error.VError.{VError}

same_bytes : (x y : List ℕ) (o : Option (List ℕ)) → o ≡ Some x → o ≡ Some y → x ≡ y
same_bytes x y o p q = cc

-- a file that is at hand stops no run
read_fault_stops : (files : Files) (failed : List ℕ → Type 0) (named : List (List ℕ × ℕ)) (Q : List ℕ → ℕ → Type 0) → AreAtHand files failed named → StopsAt (Some files) (λ file limit. failed file × Q file limit) named → ⊥
read_fault_stops files failed [] Q hand stops = stops
read_fault_stops files failed (file ∷ more) Q hand stops = ⊎_elim (λ here. hand.1 here.0) (λ there. read_fault_stops files failed more Q hand.2 there.2) stops

too_long_stops : (files : Files) (failed : List ℕ → Type 0) (named : List (List ℕ × ℕ)) (Q : List ℕ → ℕ → Type 0) → AreAtHand files failed named → StopsAt (Some files) (λ file limit. IsLonger (Some files) file limit × Q file limit) named → ⊥
too_long_stops files failed [] Q hand stops = stops
too_long_stops files failed (file ∷ more) Q hand stops = ⊎_elim
    (λ here. let same = same_bytes hand.0.0 here.0.0 (files file.0) hand.0.1 here.0.1 in omega (arith, ap length same, hand.0.2, here.0.2))
    (λ there. too_long_stops files failed more Q hand.2 there.2) stops

-- bytes that fail are no well-formed module
abbrev pub NoModuleFails : Type 0
NoModuleFails = (bytes : List ℕ) (e : VError) (t : Tree) → verilog.Fails bytes e → IsTree bytes t → IsWellFormed t → ⊥

same_module : (verilog : List ℕ) (m n : Module) → IsModule verilog m → IsModule verilog n → m ≡ n
same_module verilog m n a b = a.is ∙ (ap module_of (tree_once verilog a.tree b.tree a.is_tree b.is_tree) ∙ sym b.is)

no_problem : (verilog stimulus problem : List ℕ) → IsFitTable verilog stimulus → IsProblem verilog stimulus problem → ⊥
no_problem verilog stimulus problem fit bad =
    let e : fit.module_ ≡ bad.module_ = same_module verilog fit.module_ bad.module_ fit.is_module bad.is_module in
    let table : table_of (inputs bad.module_) (length (outputs bad.module_)) (records_of stimulus) ≡ Ok fit.vectors = subst (λ m. table_of (inputs m) (length (outputs m)) (records_of stimulus) ≡ Ok fit.vectors) e fit.table in
    let wrong : Ok fit.vectors ≡ Err bad.problem = sym table ∙ bad.table in cc

clean_source : (top : Option (List ℕ)) (source : List ℕ) (place : Place) (rule : Rule) → BreaksNone top source → FailsFirst top source place rule → ⊥
clean_source top source place rule clean fails = let none = one top source [] _ clean fails.verdict in cc none

-- nothing fails first of a source that breaks no rule and has whole registers
whole_source : (top : Option (List ℕ)) (source : List ℕ) (place : Place) (rule : Rule) → BreaksNone top source → ((s : Source) → Reads source s.items.now → accesses top s [])
    → IsFirst (IsAxiVerdict top source) place rule → ⊥
whole_source top source place rule clean whole fails = by fails.verdict
  where
    by : IsAxiVerdict top source (record { place = place; rule = rule } ∷ fails.others) → ⊥
    by (inl h) = clean_source top source place rule clean (record { others = fails.others; verdict = h.0 })
    by (inr h) =
        let f : Fault = record { place = place; rule = rule } in
        let none = ((whole h.0 h.1).exact f).1 ((h.3.exact f).0 (0, omega arith, refl)) in
        omega (arith, none.1)

clean_lists : (top : Option (List ℕ)) (sources : List (List ℕ)) (lists : List (List Fault)) → AllByRecursion (BreaksNone top) sources → AreVerdicts top sources lists → list_all has_none lists ≡ true
clean_lists top [] [] clean verdicts = refl
clean_lists top [] (l ∷ ls) clean verdicts = absurd verdicts
clean_lists top (s ∷ ss) [] clean verdicts = absurd verdicts
clean_lists top (s ∷ ss) (l ∷ ls) clean verdicts = ap (λ xs. has_none xs && list_all has_none ls) (one top s l [] verdicts.0 clean.0) ∙ clean_lists top ss ls clean.1 verdicts.1

-- what is read of fit files breaks no rule
fit_sources : (top : Option (List ℕ)) (files : Files) (names : List (List ℕ)) (sources : List (List ℕ)) → AllByRecursion (IsFit top files) names → AreRead (Some files) (map (λ name. (name, source_limit)) names) sources → AllByRecursion (BreaksNone top) sources
fit_sources top files [] [] fit read = tt
fit_sources top files [] (s ∷ ss) fit read = absurd read
fit_sources top files (n ∷ ns) [] fit read = absurd read
fit_sources top files (n ∷ ns) (s ∷ ss) fit read = (fit.0 s read.0.held, fit_sources top files ns ss fit.1 read.1)

-- what fits a block fits it in any order of its items
fits_in_order : (stimulus : List ℕ) (b d : Block) → IsFitFor b stimulus → IsFitFor (record b { order = d.order }) stimulus
fits_in_order stimulus b d fit = record { vectors = fit.vectors; table = fit.table; kept = fit.kept }

-- a table that fits the block of a source fits what any of its trees describes
fits_each : (waits : ℕ) (top : Option (List ℕ)) (source stimulus : List ℕ) → FitsBlock waits top source stimulus → (t : Source) (d : Block) → IsDescribedWith top source t waits d → IsFitFor d stimulus
fits_each waits top source stimulus fit t d is =
    let same : record fit.block { order = d.order } ≡ d = one_block top source fit.tree t waits fit.block d fit.described.reads is.reads fit.described.block is.block in
    subst (λ z. IsFitFor z stimulus) same (fits_in_order stimulus fit.block d fit.fits)

-- a table that fits the block of a source is run
fit_ran : (waits : Option ℕ) (top : Option (List ℕ)) (file table source stimulus : List ℕ) (status : Status) (texts : Texts) → FitsBlock (waits_of waits) top source stimulus
    → Judges (run_of waits top file table) (source ∷ stimulus ∷ []) status texts → status ≡ Done
fit_ran waits top file table source stimulus Done texts fit judged = refl
fit_ran waits top file table source stimulus Refused texts fit judged = absurd (clean_source top source judged.place judged.rule (tree fit.tree fit.described.reads fit.described.clean) judged.fails)
fit_ran waits top file table source stimulus BadStimulus texts fit judged = absurd (machine.no_problem judged.block stimulus judged.problem (fits_each (waits_of waits) top source stimulus fit judged.tree judged.block judged.described) judged.fails)
fit_ran waits top file table source stimulus Protocol texts fit judged = absurd (machine.no_break judged.block stimulus judged.row (fits_each (waits_of waits) top source stimulus fit judged.tree judged.block judged.described) judged.breaks)
fit_ran waits top file table source stimulus _ texts fit judged = absurd judged

-- a script for the block of a source is played
fit_driven : (top : Option (List ℕ)) (file script source bytes : List ℕ) (status : Status) (texts : Texts) → IsScriptFor top source bytes
    → Judges (drive_of top file script) (source ∷ bytes ∷ []) status texts → (status ≡ Done) ⊎ (status ≡ Unmet)
fit_driven top file script source bytes Done texts fit judged = inl refl
fit_driven top file script source bytes Unmet texts fit judged = inr refl
fit_driven top file script source bytes Refused texts fit judged = absurd (clean_source top source judged.place judged.rule fit.clean judged.fails)
fit_driven top file script source bytes BadScript texts fit judged =
    let steps = fit.script judged.tree judged.block judged.described in
    let bad : Ok steps.0 ≡ Err judged.error = sym steps.1 ∙ judged.fails in absurd (cc bad)
fit_driven top file script source bytes _ texts fit judged = absurd judged

-- a dump that has a table has no problem
fit_read : (file text : List ℕ) (status : Status) (texts : Texts) → (pins : List Pin) × (rows : List (List ℕ)) × IsTable text pins rows → Judges (pins_of file) (text ∷ []) status texts → status ≡ Done
fit_read file text Done texts fit judged = refl
fit_read file text BadVcd texts fit judged = absurd (no_error text fit.0 fit.1 judged.error fit.2 judged.fails)
fit_read file text _ texts fit judged = absurd judged

module _ (fails : NoModuleFails) where
  fit_run : (file table verilog stimulus : List ℕ) (status : Status) (texts : Texts) → IsFitTable verilog stimulus → Judges (sim file table) (verilog ∷ stimulus ∷ []) status texts → status ≡ Done
  fit_run file table verilog stimulus Done texts fit judged = refl
  fit_run file table verilog stimulus BadVerilog texts fit judged = absurd (fails verilog judged.error fit.is_module.tree judged.fails fit.is_module.is_tree fit.is_module.well_formed)
  fit_run file table verilog stimulus BadStimulus texts fit judged = absurd (no_problem verilog stimulus judged.problem fit judged.fails)
  fit_run file table verilog stimulus _ texts fit judged = absurd judged

  fit_wave : (file table verilog stimulus : List ℕ) (status : Status) (texts : Texts) → IsFitTable verilog stimulus → Judges (vcd file table) (verilog ∷ stimulus ∷ []) status texts → status ≡ Done
  fit_wave file table verilog stimulus Done texts fit judged = refl
  fit_wave file table verilog stimulus BadVerilog texts fit judged = absurd (fails verilog judged.error fit.is_module.tree judged.fails fit.is_module.is_tree fit.is_module.well_formed)
  fit_wave file table verilog stimulus BadStimulus texts fit judged = absurd (no_problem verilog stimulus judged.problem fit judged.fails)
  fit_wave file table verilog stimulus _ texts fit judged = absurd judged

  fit_judged : (files : Files) (command : Command) (sources : List (List ℕ)) (status : Status) (texts : Texts)
      → AreFit command files → AreRead (Some files) (files_of command) sources → Judges command sources status texts → IsEnd command status
  fit_judged files (compile waits top file) [] status texts fit read judged = absurd read
  fit_judged files (compile waits top file) (source ∷ a ∷ more) status texts fit read judged = absurd read.1
  fit_judged files (compile waits top file) (source ∷ []) Done texts fit read judged = refl
  fit_judged files (compile waits top file) (source ∷ []) Refused texts fit read judged = absurd (clean_source top source judged.place judged.rule (fit source read.0.held) judged.fails)
  fit_judged files (compile waits top file) (source ∷ []) _ texts fit read judged = absurd judged
  fit_judged files (map_of top file) [] status texts fit read judged = absurd read
  fit_judged files (map_of top file) (source ∷ a ∷ more) status texts fit read judged = absurd read.1
  fit_judged files (map_of top file) (source ∷ []) Done texts fit read judged = refl
  fit_judged files (map_of top file) (source ∷ []) Refused texts fit read judged = absurd (clean_source top source judged.place judged.rule (fit source read.0.held) judged.fails)
  fit_judged files (map_of top file) (source ∷ []) _ texts fit read judged = absurd judged
  fit_judged files (header_of top file) [] status texts fit read judged = absurd read
  fit_judged files (header_of top file) (source ∷ a ∷ more) status texts fit read judged = absurd read.1
  fit_judged files (header_of top file) (source ∷ []) Done texts fit read judged = refl
  fit_judged files (header_of top file) (source ∷ []) Refused texts fit read judged = absurd (clean_source top source judged.place judged.rule (fit source read.0.held) judged.fails)
  fit_judged files (header_of top file) (source ∷ []) _ texts fit read judged = absurd judged
  fit_judged files (manual_of top file) [] status texts fit read judged = absurd read
  fit_judged files (manual_of top file) (source ∷ a ∷ more) status texts fit read judged = absurd read.1
  fit_judged files (manual_of top file) (source ∷ []) Done texts fit read judged = refl
  fit_judged files (manual_of top file) (source ∷ []) Refused texts fit read judged = absurd (clean_source top source judged.place judged.rule (fit source read.0.held) judged.fails)
  fit_judged files (manual_of top file) (source ∷ []) _ texts fit read judged = absurd judged
  fit_judged files (axi_of top file) [] status texts fit read judged = absurd read
  fit_judged files (axi_of top file) (source ∷ a ∷ more) status texts fit read judged = absurd read.1
  fit_judged files (axi_of top file) (source ∷ []) Done texts fit read judged = refl
  fit_judged files (axi_of top file) (source ∷ []) Refused texts fit read judged =
      let fits = fit source read.0.held in absurd (whole_source top source judged.place judged.rule fits.0 fits.1 judged.fails)
  fit_judged files (axi_of top file) (source ∷ []) _ texts fit read judged = absurd judged
  fit_judged files (check top names) sources status texts fit read judged =
      judged.ends ∙ ap (λ t. cond t Done Refused) (clean_lists top sources judged.lists (fit_sources top files names sources (recursion_from_All (IsFit top files) names fit) read) judged.verdicts)
  fit_judged files (sim file table) [] status texts fit read judged = absurd read
  fit_judged files (sim file table) (verilog ∷ []) status texts fit read judged = absurd read.1
  fit_judged files (sim file table) (verilog ∷ stimulus ∷ []) status texts fit read judged = fit_run file table verilog stimulus status texts (fit verilog stimulus read.0.held read.1.0.held) judged
  fit_judged files (sim file table) (verilog ∷ stimulus ∷ a ∷ more) status texts fit read judged = absurd read.1.1
  fit_judged files (vcd file table) [] status texts fit read judged = absurd read
  fit_judged files (vcd file table) (verilog ∷ []) status texts fit read judged = absurd read.1
  fit_judged files (vcd file table) (verilog ∷ stimulus ∷ []) status texts fit read judged = fit_wave file table verilog stimulus status texts (fit verilog stimulus read.0.held read.1.0.held) judged
  fit_judged files (vcd file table) (verilog ∷ stimulus ∷ a ∷ more) status texts fit read judged = absurd read.1.1
  fit_judged files (pins_of file) [] status texts fit read judged = absurd read
  fit_judged files (pins_of file) (text ∷ []) status texts fit read judged = fit_read file text status texts (fit text read.0.held) judged
  fit_judged files (pins_of file) (text ∷ a ∷ more) status texts fit read judged = absurd read.1
  fit_judged files (run_of waits top file table) [] status texts fit read judged = absurd read
  fit_judged files (run_of waits top file table) (source ∷ []) status texts fit read judged = absurd read.1
  fit_judged files (run_of waits top file table) (source ∷ stimulus ∷ []) status texts fit read judged = fit_ran waits top file table source stimulus status texts (fit source stimulus read.0.held read.1.0.held) judged
  fit_judged files (run_of waits top file table) (source ∷ stimulus ∷ a ∷ more) status texts fit read judged = absurd read.1.1
  fit_judged files (drive_of top file script) [] status texts fit read judged = absurd read
  fit_judged files (drive_of top file script) (source ∷ []) status texts fit read judged = absurd read.1
  fit_judged files (drive_of top file script) (source ∷ bytes ∷ []) status texts fit read judged = fit_driven top file script source bytes status texts (fit source bytes read.0.held read.1.0.held) judged
  fit_judged files (drive_of top file script) (source ∷ bytes ∷ a ∷ more) status texts fit read judged = absurd read.1.1
  fit_judged files (gen_of count) [] Done texts fit read judged = refl
  fit_judged files (gen_of count) [] Refused texts fit read judged = absurd (clean_source None (source_of count) judged.place judged.rule fit judged.fails)
  fit_judged files (gen_of count) [] _ texts fit read judged = absurd judged
  fit_judged files (gen_of count) (a ∷ more) status texts fit read judged = absurd read

  fit_answers : (files : Files) (failed : List ℕ → Type 0) (command : Command) (status : Status) (texts : Texts)
      → AreAtHand files failed (files_of command) → AreFit command files → Answers (Some files) failed command status texts → IsEnd command status
  fit_answers files failed command ReadFault texts hand fit answers = absurd (read_fault_stops files failed (files_of command) _ hand answers)
  fit_answers files failed command TooLong texts hand fit answers = absurd (too_long_stops files failed (files_of command) _ hand answers)
  fit_answers files failed command status texts hand fit answers = fit_judged files command answers.0 status texts fit answers.1 answers.2

  fit_outcome : (words : List (List ℕ)) (files : Files) (failed : List ℕ → Type 0) (command : Command) (status : Status) (texts : Texts)
      → Asks words command → AreAtHand files failed (files_of command) → AreFit command files → Outcome words (Some files) failed status texts → IsEnd command status
  fit_outcome words files failed command status texts asked hand fit is = ⊎_elim
      (λ asks. let P : Command → Type 0 = λ c. Answers (Some files) failed c status texts in
      fit_answers files failed command status texts hand fit (subst P (one-command words asks.0 command asks.1 asked) asks.2))
      (λ none. absurd (none.0 command asked)) is

  no_cut : (err out : Passage) (texts : Texts) → (Rose err.before err.after → ⊥) → (Rose out.before out.after → ⊥) → IsCutShort err out texts → ⊥
  no_cut err out texts e o cut = ⊎_elim (λ first. e first.0.1) (λ second. o second.1.1) cut

  ends_done : (words : List (List ℕ)) (files : Files) (failed : List ℕ → Type 0) (err out : Passage) (status : Status) (command : Command)
      → CanBeDone words files failed err out command → Ends (Outcome words (Some files) failed) err out status → IsEnd command status ⊎ (status ≡ NoMemory)
  ends_done words files failed err out NoMemory command can ends = inr refl
  ends_done words files failed err out WriteFault command can ends = absurd (no_cut err out ends.1 can.err_unharmed can.out_unharmed ends.3)
  ends_done words files failed err out status command can ends = inl (fit_outcome words files failed command status ends.0 can.asked can.at_hand can.fit ends.1)

  pub complete : (words : List (List ℕ)) (contents : Option Files) (failed : List ℕ → Type 0) (err out : Passage) (status : Status)
      → Ends (Outcome words contents failed) err out status → IsComplete words contents failed err out status
  complete words None failed err out status ends = tt
  complete words (Some files) failed err out status ends = λ command can. ends_done words files failed err out status command can ends
