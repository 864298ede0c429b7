-- What the answers to `sim` promise.
use Rattle.std.proofs.Common.{◌≡◌, ℕ, List, [], ◌∷◌, Option, subst}
use Rattle.rb_edge.specs.Shelf.{Files, Holds}
use Rattle.replies.specs.declared.status.Status.{Status}
use Rattle.replies.specs.declared.status.Status.TheVariants.{Done, BadVerilog, BadStimulus}
use Rattle.command_line.specs.Words.{sim, Asks}
use Rattle.replies.specs.Outcome.{AreRead, IsBadStimulus, IsBadVerilog, Texts, Judges, Outcome, files_of}
use Rattle.replies.specs.Ends.{Passage, TookAll, Ends}
use Rattle.regblock.specs.Simulations.{IsRun, IsToldVerilog, IsToldStimulus}
use Rattle.regblock.proofs.Asked.{asked}

-- what is wrong with a module, and with a table for one, as it is told
pub told_module : (contents : Option Files) (err out : Passage) (file : List ℕ) (texts : Texts) (verilog : List ℕ) → Holds contents file verilog → IsBadVerilog file verilog texts
    → TookAll err texts.err → TookAll out texts.out → IsToldVerilog contents file err out
told_module contents err out file texts verilog held bad e o = record {
  verilog = verilog;
  error = bad.error;
  held = held;
  fails = bad.fails;
  told = subst (TookAll err) bad.told.0 e;
  quiet = subst (TookAll out) bad.told.1 o;
}

pub told_table : (contents : Option Files) (err out : Passage) (file table : List ℕ) (texts : Texts) (verilog stimulus : List ℕ) → Holds contents file verilog → Holds contents table stimulus
    → IsBadStimulus verilog table stimulus texts → TookAll err texts.err → TookAll out texts.out → IsToldStimulus contents file table err out
told_table contents err out file table texts verilog stimulus module_held table_held bad e o = record {
  verilog = verilog;
  stimulus = stimulus;
  problem = bad.problem;
  module_held = module_held;
  table_held = table_held;
  fails = bad.fails;
  told = subst (TookAll err) bad.told.0 e;
  quiet = subst (TookAll out) bad.told.1 o;
}

module _ (contents : Option Files) (err out : Passage) (file table : List ℕ) (texts : Texts) where
  ran : (sources : List (List ℕ)) → AreRead contents (files_of (sim file table)) sources → Judges (sim file table) sources Done texts
      → TookAll err texts.err → TookAll out texts.out → IsRun contents file table err out
  ran [] read judged e o = absurd judged
  ran (v ∷ []) read judged e o = absurd judged
  ran (v ∷ s ∷ a ∷ more) read judged e o = absurd judged
  ran (v ∷ s ∷ []) read judged e o = record {
    verilog = v;
    stimulus = s;
    text = texts.out;
    module_held = read.0.held;
    table_held = read.1.0.held;
    run = judged.run;
    written = o;
    quiet = subst (TookAll err) judged.quiet e;
  }

  bad_module : (sources : List (List ℕ)) → AreRead contents (files_of (sim file table)) sources → Judges (sim file table) sources BadVerilog texts
      → TookAll err texts.err → TookAll out texts.out → IsToldVerilog contents file err out
  bad_module [] read judged e o = absurd judged
  bad_module (v ∷ []) read judged e o = absurd judged
  bad_module (v ∷ s ∷ a ∷ more) read judged e o = absurd judged
  bad_module (v ∷ s ∷ []) read judged e o = told_module contents err out file texts v read.0.held judged e o

  bad_table : (sources : List (List ℕ)) → AreRead contents (files_of (sim file table)) sources → Judges (sim file table) sources BadStimulus texts
      → TookAll err texts.err → TookAll out texts.out → IsToldStimulus contents file table err out
  bad_table [] read judged e o = absurd judged
  bad_table (v ∷ []) read judged e o = absurd judged
  bad_table (v ∷ s ∷ a ∷ more) read judged e o = absurd judged
  bad_table (v ∷ s ∷ []) read judged e o = told_table contents err out file table texts v s read.0.held read.1.0.held judged e o

module _ (words : List (List ℕ)) (contents : Option Files) (failed : List ℕ → Type 0) (err out : Passage) (result : Status) (ends : Ends (Outcome words contents failed) err out result) where
  abbrev At : Status → Type 0
  At status = Ends (Outcome words contents failed) err out status

  pub simulated : (file table : List ℕ) → Asks words (sim file table) → result ≡ Done → IsRun contents file table err out
  simulated file table asks is =
      let at = subst At is ends in
      let a = asked words contents failed (sim file table) Done at.0 asks at.1 in
      ran contents err out file table at.0 a.0 a.1 a.2 at.2 at.3

  pub bad_verilog : (file table : List ℕ) → Asks words (sim file table) → result ≡ BadVerilog → IsToldVerilog contents file err out
  bad_verilog file table asks is =
      let at = subst At is ends in
      let a = asked words contents failed (sim file table) BadVerilog at.0 asks at.1 in
      bad_module contents err out file table at.0 a.0 a.1 a.2 at.2 at.3

  pub bad_stimulus : (file table : List ℕ) → Asks words (sim file table) → result ≡ BadStimulus → IsToldStimulus contents file table err out
  bad_stimulus file table asks is =
      let at = subst At is ends in
      let a = asked words contents failed (sim file table) BadStimulus at.0 asks at.1 in
      bad_table contents err out file table at.0 a.0 a.1 a.2 at.2 at.3
