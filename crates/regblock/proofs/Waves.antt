-- What the answers to `vcd` and `pins` promise.
use Rattle.std.proofs.Common.{◌≡◌, ℕ, List, [], ◌∷◌, Option, subst}
use Rattle.rb_edge.specs.Shelf.{Files}
use Rattle.replies.specs.declared.status.Status.{Status}
use Rattle.replies.specs.declared.status.Status.TheVariants.{Done, BadVerilog, BadStimulus, BadVcd}
use Rattle.command_line.specs.Words.{vcd, pins_of, Asks}
use Rattle.replies.specs.Outcome.{AreRead, Texts, Judges, Outcome, files_of}
use Rattle.replies.specs.Ends.{Passage, TookAll, Ends}
use Rattle.regblock.specs.Simulations.{IsToldVerilog, IsToldStimulus}
use Rattle.regblock.specs.Waves.{IsDumped, IsPinTable, IsToldVcd}
use Rattle.regblock.proofs.Asked.{asked}
use Rattle.regblock.proofs.Simulations.{told_module, told_table}

module _ (contents : Option Files) (err out : Passage) (file table : List ℕ) (texts : Texts) where
  dumped : (sources : List (List ℕ)) → AreRead contents (files_of (vcd file table)) sources → Judges (vcd file table) sources Done texts
      → TookAll err texts.err → TookAll out texts.out → IsDumped contents file table err out
  dumped [] read judged e o = absurd judged
  dumped (v ∷ []) read judged e o = absurd judged
  dumped (v ∷ s ∷ a ∷ more) read judged e o = absurd judged
  dumped (v ∷ s ∷ []) read judged e o = record {
    verilog = v;
    stimulus = s;
    text = texts.out;
    module_held = read.0.held;
    table_held = read.1.0.held;
    wave = judged.wave;
    written = o;
    quiet = subst (TookAll err) judged.quiet e;
  }

  bad_module : (sources : List (List ℕ)) → AreRead contents (files_of (vcd file table)) sources → Judges (vcd file table) sources BadVerilog texts
      → TookAll err texts.err → TookAll out texts.out → IsToldVerilog contents file err out
  bad_module [] read judged e o = absurd judged
  bad_module (v ∷ []) read judged e o = absurd judged
  bad_module (v ∷ s ∷ a ∷ more) read judged e o = absurd judged
  bad_module (v ∷ s ∷ []) read judged e o = told_module contents err out file texts v read.0.held judged e o

  bad_table : (sources : List (List ℕ)) → AreRead contents (files_of (vcd file table)) sources → Judges (vcd file table) sources BadStimulus texts
      → TookAll err texts.err → TookAll out texts.out → IsToldStimulus contents file table err out
  bad_table [] read judged e o = absurd judged
  bad_table (v ∷ []) read judged e o = absurd judged
  bad_table (v ∷ s ∷ a ∷ more) read judged e o = absurd judged
  bad_table (v ∷ s ∷ []) read judged e o = told_table contents err out file table texts v s read.0.held read.1.0.held judged e o

module _ (contents : Option Files) (err out : Passage) (file : List ℕ) (texts : Texts) where
  pin_table : (sources : List (List ℕ)) → AreRead contents (files_of (pins_of file)) sources → Judges (pins_of file) sources Done texts
      → TookAll err texts.err → TookAll out texts.out → IsPinTable contents file err out
  pin_table [] read judged e o = absurd judged
  pin_table (t ∷ a ∷ more) read judged e o = absurd judged
  pin_table (t ∷ []) read judged e o = record {
    text = t;
    pins = judged.pins;
    rows = judged.rows;
    held = read.0.held;
    table = judged.table;
    written = subst (TookAll out) judged.printed o;
    quiet = subst (TookAll err) judged.quiet e;
  }

  told_vcd : (sources : List (List ℕ)) → AreRead contents (files_of (pins_of file)) sources → Judges (pins_of file) sources BadVcd texts
      → TookAll err texts.err → TookAll out texts.out → IsToldVcd contents file err out
  told_vcd [] read judged e o = absurd judged
  told_vcd (t ∷ a ∷ more) read judged e o = absurd judged
  told_vcd (t ∷ []) read judged e o = record {
    text = t;
    error = judged.error;
    line = judged.line;
    held = read.0.held;
    fails = judged.fails;
    is = judged.is;
    told = subst (TookAll err) judged.told.0 e;
    quiet = subst (TookAll out) judged.told.1 o;
  }

module _ (words : List (List ℕ)) (contents : Option Files) (failed : List ℕ → Type 0) (err out : Passage) (result : Status) (ends : Ends (Outcome words contents failed) err out result) where
  abbrev At : Status → Type 0
  At status = Ends (Outcome words contents failed) err out status

  pub waved : (file table : List ℕ) → Asks words (vcd file table) → result ≡ Done → IsDumped contents file table err out
  waved file table asks is =
      let at = subst At is ends in
      let a = asked words contents failed (vcd file table) Done at.0 asks at.1 in
      dumped contents err out file table at.0 a.0 a.1 a.2 at.2 at.3

  pub waves_bad_verilog : (file table : List ℕ) → Asks words (vcd file table) → result ≡ BadVerilog → IsToldVerilog contents file err out
  waves_bad_verilog file table asks is =
      let at = subst At is ends in
      let a = asked words contents failed (vcd file table) BadVerilog at.0 asks at.1 in
      bad_module contents err out file table at.0 a.0 a.1 a.2 at.2 at.3

  pub waves_bad_stimulus : (file table : List ℕ) → Asks words (vcd file table) → result ≡ BadStimulus → IsToldStimulus contents file table err out
  waves_bad_stimulus file table asks is =
      let at = subst At is ends in
      let a = asked words contents failed (vcd file table) BadStimulus at.0 asks at.1 in
      bad_table contents err out file table at.0 a.0 a.1 a.2 at.2 at.3

  pub read_back : (file : List ℕ) → Asks words (pins_of file) → result ≡ Done → IsPinTable contents file err out
  read_back file asks is =
      let at = subst At is ends in
      let a = asked words contents failed (pins_of file) Done at.0 asks at.1 in
      pin_table contents err out file at.0 a.0 a.1 a.2 at.2 at.3

  pub bad_vcd : (file : List ℕ) → Asks words (pins_of file) → result ≡ BadVcd → IsToldVcd contents file err out
  bad_vcd file asks is =
      let at = subst At is ends in
      let a = asked words contents failed (pins_of file) BadVcd at.0 asks at.1 in
      told_vcd contents err out file at.0 a.0 a.1 a.2 at.2 at.3
