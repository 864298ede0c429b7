-- What the answers to `run` and `gen` promise.
use Rattle.std.proofs.Common.{◌≡◌, ℕ, List, [], ◌∷◌, Option, subst}
use Rattle.rb_edge.specs.Shelf.{Files}
use Rattle.replies.specs.declared.status.Status.{Status}
use Rattle.replies.specs.declared.status.Status.TheVariants.{Done, Refused, BadStimulus, Protocol}
use Rattle.command_line.specs.Words.{run_of, gen_of, waits_of, Asks}
use Rattle.replies.specs.Outcome.{AreRead, Texts, Judges, Outcome, files_of}
use Rattle.replies.specs.Ends.{Passage, TookAll, Ends}
use Rattle.regblock.specs.Headline.{IsToldFailure}
use Rattle.regblock.specs.MachineRuns.{IsMachineRun, IsToldUnfit, IsToldBreak}
use Rattle.regblock.specs.Generated.{IsSizedSource}
use Rattle.regblock.proofs.Asked.{asked}
use Rattle.regblock.proofs.Headlines.{told}

module _ (contents : Option Files) (err out : Passage) (waits : Option ℕ) (top : Option (List ℕ)) (file table : List ℕ) (texts : Texts) where
  ran_of : (sources : List (List ℕ)) → AreRead contents (files_of (run_of waits top file table)) sources → Judges (run_of waits top file table) sources Done texts
      → TookAll err texts.err → TookAll out texts.out → IsMachineRun contents (waits_of waits) top file table err out
  ran_of [] read judged e o = absurd judged
  ran_of (a ∷ []) read judged e o = absurd judged
  ran_of (a ∷ b ∷ c ∷ more) read judged e o = absurd judged
  ran_of (source ∷ stimulus ∷ []) read judged e o = record {
    block = judged.block;
    stimulus = stimulus;
    text = texts.out;
    has = record { source = source; tree = judged.tree; source_held = read.0.held; table_held = read.1.0.held; described = judged.described };
    run = judged.run;
    written = o;
    quiet = subst (TookAll err) judged.quiet e;
  }

  not_run_of : (sources : List (List ℕ)) → AreRead contents (files_of (run_of waits top file table)) sources → Judges (run_of waits top file table) sources Refused texts
      → TookAll err texts.err → TookAll out texts.out → IsToldFailure contents top file err out
  not_run_of [] read judged e o = absurd judged
  not_run_of (a ∷ []) read judged e o = absurd judged
  not_run_of (a ∷ b ∷ c ∷ more) read judged e o = absurd judged
  not_run_of (source ∷ stimulus ∷ []) read judged e o = told contents err out top file texts source read.0.held judged e o

  unfit_of : (sources : List (List ℕ)) → AreRead contents (files_of (run_of waits top file table)) sources → Judges (run_of waits top file table) sources BadStimulus texts
      → TookAll err texts.err → TookAll out texts.out → IsToldUnfit contents (waits_of waits) top file table err out
  unfit_of [] read judged e o = absurd judged
  unfit_of (a ∷ []) read judged e o = absurd judged
  unfit_of (a ∷ b ∷ c ∷ more) read judged e o = absurd judged
  unfit_of (source ∷ stimulus ∷ []) read judged e o = record {
    block = judged.block;
    stimulus = stimulus;
    problem = judged.problem;
    has = record { source = source; tree = judged.tree; source_held = read.0.held; table_held = read.1.0.held; described = judged.described };
    fails = judged.fails;
    told = subst (TookAll err) judged.told.0 e;
    quiet = subst (TookAll out) judged.told.1 o;
  }

  broken_of : (sources : List (List ℕ)) → AreRead contents (files_of (run_of waits top file table)) sources → Judges (run_of waits top file table) sources Protocol texts
      → TookAll err texts.err → TookAll out texts.out → IsToldBreak contents (waits_of waits) top file table err out
  broken_of [] read judged e o = absurd judged
  broken_of (a ∷ []) read judged e o = absurd judged
  broken_of (a ∷ b ∷ c ∷ more) read judged e o = absurd judged
  broken_of (source ∷ stimulus ∷ []) read judged e o = record {
    block = judged.block;
    stimulus = stimulus;
    row = judged.row;
    has = record { source = source; tree = judged.tree; source_held = read.0.held; table_held = read.1.0.held; described = judged.described };
    breaks = judged.breaks;
    told = subst (TookAll err) judged.told.0 e;
    quiet = subst (TookAll out) judged.told.1 o;
  }

sized : (err out : Passage) (count : ℕ) (texts : Texts) (sources : List (List ℕ)) → Judges (gen_of count) sources Done texts → TookAll err texts.err → TookAll out texts.out → IsSizedSource count err out
sized err out count texts (a ∷ more) judged e o = absurd judged
sized err out count texts [] judged e o = record {
  tree = judged.tree;
  block = judged.block;
  bytes = judged.bytes;
  described = judged.described;
  long = judged.long;
  written = subst (TookAll out) judged.generated o;
  summed = subst (TookAll err) judged.summed e;
}

module _ (words : List (List ℕ)) (contents : Option Files) (failed : List ℕ → Type 0) (err out : Passage) (result : Status) (ends : Ends (Outcome words contents failed) err out result) where
  abbrev At : Status → Type 0
  At status = Ends (Outcome words contents failed) err out status

  pub ran : (waits : Option ℕ) (top : Option (List ℕ)) (file table : List ℕ) → Asks words (run_of waits top file table) → result ≡ Done → IsMachineRun contents (waits_of waits) top file table err out
  ran waits top file table asks is =
      let at = subst At is ends in
      let a = asked words contents failed (run_of waits top file table) Done at.0 asks at.1 in
      ran_of contents err out waits top file table at.0 a.0 a.1 a.2 at.2 at.3

  pub not_run : (waits : Option ℕ) (top : Option (List ℕ)) (file table : List ℕ) → Asks words (run_of waits top file table) → result ≡ Refused → IsToldFailure contents top file err out
  not_run waits top file table asks is =
      let at = subst At is ends in
      let a = asked words contents failed (run_of waits top file table) Refused at.0 asks at.1 in
      not_run_of contents err out waits top file table at.0 a.0 a.1 a.2 at.2 at.3

  pub unfit : (waits : Option ℕ) (top : Option (List ℕ)) (file table : List ℕ) → Asks words (run_of waits top file table) → result ≡ BadStimulus → IsToldUnfit contents (waits_of waits) top file table err out
  unfit waits top file table asks is =
      let at = subst At is ends in
      let a = asked words contents failed (run_of waits top file table) BadStimulus at.0 asks at.1 in
      unfit_of contents err out waits top file table at.0 a.0 a.1 a.2 at.2 at.3

  pub protocol : (waits : Option ℕ) (top : Option (List ℕ)) (file table : List ℕ) → Asks words (run_of waits top file table) → result ≡ Protocol → IsToldBreak contents (waits_of waits) top file table err out
  protocol waits top file table asks is =
      let at = subst At is ends in
      let a = asked words contents failed (run_of waits top file table) Protocol at.0 asks at.1 in
      broken_of contents err out waits top file table at.0 a.0 a.1 a.2 at.2 at.3

  pub generated : (count : ℕ) → Asks words (gen_of count) → result ≡ Done → IsSizedSource count err out
  generated count asks is =
      let at = subst At is ends in
      let a = asked words contents failed (gen_of count) Done at.0 asks at.1 in
      sized err out count at.0 a.0 a.2 at.2 at.3
