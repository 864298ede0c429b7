-- What the answers to `drive` promise.
use Rattle.std.proofs.Common.{◌≡◌, ℕ, ◌<◌, List, [], ◌∷◌, Option, subst}
use Rattle.rb_edge.specs.Shelf.{Files}
use Rattle.replies.specs.declared.status.Status.{Status}
use Rattle.replies.specs.declared.status.Status.TheVariants.{Done, Refused, BadScript, Unmet}
use Rattle.command_line.specs.Words.{drive_of, Asks}
use Rattle.replies.specs.Outcome.{AreRead, Texts, Judges, Outcome, files_of}
use Rattle.replies.specs.Outcome as outcome
use Rattle.replies.specs.Ends.{Passage, TookAll, Ends}
use Rattle.regblock.specs.Headline.{IsToldFailure}
use Rattle.regblock.specs.Drives.{IsDriven, IsToldScript}
use Rattle.regblock.proofs.Asked.{asked}
use Rattle.regblock.proofs.Headlines.{told}

module _ (contents : Option Files) (err out : Passage) (top : Option (List ℕ)) (file script : List ℕ) (texts : Texts) where
  transcript : (source bytes : List ℕ) (failed : ℕ) → AreRead contents (files_of (drive_of top file script)) (source ∷ bytes ∷ []) → outcome.IsDriven top source bytes failed texts
      → TookAll err texts.err → TookAll out texts.out → IsDriven contents top file script failed err out
  transcript source bytes failed read judged e o = record {
    block = judged.block;
    bytes = bytes;
    text = texts.out;
    has = record { source = source; tree = judged.tree; source_held = read.0.held; script_held = read.1.0.held; described = judged.described };
    drives = judged.text;
    written = o;
    quiet = subst (TookAll err) judged.quiet e;
  }

  driven_of : (sources : List (List ℕ)) → AreRead contents (files_of (drive_of top file script)) sources → Judges (drive_of top file script) sources Done texts
      → TookAll err texts.err → TookAll out texts.out → IsDriven contents top file script 0 err out
  driven_of [] read judged e o = absurd judged
  driven_of (a ∷ []) read judged e o = absurd judged
  driven_of (a ∷ b ∷ c ∷ more) read judged e o = absurd judged
  driven_of (source ∷ bytes ∷ []) read judged e o = transcript source bytes 0 read judged e o

  unmet_of : (sources : List (List ℕ)) → AreRead contents (files_of (drive_of top file script)) sources → Judges (drive_of top file script) sources Unmet texts
      → TookAll err texts.err → TookAll out texts.out → (failed : ℕ) × (0 < failed) × IsDriven contents top file script failed err out
  unmet_of [] read judged e o = absurd judged
  unmet_of (a ∷ []) read judged e o = absurd judged
  unmet_of (a ∷ b ∷ c ∷ more) read judged e o = absurd judged
  unmet_of (source ∷ bytes ∷ []) read judged e o = (judged.0, judged.1, transcript source bytes judged.0 read judged.2 e o)

  undriven_of : (sources : List (List ℕ)) → AreRead contents (files_of (drive_of top file script)) sources → Judges (drive_of top file script) sources Refused texts
      → TookAll err texts.err → TookAll out texts.out → IsToldFailure contents top file err out
  undriven_of [] read judged e o = absurd judged
  undriven_of (a ∷ []) read judged e o = absurd judged
  undriven_of (a ∷ b ∷ c ∷ more) read judged e o = absurd judged
  undriven_of (source ∷ bytes ∷ []) read judged e o = told contents err out top file texts source read.0.held judged e o

  bad_script_of : (sources : List (List ℕ)) → AreRead contents (files_of (drive_of top file script)) sources → Judges (drive_of top file script) sources BadScript texts
      → TookAll err texts.err → TookAll out texts.out → IsToldScript contents top file script err out
  bad_script_of [] read judged e o = absurd judged
  bad_script_of (a ∷ []) read judged e o = absurd judged
  bad_script_of (a ∷ b ∷ c ∷ more) read judged e o = absurd judged
  bad_script_of (source ∷ bytes ∷ []) read judged e o = record {
    block = judged.block;
    bytes = bytes;
    error = judged.error;
    has = record { source = source; tree = judged.tree; source_held = read.0.held; script_held = read.1.0.held; described = judged.described };
    fails = judged.fails;
    told = subst (TookAll err) judged.told.0 e;
    quiet = subst (TookAll out) judged.told.1 o;
  }

module _ (words : List (List ℕ)) (contents : Option Files) (failed : List ℕ → Type 0) (err out : Passage) (result : Status) (ends : Ends (Outcome words contents failed) err out result) where
  abbrev At : Status → Type 0
  At status = Ends (Outcome words contents failed) err out status

  pub driven : (top : Option (List ℕ)) (file script : List ℕ) → Asks words (drive_of top file script) → result ≡ Done → IsDriven contents top file script 0 err out
  driven top file script asks is =
      let at = subst At is ends in
      let a = asked words contents failed (drive_of top file script) Done at.0 asks at.1 in
      driven_of contents err out top file script at.0 a.0 a.1 a.2 at.2 at.3

  pub unmet : (top : Option (List ℕ)) (file script : List ℕ) → Asks words (drive_of top file script) → result ≡ Unmet → (count : ℕ) × (0 < count) × IsDriven contents top file script count err out
  unmet top file script asks is =
      let at = subst At is ends in
      let a = asked words contents failed (drive_of top file script) Unmet at.0 asks at.1 in
      unmet_of contents err out top file script at.0 a.0 a.1 a.2 at.2 at.3

  pub undriven : (top : Option (List ℕ)) (file script : List ℕ) → Asks words (drive_of top file script) → result ≡ Refused → IsToldFailure contents top file err out
  undriven top file script asks is =
      let at = subst At is ends in
      let a = asked words contents failed (drive_of top file script) Refused at.0 asks at.1 in
      undriven_of contents err out top file script at.0 a.0 a.1 a.2 at.2 at.3

  pub bad_script : (top : Option (List ℕ)) (file script : List ℕ) → Asks words (drive_of top file script) → result ≡ BadScript → IsToldScript contents top file script err out
  bad_script top file script asks is =
      let at = subst At is ends in
      let a = asked words contents failed (drive_of top file script) BadScript at.0 asks at.1 in
      bad_script_of contents err out top file script at.0 a.0 a.1 a.2 at.2 at.3
