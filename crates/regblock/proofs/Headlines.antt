-- What the answers to `compile`, `axi`, `map`, `header`, `manual` and `check` promise.
use Rattle.std.proofs.Common.{◌≡◌, ◌⊎◌, ⊎_elim, inl, inr, ℕ, IsTrue, List, [], ◌∷◌, map, Option, refl, subst}
use Rattle.encodings.specs.Encodings.{Enumeration}
use Rattle.v_design.specs.WellFormed.{distinct}
use Rattle.rb_model.specs.declared.block.Block.{Block}
use Rattle.rb_model.specs.Apart.{IsApart}
use Rattle.rb_model.specs.Sound.{IsSound}
use Rattle.c_header.specs.Enumerators.{all_macros}
use Rattle.c_header.specs.Laws.{AreApart}
use Rattle.rb_edge.specs.Shelf.{Files, Holds}
use Rattle.rdl_base.specs.declared.fault.Fault.{Fault}
use Rattle.rdl_tree.specs.declared.item.Source.{Source}
use Rattle.rdl_parser.specs.Verdicts.{Reads}
use Rattle.rdl_values.specs.Elaboration.{instances}
use Rattle.rdl_values.specs.Verdict.{FirstOf}
use Rattle.rdl_rules.specs.Block.{IsBlockOf}
use Rattle.rdl_encodings.specs.Encoded.{source_encodings}
use Rattle.rdl_verdict.specs.Verdict.{IsAxiVerdict, tree_phases}
use Rattle.replies.specs.Verdict.{IsVerdict, tree}
use Rattle.replies.specs.declared.status.Status.{Status}
use Rattle.replies.specs.declared.status.Status.TheVariants.{Done, Refused}
use Rattle.command_line.specs.Words.{check, compile, header_of, manual_of, axi_of, map_of, waits_of, Asks}
use Rattle.replies.specs.Outcome.{AreRead, IsChecked, IsRefused, IsTold, Texts, Judges, Outcome, files_of, source_limit}
use Rattle.replies.specs.Ends.{Passage, TookAll, Ends}
use Rattle.regblock.proofs.Asked.{asked}
use Rattle.regblock.specs.Headline.{AreHeld, AreToldVerdicts, IsFrontRight, IsHeader, IsManual, IsRight, IsTable, IsToldFailure, IsToldFirst, IsToldForAxi}

-- the line of the first failure of a verdict
told_by : (contents : Option Files) (err out : Passage) (IsVerdictOf : List ℕ → List Fault → Type 0) (file : List ℕ) (texts : Texts) (source : List ℕ) → Holds contents file source
    → IsTold (IsVerdictOf source) file source texts → TookAll err texts.err → TookAll out texts.out → IsToldFirst contents IsVerdictOf file err out
told_by contents err out IsVerdictOf file texts source held judged e o =
    let P : List ℕ → Type 0 = λ t. TookAll err t in
    let Q : List ℕ → Type 0 = λ t. TookAll out t in
    record { source = source; place = judged.place; rule = judged.rule; held = held; fails = judged.fails; told = subst P judged.told.0 e; quiet = subst Q judged.told.1 o }

-- the macros of a header have different names where its enumerations are apart
abbrev MacrosDiffer : Type 0
MacrosDiffer = (b : Block) (es : List Enumeration) → IsSound b → IsApart b → AreApart b es → IsTrue (distinct (map (λ m. m.name) (all_macros b es)))

-- and those of a source are
abbrev EncodingsAreApart : Type 0
EncodingsAreApart = (wanted : Option (List ℕ)) (text : List ℕ) (s : Source) (waits : ℕ) (b : Block) → Reads text s.items.now → instances wanted s [] → IsBlockOf wanted s waits b → AreApart b (source_encodings wanted s).list

-- where no phase has a failure, that of the instances has none
first_clean : (top : Option (List ℕ)) (s : Source) → FirstOf (tree_phases top s) [] → instances top s []
first_clean top s (inl h) = absurd (h.1 refl)
first_clean top s (inr h) = h.0

module _ (contents : Option Files) (err out : Passage) (top : Option (List ℕ)) (file : List ℕ) (texts : Texts) where
  pub told : (source : List ℕ) → Holds contents file source → IsRefused top file source texts → TookAll err texts.err → TookAll out texts.out → IsToldFailure contents top file err out
  told source held judged e o = told_by contents err out (IsVerdict top) file texts source held judged e o

  at-front : (sources : List (List ℕ)) → AreRead contents (files_of (axi_of top file)) sources → Judges (axi_of top file) sources Done texts
      → TookAll err texts.err → TookAll out texts.out → IsFrontRight contents top file err out
  at-front [] read judged e o = absurd judged
  at-front (source ∷ a ∷ more) read judged e o = absurd judged
  at-front (source ∷ []) read judged e o =
      let P : List ℕ → Type 0 = λ t. TookAll err t in
      record {
        source = source;
        tree = judged.tree;
        block = judged.block;
        text = texts.out;
        held = read.0.held;
        clean = inr (judged.tree, judged.described.reads, judged.described.clean, judged.whole);
        described = judged.described;
        agrees = judged.agrees;
        written = o;
        quiet = subst P judged.quiet e;
      }

  no-front : (sources : List (List ℕ)) → AreRead contents (files_of (axi_of top file)) sources → Judges (axi_of top file) sources Refused texts
      → TookAll err texts.err → TookAll out texts.out → IsToldForAxi contents top file err out
  no-front [] read judged e o = absurd judged
  no-front (source ∷ a ∷ more) read judged e o = absurd judged
  no-front (source ∷ []) read judged e o = told_by contents err out (IsAxiVerdict top) file texts source read.0.held judged e o

  listed : (sources : List (List ℕ)) → AreRead contents (files_of (map_of top file)) sources → Judges (map_of top file) sources Done texts
      → TookAll err texts.err → TookAll out texts.out → IsTable contents top file err out
  listed [] read judged e o = absurd judged
  listed (source ∷ a ∷ more) read judged e o = absurd judged
  listed (source ∷ []) read judged e o =
      let P : List ℕ → Type 0 = λ t. TookAll err t in
      let Q : List ℕ → Type 0 = λ t. TookAll out t in
      record { source = source; tree = judged.tree; block = judged.block; held = read.0.held; described = judged.described; written = subst Q judged.table o; quiet = subst P judged.quiet e }

  unlisted : (sources : List (List ℕ)) → AreRead contents (files_of (map_of top file)) sources → Judges (map_of top file) sources Refused texts
      → TookAll err texts.err → TookAll out texts.out → IsToldFailure contents top file err out
  unlisted [] read judged e o = absurd judged
  unlisted (source ∷ a ∷ more) read judged e o = absurd judged
  unlisted (source ∷ []) read judged e o = told source read.0.held judged e o

  headed : MacrosDiffer → EncodingsAreApart → (sources : List (List ℕ)) → AreRead contents (files_of (header_of top file)) sources → Judges (header_of top file) sources Done texts
      → TookAll err texts.err → TookAll out texts.out → IsHeader contents top file err out
  headed macros encodings [] read judged e o = absurd judged
  headed macros encodings (source ∷ a ∷ more) read judged e o = absurd judged
  headed macros encodings (source ∷ []) read judged e o =
      let P : List ℕ → Type 0 = λ t. TookAll err t in
      let Q : List ℕ → Type 0 = λ t. TookAll out t in
      let d = judged.described in
      let apart = encodings top source judged.tree 0 judged.block d.reads (first_clean top judged.tree d.clean) d.block in
      record {
        source = source;
        tree = judged.tree;
        block = judged.block;
        held = read.0.held;
        described = d;
        written = subst Q judged.text o;
        differ = macros judged.block (source_encodings top judged.tree).list d.sound d.apart apart;
        quiet = subst P judged.quiet e;
      }

  unheaded : (sources : List (List ℕ)) → AreRead contents (files_of (header_of top file)) sources → Judges (header_of top file) sources Refused texts
      → TookAll err texts.err → TookAll out texts.out → IsToldFailure contents top file err out
  unheaded [] read judged e o = absurd judged
  unheaded (source ∷ a ∷ more) read judged e o = absurd judged
  unheaded (source ∷ []) read judged e o = told source read.0.held judged e o

  paged : (sources : List (List ℕ)) → AreRead contents (files_of (manual_of top file)) sources → Judges (manual_of top file) sources Done texts
      → TookAll err texts.err → TookAll out texts.out → IsManual contents top file err out
  paged [] read judged e o = absurd judged
  paged (source ∷ a ∷ more) read judged e o = absurd judged
  paged (source ∷ []) read judged e o =
      let P : List ℕ → Type 0 = λ t. TookAll err t in
      let Q : List ℕ → Type 0 = λ t. TookAll out t in
      record { source = source; tree = judged.tree; block = judged.block; held = read.0.held; described = judged.described; written = subst Q judged.text o; quiet = subst P judged.quiet e }

  unpaged : (sources : List (List ℕ)) → AreRead contents (files_of (manual_of top file)) sources → Judges (manual_of top file) sources Refused texts
      → TookAll err texts.err → TookAll out texts.out → IsToldFailure contents top file err out
  unpaged [] read judged e o = absurd judged
  unpaged (source ∷ a ∷ more) read judged e o = absurd judged
  unpaged (source ∷ []) read judged e o = told source read.0.held judged e o

module _ (contents : Option Files) (err out : Passage) (waits : Option ℕ) (top : Option (List ℕ)) (file : List ℕ) (texts : Texts) where
  compiled : (sources : List (List ℕ)) → AreRead contents (files_of (compile waits top file)) sources → Judges (compile waits top file) sources Done texts
      → TookAll err texts.err → TookAll out texts.out → IsRight contents (waits_of waits) top file err out
  compiled [] read judged e o = absurd judged
  compiled (source ∷ a ∷ more) read judged e o = absurd judged
  compiled (source ∷ []) read judged e o =
      let P : List ℕ → Type 0 = λ t. TookAll err t in
      record {
        source = source;
        tree = judged.tree;
        block = judged.block;
        text = texts.out;
        held = read.0.held;
        clean = tree judged.tree judged.described.reads judged.described.clean;
        described = judged.described;
        agrees = judged.agrees;
        written = o;
        quiet = subst P judged.quiet e;
      }

  uncompiled : (sources : List (List ℕ)) → AreRead contents (files_of (compile waits top file)) sources → Judges (compile waits top file) sources Refused texts
      → TookAll err texts.err → TookAll out texts.out → IsToldFailure contents top file err out
  uncompiled [] read judged e o = absurd judged
  uncompiled (source ∷ a ∷ more) read judged e o = absurd judged
  uncompiled (source ∷ []) read judged e o = told contents err out top file texts source read.0.held judged e o

held-all : (contents : Option Files) (files : List (List ℕ)) (sources : List (List ℕ)) → AreRead contents (map (λ f. (f, source_limit)) files) sources → AreHeld contents files sources
held-all contents [] [] read = tt
held-all contents [] (s ∷ ss) read = absurd read
held-all contents (f ∷ fs) [] read = absurd read
held-all contents (f ∷ fs) (s ∷ ss) read = (read.0.held, held-all contents fs ss read.1)

told-all : (contents : Option Files) (err out : Passage) (top : Option (List ℕ)) (files sources : List (List ℕ)) (status : Status) (texts : Texts) → AreRead contents (map (λ f. (f, source_limit)) files) sources → IsChecked top files sources status texts
    → TookAll err texts.err → TookAll out texts.out → AreToldVerdicts contents top files err out
told-all contents err out top files sources status texts read judged e o =
    let P : List ℕ → Type 0 = λ t. TookAll err t in
    let Q : List ℕ → Type 0 = λ t. TookAll out t in
    record { sources = sources; lists = judged.lists; held = held-all contents files sources read; verdicts = judged.verdicts; told = subst P judged.told e; fine = subst Q judged.fine o }

module _ (words : List (List ℕ)) (contents : Option Files) (failed : List ℕ → Type 0) (err out : Passage) (result : Status) (ends : Ends (Outcome words contents failed) err out result) where
  abbrev At : Status → Type 0
  At status = Ends (Outcome words contents failed) err out status

  pub done : (waits : Option ℕ) (top : Option (List ℕ)) (file : List ℕ) → Asks words (compile waits top file) → result ≡ Done → IsRight contents (waits_of waits) top file err out
  done waits top file asks is =
      let at = subst At is ends in
      let a = asked words contents failed (compile waits top file) Done at.0 asks at.1 in
      compiled contents err out waits top file at.0 a.0 a.1 a.2 at.2 at.3

  pub refused : (waits : Option ℕ) (top : Option (List ℕ)) (file : List ℕ) → Asks words (compile waits top file) → result ≡ Refused → IsToldFailure contents top file err out
  refused waits top file asks is =
      let at = subst At is ends in
      let a = asked words contents failed (compile waits top file) Refused at.0 asks at.1 in
      uncompiled contents err out waits top file at.0 a.0 a.1 a.2 at.2 at.3

  pub fronted : (top : Option (List ℕ)) (file : List ℕ) → Asks words (axi_of top file) → result ≡ Done → IsFrontRight contents top file err out
  fronted top file asks is =
      let at = subst At is ends in
      let a = asked words contents failed (axi_of top file) Done at.0 asks at.1 in
      at-front contents err out top file at.0 a.0 a.1 a.2 at.2 at.3

  pub not_fronted : (top : Option (List ℕ)) (file : List ℕ) → Asks words (axi_of top file) → result ≡ Refused → IsToldForAxi contents top file err out
  not_fronted top file asks is =
      let at = subst At is ends in
      let a = asked words contents failed (axi_of top file) Refused at.0 asks at.1 in
      no-front contents err out top file at.0 a.0 a.1 a.2 at.2 at.3

  pub mapped : (top : Option (List ℕ)) (file : List ℕ) → Asks words (map_of top file) → result ≡ Done → IsTable contents top file err out
  mapped top file asks is =
      let at = subst At is ends in
      let a = asked words contents failed (map_of top file) Done at.0 asks at.1 in
      listed contents err out top file at.0 a.0 a.1 a.2 at.2 at.3

  pub unmapped : (top : Option (List ℕ)) (file : List ℕ) → Asks words (map_of top file) → result ≡ Refused → IsToldFailure contents top file err out
  unmapped top file asks is =
      let at = subst At is ends in
      let a = asked words contents failed (map_of top file) Refused at.0 asks at.1 in
      unlisted contents err out top file at.0 a.0 a.1 a.2 at.2 at.3

  pub headered : MacrosDiffer → EncodingsAreApart → (top : Option (List ℕ)) (file : List ℕ) → Asks words (header_of top file) → result ≡ Done → IsHeader contents top file err out
  headered macros encodings top file asks is =
      let at = subst At is ends in
      let a = asked words contents failed (header_of top file) Done at.0 asks at.1 in
      headed contents err out top file at.0 macros encodings a.0 a.1 a.2 at.2 at.3

  pub not_headered : (top : Option (List ℕ)) (file : List ℕ) → Asks words (header_of top file) → result ≡ Refused → IsToldFailure contents top file err out
  not_headered top file asks is =
      let at = subst At is ends in
      let a = asked words contents failed (header_of top file) Refused at.0 asks at.1 in
      unheaded contents err out top file at.0 a.0 a.1 a.2 at.2 at.3

  pub documented : (top : Option (List ℕ)) (file : List ℕ) → Asks words (manual_of top file) → result ≡ Done → IsManual contents top file err out
  documented top file asks is =
      let at = subst At is ends in
      let a = asked words contents failed (manual_of top file) Done at.0 asks at.1 in
      paged contents err out top file at.0 a.0 a.1 a.2 at.2 at.3

  pub undocumented : (top : Option (List ℕ)) (file : List ℕ) → Asks words (manual_of top file) → result ≡ Refused → IsToldFailure contents top file err out
  undocumented top file asks is =
      let at = subst At is ends in
      let a = asked words contents failed (manual_of top file) Refused at.0 asks at.1 in
      unpaged contents err out top file at.0 a.0 a.1 a.2 at.2 at.3

  checked_at : (top : Option (List ℕ)) (files : List (List ℕ)) (status : Status) → (status ≡ Done) ⊎ (status ≡ Refused) → Asks words (check top files) → At status → AreToldVerdicts contents top files err out
  checked_at top files Done h asks at =
      let a = asked words contents failed (check top files) Done at.0 asks at.1 in told-all contents err out top files a.0 Done at.0 a.1 a.2 at.2 at.3
  checked_at top files Refused h asks at =
      let a = asked words contents failed (check top files) Refused at.0 asks at.1 in told-all contents err out top files a.0 Refused at.0 a.1 a.2 at.2 at.3
  checked_at top files status h asks at = absurd (⊎_elim (λ e. cc e) (λ e. cc e) h)

  pub checked : (top : Option (List ℕ)) (files : List (List ℕ)) → Asks words (check top files) → (result ≡ Done) ⊎ (result ≡ Refused) → AreToldVerdicts contents top files err out
  checked top files asks is = checked_at top files result is asks ends
