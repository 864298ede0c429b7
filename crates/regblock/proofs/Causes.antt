-- The cause of each end.
use Rattle.std.proofs.Common.{◌≡◌, ◌⊎◌, ⊎_elim, inl, inr, ℕ, List, [], ◌∷◌, Option, refl, subst}
use Rattle.rb_edge.specs.Count.{Rose}
use Rattle.rb_edge.specs.Shelf.{Files, IsLonger}
use Rattle.replies.specs.declared.status.Status.{Status}
use Rattle.replies.specs.declared.status.Status.TheVariants.{Usage, ReadFault, WriteFault, TooLong}
use Rattle.command_line.specs.Words.{Command, Asks, AsksNothing}
use Rattle.replies.specs.Outcome.{StopsAt, Outcome, files_of}
use Rattle.replies.proofs.Rows.{unjudged}
use Rattle.replies.specs.Ends.{Passage, Ends}

stops_weaker : (contents : Option Files) (P Q : List ℕ → ℕ → Type 0) (named : List (List ℕ × ℕ)) → ((file : List ℕ) (limit : ℕ) → P file limit → Q file limit) → StopsAt contents P named → StopsAt contents Q named
stops_weaker contents P Q [] weaker stops = stops
stops_weaker contents P Q (file ∷ more) weaker stops = ⊎_elim (λ here. inl (weaker file.0 file.1 here)) (λ there. inr (there.0, there.1, stops_weaker contents P Q more weaker there.2)) stops

module _ (words : List (List ℕ)) (contents : Option Files) (failed : List ℕ → Type 0) (err out : Passage) (result : Status) (ends : Ends (Outcome words contents failed) err out result) where
  abbrev At : Status → Type 0
  At status = Ends (Outcome words contents failed) err out status

  pub usage_cause : result ≡ Usage → AsksNothing words
  usage_cause is = let at = subst At is ends in
      ⊎_elim (λ asked. absurd (unjudged asked.0 asked.2.0 Usage at.0 refl asked.2.2)) (λ none. none.0) at.1

  pub read_fault_cause : result ≡ ReadFault → (command : Command) × Asks words command × StopsAt contents (λ file _. failed file) (files_of command)
  read_fault_cause is = let at = subst At is ends in
      ⊎_elim (λ asked. (asked.0, asked.1, stops_weaker contents _ _ (files_of asked.0) (λ file limit both. both.0) asked.2)) (λ none. let e = none.1 in cc) at.1

  pub too_long_cause : result ≡ TooLong → (command : Command) × Asks words command × StopsAt contents (λ file limit. IsLonger contents file limit) (files_of command)
  too_long_cause is = let at = subst At is ends in
      ⊎_elim (λ asked. (asked.0, asked.1, stops_weaker contents _ _ (files_of asked.0) (λ file limit both. both.0) asked.2)) (λ none. let e = none.1 in cc) at.1

  pub write_fault_cause : result ≡ WriteFault → Rose err.before err.after ⊎ Rose out.before out.after
  write_fault_cause is = let at = subst At is ends in ⊎_elim (λ first. inl first.0.1) (λ second. inr second.1.1) at.3
