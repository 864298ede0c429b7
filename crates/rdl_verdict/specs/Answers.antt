-- What the calls of this crate answer.
use Rattle.std.specs.Prelude.{◌≡◌, ◌≢◌, ℕ, List, [], Option, Result, Ok, Err}
use Rattle.rdl_base.specs.declared.fault.Fault.{Fault}
use Rattle.rdl_values.specs.Elaboration.{Elaborates, IsClean}
use Rattle.rdl_encodings.specs.Encoded.{source_encodings}
use Rattle.rdl_verdict.specs.Verdict.{IsDescribed, IsVerdict}
use Rattle.rdl_verdict.specs.declared.error.JudgeError.{JudgeError}
use Rattle.rdl_verdict.specs.declared.error.JudgeError.TheVariants as error
use Rattle.rdl_verdict.specs.declared.judging.Judged.{Judged}

-- a source that breaks no rule: its tree, the enumerations by which the fields of its block are encoded, and the block
pub record IsJudged (wanted : Option (List ℕ)) (text : List ℕ) (j : Judged) : Type 0 where
  pub clean : IsClean j.elab
  pub props : j.settled.props ≡ j.elab
  pub tree : Elaborates wanted j.elab.source.now j.elab
  pub encodings : j.settled.encodings ≡ source_encodings wanted j.elab.source.now
  pub described : IsDescribed wanted text j.elab.source.now j.block

-- one that breaks some: its verdict
pub record IsRefused (wanted : Option (List ℕ)) (text : List ℕ) (list : List Fault) : Type 0 where
  pub verdict : IsVerdict wanted text list
  pub some : list ≢ []

abbrev pub Refuses : Option (List ℕ) → List ℕ → JudgeError → Type 0
Refuses wanted text (error.Faults list) = IsRefused wanted text list.items
Refuses wanted text error.NoMemory = Unit {0}

-- `judge`. Want of memory may be answered anywhere.
abbrev pub Judges : Option (List ℕ) → List ℕ → Result Judged JudgeError → Type 0
Judges wanted text (Ok j) = IsJudged wanted text j
Judges wanted text (Err e) = Refuses wanted text e

-- `verdict`: none, or what `judge` refuses. Want of memory may be answered anywhere.
abbrev pub Decides : {A : Type 0} → Option (List ℕ) → List ℕ → Result A JudgeError → Type 0
Decides wanted text (Ok x) = IsVerdict wanted text []
Decides wanted text (Err e) = Refuses wanted text e
