-- Files that are checked, one by one.
use Rattle.std.specs.Prelude.{◌≡◌, ◌⊎◌, ℕ, ◌++◌, cond, List, [], map, Option, Vec}
use Rattle.std.specs.Global.{Global}
use Rattle.rdl_base.specs.declared.fault.Fault.{Fault}
use Rattle.rb_edge.specs.Shelf.{Files, IsLonger}
use Rattle.rdl_verdict.specs.Verdict.{IsVerdict}
use Rattle.verdict_text.specs.Lines.{ok_line, verdict_lines}
use Rattle.replies.specs.declared.answer.Answer.{Answer}
use Rattle.replies.specs.declared.checking.AllLoaded.{AllLoaded}
use Rattle.replies.specs.declared.checking.AllLoaded.TheVariants.{Sources, Stopped}
use Rattle.replies.specs.declared.status.Status.TheVariants.{ReadFault, Refused, TooLong}
use Rattle.replies.specs.Outcome.{AreRead, StopsAt, IsNotice, has_none, source_limit}
use Rattle.replies.specs.Answer.{texts_of}
use Rattle.replies.specs.Text.{cannot_read, too_long}

abbrev pub bytes_of : List (Vec ℕ Global) → List (List ℕ)
bytes_of vs = map (λ v. v.items) vs

-- files that hold sources, each with the most bytes that it may have
abbrev pub limited : List (List ℕ) → List (List ℕ × ℕ)
limited files = map (λ file. (file, source_limit)) files

-- all were read whole, or an answer says why not
abbrev pub AreLoaded : Option Files → (List ℕ → Type 0) → List (List ℕ) → AllLoaded → Type 0
AreLoaded contents failed files (Sources list) = AreRead contents (limited files) (bytes_of list.items)
AreLoaded contents failed files (Stopped answer) =
    ((answer.status ≡ ReadFault) × StopsAt contents (λ file limit. failed file × IsNotice (texts_of answer) (cannot_read file)) (limited files))
    ⊎ ((answer.status ≡ TooLong) × StopsAt contents (λ file limit. IsLonger contents file limit × IsNotice (texts_of answer) (too_long file limit)) (limited files))

-- The verdict of one source more was put behind those of others.
pub record IsOneMore (top : Option (List ℕ)) (file source : List ℕ) (old new : Answer) : Type 0 where
  pub list : List Fault
  pub verdict : IsVerdict top source list
  pub told : new.err.items ≡ old.err.items ++ verdict_lines file source list
  pub fine : new.out.items ≡ old.out.items ++ cond (has_none list) (ok_line file) []
  pub ends : new.status ≡ cond (has_none list) old.status Refused
