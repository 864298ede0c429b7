-- What calls that write make of a page and the sink behind it, where a failure is kept and told at the end.
use Rattle.std.specs.Prelude.{◌≡◌, ℕ, Bool, true, false, List, Result, Ok, Err}
use Rattle.rb_edge.specs.Flows.{Flows}
use Rattle.rb_edge.specs.Sink.{Told}
use Rattle.html_text.specs.declared.pen.Pen.{Pen}

-- what the sink tells and how many faults it had, the bytes that wait, and whether a call failed
pub record At : Type 0 where
  pub told : Told
  pub faults : ℕ
  pub waits : List ℕ
  pub failed : Bool

abbrev pub at : Told → ℕ → Pen → At
at told faults pen = record { told = told; faults = faults; waits = pen.page; failed = pen.failed }

abbrev pub outcome : Bool → Result ℕ ℕ
outcome false = Ok 0
outcome true = Err 0

-- Before a failure the bytes are put behind those that wait; after it nothing is written any more.
pub record Writes (s t : At) (bytes : List ℕ) : Type 0 where
  pub goes_on : s.failed ≡ false → Flows s.told t.told s.faults t.faults s.waits t.waits (outcome t.failed) bytes
  pub stays : s.failed ≡ true → t ≡ s
