-- What a turn asks, and what is told of it.
use Rattle.std.proofs.Common.{◌≡◌, ℕ, false, ◌==◌, List, ◌++◌, Contains, codes, slice_index, refl, subst}
use Rattle.report_text.specs.Printed.{cell}
use Rattle.drive_lang.specs.declared.order.Turn.TheVariants.{Show, Check}
use Rattle.drive_lang.specs.Steps.{Ask, Checks, Nothing, Shows, Step, turn_of}
use Rattle.drive_lang.specs.Playing.{AsksAs, IsSpelled}
use Rattle.drive_run.specs.Transcript.{of_line, told}

show_of : (a : Ask) (line output : ℕ) → Show line output ≡ turn_of a → (name : List ℕ) × (Shows line name output ≡ a)
show_of Nothing line output e = cc e
show_of (Shows l n o) line output e = (n, cc e)
show_of (Checks l n o w) line output e = cc e

check_of : (a : Ask) (line output wanted : ℕ) → Check line output wanted ≡ turn_of a → (name : List ℕ) × (Checks line name output wanted ≡ a)
check_of Nothing line output wanted e = cc e
check_of (Shows l n o) line output wanted e = cc e
check_of (Checks l n o w) line output wanted e = (n, cc e)

module _ (all : List Step) (step : Step) (among : Contains all step) where
  -- the name of a show, and of a check
  pub shown : (line output : ℕ) → Show line output ≡ turn_of step.ask → (name : List ℕ) × IsSpelled all line name × (Shows line name output ≡ step.ask)
  shown line output e =
      let s = show_of step.ask line output e in
      (s.0, record { step = step; among = among; asks = subst (λ a. AsksAs a line s.0) s.1 (refl, refl) }, s.1)

  pub checked : (line output wanted : ℕ) → Check line output wanted ≡ turn_of step.ask → (name : List ℕ) × IsSpelled all line name × (Checks line name output wanted ≡ step.ask)
  checked line output wanted e =
      let s = check_of step.ask line output wanted e in
      (s.0, record { step = step; among = among; asks = subst (λ a. AsksAs a line s.0) s.1 (refl, refl) }, s.1)

-- what is told of a check whose value differs
pub different : (line : ℕ) (name : List ℕ) (k wanted : ℕ) (outs : List ℕ) → (slice_index outs k == wanted) ≡ false
    → of_line line name (codes " expected " ++ cell wanted ++ codes " got " ++ cell (slice_index outs k)) ≡ told (Checks line name k wanted) outs
different line name k wanted outs e = rw e refl
