-- The transcript of a script: what its lines show, and which of its checks failed (this project's format).
use Rattle.std.specs.Prelude.{ℕ, ◌==◌, Bool, true, false, not, if◌then◌else◌, List, [], ◌++◌, codes, count_by, decimal, slice_index, zip}
use Rattle.std.specs.List.{flat_map}
use Rattle.report_text.specs.Printed.{cell}
use Rattle.drive_lang.specs.Steps.{Ask, Checks, Nothing, Shows, Step}

-- a step, and the block's outputs at its vector
abbrev pub Seen : Type 0
Seen = Step × List ℕ

-- a line and a name, in front of what is told of them
abbrev pub of_line : (line : ℕ) (name told : List ℕ) → List ℕ
of_line line name told = decimal line ++ codes " " ++ name ++ told ++ codes "\n"

abbrev pub is_check : Ask → Bool
is_check Nothing = false
is_check (Shows line name k) = false
is_check (Checks line name k wanted) = true

-- a check whose value differs, at the vector at which it is asked
abbrev pub is_failed : Ask → (outs : List ℕ) → Bool
is_failed Nothing outs = false
is_failed (Shows line name k) outs = false
is_failed (Checks line name k wanted) outs = not (slice_index outs k == wanted)

-- A show tells the number of its output. A check tells both numbers where they differ, and else nothing.
abbrev pub told : Ask → (outs : List ℕ) → List ℕ
told Nothing outs = []
told (Shows line name k) outs = of_line line name (codes " " ++ cell (slice_index outs k))
told (Checks line name k wanted) outs =
    if slice_index outs k == wanted then [] else of_line line name (codes " expected " ++ cell wanted ++ codes " got " ++ cell (slice_index outs k))

-- how many checks there are, and how many failed
abbrev pub checks_in : List Seen → ℕ
checks_in seen = count_by (λ s. is_check s.0.ask) seen

abbrev pub failed_in : List Seen → ℕ
failed_in seen = count_by (λ s. is_failed s.0.ask s.1) seen

-- the lines of what was seen, in order, and the counts of checks
abbrev pub transcript : (steps : List Step) (results : List (List ℕ)) → List ℕ
transcript steps results =
    let seen = zip steps results in
    flat_map (λ s. told s.0.ask s.1) seen ++ (codes "checks " ++ decimal (checks_in seen) ++ codes " failed " ++ decimal (failed_in seen) ++ codes "\n")
