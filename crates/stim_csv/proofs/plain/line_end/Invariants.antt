use Rattle.std.proofs.Common.{◌≡◌, true, take}
use Rattle.std.specs.List.{AllByRecursion}
use Rattle.stim_csv.specs.Plain.{is_of_line}
use Rattle.stim_csv.proofs.plain.line_end.Given as goal

abbrev pub invariant-loop-end : goal.invariant-loop-end
invariant-loop-end l = AllByRecursion (λ c. is_of_line c ≡ true) (take l.end l.text)
