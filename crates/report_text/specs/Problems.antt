-- The texts of what is wrong with a table of pin values.
use Rattle.std.specs.Option.{option_map_or}
use Rattle.std.specs.Fmt.{decimal}
use Rattle.std.specs.Prelude.{ℕ, List, [], ◌++◌, codes, slice_get}
use Rattle.rb_base.specs.declared.ports.Pin.{Pin}
use Rattle.stim_csv.specs.declared.error.StimError.{StimError}
use Rattle.stim_csv.specs.declared.error.StimError.TheVariants.{UnknownPin, TwicePin, MissingPin, TooMany, Form, TooWide, NoMemory}

-- the name of the pin of this number
abbrev pub name_at : List Pin → ℕ → List ℕ
name_at pins i = option_map_or (λ p. p.name) (slice_get pins i) []

abbrev pub problem_text : List Pin → StimError → List ℕ
problem_text pins (UnknownPin c) = codes "column " ++ (decimal c ++ codes ": unknown pin")
problem_text pins (TwicePin c) = codes "column " ++ (decimal c ++ codes ": pin named twice")
problem_text pins (MissingPin i) = codes "pin " ++ (name_at pins i ++ codes " missing")
problem_text pins (TooMany row) = codes "row " ++ (decimal row ++ codes ": too many")
problem_text pins (Form row) = codes "row " ++ (decimal row ++ codes ": form")
problem_text pins (TooWide row c) = codes "row " ++ (decimal row ++ (codes " column " ++ (decimal c ++ codes ": too wide")))
problem_text pins NoMemory = []
