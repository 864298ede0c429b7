-- What the names in a script mean.
use Rattle.std.specs.Prelude.{ℕ, ◌+◌, ◌==◌, Option, None, Some, List, [], ◌∷◌, ◌++◌, bytes_eq, codes, cond, decimal, drop, slice_get}
use Rattle.std.specs.List.{enumerate_from, flat_map}
use Rattle.rb_base.specs.declared.ports.Pin.{Pin}
use Rattle.rb_model.specs.declared.block.Block.{Block}
use Rattle.rb_model.specs.declared.block.Word.{Word}
use Rattle.rb_model.specs.Kept.{when}
use Rattle.rb_model.specs.Ports.{input_pins}
use Rattle.report_text.specs.Lines.{path_at}
use Rattle.machine_run.specs.Runs.{output_pins}
use Rattle.drive_names.specs.declared.table.Meaning.{Meaning}
use Rattle.drive_names.specs.declared.words.Named.{Named}

-- the meaning of the first that has the name
abbrev pub meaning_of : List Named → List ℕ → Option Meaning
meaning_of [] name = None
meaning_of (n ∷ ns) name = cond (bytes_eq n.name name) (Some n.meaning) (meaning_of ns name)

-- A word is named by the path of its register as `map` prints it, with its number in the register behind a colon; the first word of a
-- register is named by the path alone, too. It is meant by its address.

abbrev pub under : Word → List ℕ → Named
under w name = record { name = name; meaning = record { at = w.address; width = w.width } }

abbrev pub names_of : Block → Word → List Named
names_of b w = under w (path_at b w.reg ++ codes ":" ++ decimal w.number) ∷ when (w.number == 0) (under w (path_at b w.reg))

-- the word that a write reaches, where it isn't that of the read at its address
abbrev pub other_names : Block → Word → Option Word → List Named
other_names b r None = []
other_names b r (Some w) = cond (w.reg == r.reg) [] (names_of b w)

abbrev pub names_at : Block → ℕ × Word → List Named
names_at b r = names_of b r.1 ++ other_names b r.1 (slice_get b.writes r.0)

-- the words that `map` lists, in its order
abbrev pub named_words : Block → List Named
named_words b = flat_map (names_at b) (enumerate_from 0 b.reads)

-- Pins are meant by their places, which count from k.

abbrev pub named_pins : ℕ → List Pin → List Named
named_pins k [] = []
named_pins k (p ∷ ps) = record { name = p.name; meaning = record { at = k; width = p.width } } ∷ named_pins (k + 1) ps

-- the inputs behind those of the bus, by their places among these
abbrev pub named_inputs : Block → List Named
named_inputs b = named_pins 0 (drop 6 (input_pins b))

-- the outputs behind those of the bus, by their places among all outputs
abbrev pub named_outputs : Block → List Named
named_outputs b = named_pins 3 (drop 3 (output_pins b))
