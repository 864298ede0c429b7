-- What the words of a command line ask for.
use Rattle.std.specs.Prelude.{◌≡◌, ◌≢◌, ℕ, ◌<◌, ◌≤◌, IsTrue, List, [], ◌∷◌, ◌++◌, All, Option, None, Some, length, map, slice_index, codes, decimal, String}
use Rattle.std.specs.String.{string_bytes}
use Rattle.std.specs.declared.alloc.Global.{Global}
use Rattle.rdl_tree.specs.Words.{is_word}

-- a command: the number of wait states and the name of the top, where they are given, and the names of its files; or a number of registers
pub data Command : Type 0 where
  compile : (waits : Option ℕ) (top : Option (List ℕ)) (source : List ℕ) → Command
  check : (top : Option (List ℕ)) (sources : List (List ℕ)) → Command
  map_of : (top : Option (List ℕ)) (source : List ℕ) → Command
  header_of : (top : Option (List ℕ)) (source : List ℕ) → Command
  manual_of : (top : Option (List ℕ)) (source : List ℕ) → Command
  axi_of : (top : Option (List ℕ)) (source : List ℕ) → Command
  sim : (verilog stimulus : List ℕ) → Command
  vcd : (verilog stimulus : List ℕ) → Command
  pins_of : (waves : List ℕ) → Command
  run_of : (waits : Option ℕ) (top : Option (List ℕ)) (source stimulus : List ℕ) → Command
  drive_of : (top : Option (List ℕ)) (source script : List ℕ) → Command
  gen_of : (count : ℕ) → Command

-- the wait states of a transfer: none, where no number is given
abbrev pub waits_of : Option ℕ → ℕ
waits_of None = 0
waits_of (Some n) = n

-- a transfer has no wait state, or one
abbrev pub IsWaits : Option ℕ → Type 0
IsWaits None = Unit {0}
IsWaits (Some n) = n ≤ 1

-- a word that names a file: it isn't empty and doesn't begin with a dash
pub record IsFileWord (word : List ℕ) : Type 0 where
  pub some : 0 < length word
  pub no_dash : slice_index word 0 ≢ 45

-- the name of the top is a letter or _, then letters, digits and _
abbrev pub IsTop : Option (List ℕ) → Type 0
IsTop None = Unit {0}
IsTop (Some name) = IsTrue (is_word name)

-- 1 to 64 words that name files
pub record AreFileWords (words : List (List ℕ)) : Type 0 where
  pub some : 0 < length words
  pub few : length words ≤ 64
  pub each : All IsFileWord words

-- the words that give the wait states
abbrev pub waits_words : Option ℕ → List (List ℕ)
waits_words None = []
waits_words (Some n) = codes "--waits" ∷ decimal n ∷ []

-- the words that name the top
abbrev pub top_words : Option (List ℕ) → List (List ℕ)
top_words None = []
top_words (Some name) = codes "--top" ∷ name ∷ []

-- the words of a command
abbrev pub words_of : Command → List (List ℕ)
words_of (compile waits top source) = codes "compile" ∷ waits_words waits ++ top_words top ++ source ∷ []
words_of (check top sources) = codes "check" ∷ top_words top ++ sources
words_of (map_of top source) = codes "map" ∷ top_words top ++ source ∷ []
words_of (header_of top source) = codes "header" ∷ top_words top ++ source ∷ []
words_of (manual_of top source) = codes "manual" ∷ top_words top ++ source ∷ []
words_of (axi_of top source) = codes "axi" ∷ top_words top ++ source ∷ []
words_of (sim verilog stimulus) = codes "sim" ∷ verilog ∷ stimulus ∷ []
words_of (vcd verilog stimulus) = codes "vcd" ∷ verilog ∷ stimulus ∷ []
words_of (pins_of waves) = codes "pins" ∷ waves ∷ []
words_of (run_of waits top source stimulus) = codes "run" ∷ waits_words waits ++ top_words top ++ source ∷ stimulus ∷ []
words_of (drive_of top source script) = codes "drive" ∷ top_words top ++ source ∷ script ∷ []
words_of (gen_of count) = codes "gen" ∷ decimal count ∷ []

-- what a command carries has its form
abbrev pub IsCommand : Command → Type 0
IsCommand (compile waits top source) = IsWaits waits × IsTop top × IsFileWord source
IsCommand (check top sources) = IsTop top × AreFileWords sources
IsCommand (map_of top source) = IsTop top × IsFileWord source
IsCommand (header_of top source) = IsTop top × IsFileWord source
IsCommand (manual_of top source) = IsTop top × IsFileWord source
IsCommand (axi_of top source) = IsTop top × IsFileWord source
IsCommand (sim verilog stimulus) = IsFileWord verilog × IsFileWord stimulus
IsCommand (vcd verilog stimulus) = IsFileWord verilog × IsFileWord stimulus
IsCommand (pins_of waves) = IsFileWord waves
IsCommand (run_of waits top source stimulus) = IsWaits waits × IsTop top × IsFileWord source × IsFileWord stimulus
IsCommand (drive_of top source script) = IsTop top × IsFileWord source × IsFileWord script
IsCommand (gen_of count) = (1 ≤ count) × (count ≤ 8192)

-- the words ask for the command
pub record Asks (words : List (List ℕ)) (command : Command) : Type 0 where
  pub spelled : words ≡ words_of command
  pub formed : IsCommand command

-- they ask for none
abbrev pub AsksNothing : List (List ℕ) → Type 0
AsksNothing words = (command : Command) → Asks words command → ⊥

abbrev pub texts : List (String Global) → List (List ℕ)
texts words = map (λ word. string_bytes word) words
