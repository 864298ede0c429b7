-- The command that is found in words.
use Rattle.std.specs.Prelude.{ℕ, Bool, false, not, ◌&&◌, ◌==◌, cond, bytes_eq, nat_le, List, [], ◌∷◌, Option, None, Some, length, codes, decimal}
use Rattle.std.specs.List.{list_all}
use Rattle.std.specs.Str.Parse.{digits_value}
use Rattle.rdl_tree.specs.Words.{is_word}
use Rattle.command_line.specs.Words.{Command, check, compile, drive_of, gen_of, header_of, manual_of, axi_of, map_of, pins_of, run_of, sim, vcd}

-- the wait states, and the words behind them
pub record Waited : Type 0 where
  pub waits : Option ℕ
  pub rest : List (List ℕ)

abbrev pub counted : List (List ℕ) → Option Waited
counted [] = None
counted (number ∷ rest) =
    cond (bytes_eq number (codes "0")) (Some (record { waits = Some 0; rest = rest }))
    (cond (bytes_eq number (codes "1")) (Some (record { waits = Some 1; rest = rest })) None)

abbrev pub waited : List (List ℕ) → Option Waited
waited [] = Some (record { waits = None; rest = [] })
waited (w ∷ ws) = cond (bytes_eq w (codes "--waits")) (counted ws) (Some (record { waits = None; rest = w ∷ ws }))

-- the name of the top, and the words behind it
pub record Topped : Type 0 where
  pub top : Option (List ℕ)
  pub rest : List (List ℕ)

abbrev pub named : List (List ℕ) → Option Topped
named [] = None
named (name ∷ rest) = cond (is_word name) (Some (record { top = Some name; rest = rest })) None

abbrev pub topped : List (List ℕ) → Option Topped
topped [] = Some (record { top = None; rest = [] })
topped (w ∷ ws) = cond (bytes_eq w (codes "--top")) (named ws) (Some (record { top = None; rest = w ∷ ws }))

abbrev pub is_file : List ℕ → Bool
is_file [] = false
is_file (b ∷ bs) = not (b == 45)

abbrev pub are_files : List (List ℕ) → Bool
are_files words = nat_le 1 (length words) && nat_le (length words) 64 && list_all is_file words

-- one file behind the name of a top
abbrev pub one_file : (Option (List ℕ) → List ℕ → Command) → Option Topped → Option Command
one_file f None = None
one_file f (Some t) = go t.rest
  where
    go : List (List ℕ) → Option Command
    go (source ∷ []) = cond (is_file source) (Some (f t.top source)) None
    go _ = None

-- two files behind the name of a top
abbrev pub file_pair : (Option (List ℕ) → List ℕ → List ℕ → Command) → Option Topped → Option Command
file_pair f None = None
file_pair f (Some t) = go t.rest
  where
    go : List (List ℕ) → Option Command
    go (source ∷ stimulus ∷ []) = cond (is_file source && is_file stimulus) (Some (f t.top source stimulus)) None
    go _ = None

-- what stands behind the wait states
abbrev pub compiled : Option Waited → Option Command
compiled None = None
compiled (Some w) = one_file (compile w.waits) (topped w.rest)

abbrev pub ran : Option Waited → Option Command
ran None = None
ran (Some w) = file_pair (run_of w.waits) (topped w.rest)

-- a source and a script
abbrev pub driven_by : (top : Option (List ℕ)) → List (List ℕ) → Option Command
driven_by top (source ∷ script ∷ []) = cond (is_file source && is_file script) (Some (drive_of top source script)) None
driven_by top _ = None

abbrev pub driven : Option Topped → Option Command
driven None = None
driven (Some t) = driven_by t.top t.rest

abbrev pub some_files : Option Topped → Option Command
some_files None = None
some_files (Some t) = cond (are_files t.rest) (Some (check t.top t.rest)) None

-- a module and a table
abbrev pub two_files : (List ℕ → List ℕ → Command) → List (List ℕ) → Option Command
two_files f (verilog ∷ stimulus ∷ []) = cond (is_file verilog && is_file stimulus) (Some (f verilog stimulus)) None
two_files f _ = None

-- a dump
abbrev pub one_dump : List (List ℕ) → Option Command
one_dump (waves ∷ []) = cond (is_file waves) (Some (pins_of waves)) None
one_dump _ = None

-- the word is the decimal of the number, which is 1 to 8,192
abbrev pub gives : List ℕ → ℕ → Bool
gives word n = nat_le 1 n && nat_le n 8192 && bytes_eq (decimal n) word

-- the number that a word gives
abbrev pub count_in : List ℕ → Option ℕ
count_in word = cond (gives word (digits_value 10 word)) (Some (digits_value 10 word)) None

abbrev pub some_gen : Option ℕ → Option Command
some_gen None = None
some_gen (Some n) = Some (gen_of n)

abbrev pub one_count : List (List ℕ) → Option Command
one_count (word ∷ []) = some_gen (count_in word)
one_count _ = None

abbrev pub found_in : List (List ℕ) → Option Command
found_in [] = None
found_in (name ∷ rest) =
    cond (bytes_eq name (codes "compile")) (compiled (waited rest))
    (cond (bytes_eq name (codes "map")) (one_file map_of (topped rest))
    (cond (bytes_eq name (codes "header")) (one_file header_of (topped rest))
    (cond (bytes_eq name (codes "manual")) (one_file manual_of (topped rest))
    (cond (bytes_eq name (codes "axi")) (one_file axi_of (topped rest))
    (cond (bytes_eq name (codes "check")) (some_files (topped rest))
    (cond (bytes_eq name (codes "sim")) (two_files sim rest)
    (cond (bytes_eq name (codes "vcd")) (two_files vcd rest)
    (cond (bytes_eq name (codes "pins")) (one_dump rest)
    (cond (bytes_eq name (codes "run")) (ran (waited rest))
    (cond (bytes_eq name (codes "drive")) (driven (topped rest))
    (cond (bytes_eq name (codes "gen")) (one_count rest) None)))))))))))
