-- What a shelf in memory holds, and how its calls of `read` go on.
use Rattle.std.specs.Prelude.{◌≡◌, ◌≢◌, ◌⊎◌, ℕ, ◌==◌, Bool, IsTrue, if◌then◌else◌, List, None, Some, is_some}
use Rattle.std.specs.List.{list_any}
use Rattle.rb_edge.specs.declared.mem_shelf.MemShelf.{MemShelf}
use Rattle.rb_edge.specs.Count.{raised}
use Rattle.rb_edge.specs.Shelf.{Files}
use Rattle.rb_edge.specs.Lookup.{lookup}

-- the files that the shelf holds
abbrev pub files_of : MemShelf → Files
files_of shelf = lookup shelf.files.items

-- how the calls of `read` went so far
pub record Course : Type 0 where
  -- the numbers, from 0, of the calls that are chosen to fail
  pub fails : List ℕ
  -- how many calls came, how many of these were chosen, and how many failed, chosen or not
  pub calls : ℕ
  pub chosen : ℕ
  pub failed : ℕ

-- the course of a shelf
abbrev pub course : MemShelf → Course
course shelf = record { fails = shelf.fails.items; calls = shelf.calls; chosen = shelf.chosen; failed = shelf.failed }

-- before the first call
abbrev pub start : List ℕ → Course
start fails = record { fails = fails; calls = 0; chosen = 0; failed = 0 }

-- the next call is chosen to fail
abbrev pub is_chosen : Course → Bool
is_chosen course = list_any (λ call. call == course.calls) course.fails

-- the next call fails at this name: it is chosen, or no file has the name
abbrev pub IsToFail : MemShelf → List ℕ → Type 0
IsToFail shelf name = IsTrue (is_chosen (course shelf)) ⊎ (files_of shelf name ≡ None)

-- one call more, which failed or not
pub record GoesOn (old new : Course) (failed : Bool) : Type 0 where
  pub same_fails : new.fails ≡ old.fails
  pub one_more : new.calls ≡ raised old.calls 1
  pub chosen_more : new.chosen ≡ (if is_chosen old then raised old.chosen 1 else old.chosen)
  pub failed_more : new.failed ≡ (if failed then raised old.failed 1 else old.failed)

-- the count of faults for a name: of a held name the chosen calls, and of any other all that failed
abbrev pub faults_of : MemShelf → List ℕ → ℕ
faults_of shelf name = if is_some (files_of shelf name) then (course shelf).chosen else (course shelf).failed

-- one file more
pub record Adds (old new : Files) (name bytes : List ℕ) : Type 0 where
  pub held : new name ≡ Some bytes
  pub others : (any : List ℕ) → any ≢ name → new any ≡ old any
