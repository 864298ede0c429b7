-- What a shelf tells of its files, and what a read of one gives.
use Rattle.std.specs.Prelude.{◌≡◌, ◌↔◌, ℕ, ◌<◌, ◌≤◌, List, length, take, drop, ⊤, Option, None, Some}

-- the files of a shelf: the bytes of each name, and none where no file has the name
abbrev pub Files : Type 0
Files = List ℕ → Option (List ℕ)

-- the file of this name has these bytes, where the shelf tells
abbrev pub Holds : Option Files → List ℕ → List ℕ → Type 0
Holds None name bytes = ⊤
Holds (Some files) name bytes = files name ≡ Some bytes

-- the file of this name is longer than the limit, where the shelf tells
abbrev pub IsLonger : Option Files → List ℕ → ℕ → Type 0
IsLonger None name limit = ⊤
IsLonger (Some files) name limit = (bytes : List ℕ) × (files name ≡ Some bytes) × (limit < length bytes)

-- the first n bytes of a buffer are the file's at this place, and n is 0 in a buffer with room exactly at or past the file's end
pub record ReadsAt (files : Files) (name : List ℕ) (at : ℕ) (buffer : List ℕ) (n : ℕ) : Type 0 where
  pub bytes : List ℕ
  pub held : files name ≡ Some bytes
  pub read : take n buffer ≡ take n (drop at bytes)
  pub ended : 0 < length buffer → (n ≡ 0) ↔ (length bytes ≤ at)

-- the same, where the shelf tells
abbrev pub Reads : Option Files → List ℕ → ℕ → List ℕ → ℕ → Type 0
Reads None name at buffer n = ⊤
Reads (Some files) name at buffer n = ReadsAt files name at buffer n
