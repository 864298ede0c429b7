-- Files in a list.
use Rattle.std.specs.Prelude.{ℕ, if◌then◌else◌, List, [], ◌∷◌, Option, None, Some}
use Rattle.std.specs.Str.{bytes_eq}
use Rattle.std.specs.String.{string_bytes}
use Rattle.rb_edge.specs.declared.mem_shelf.File.{File}

-- the bytes of the first file of this name
abbrev pub lookup : List File → List ℕ → Option (List ℕ)
lookup [] name = None
lookup (file ∷ files) name = if bytes_eq (string_bytes file.name) name then Some file.bytes.items else lookup files name
