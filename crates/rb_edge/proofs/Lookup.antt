-- What is found in a list of files after one more is added.
use Rattle.std.proofs.Common.{◌≡◌, ℕ, true, List, [], ◌∷◌, ◌++◌, None, Some, refl, arith}
use Rattle.std.specs.Str.{bytes_eq}
use Rattle.std.specs.String.{string_bytes}
use Rattle.std.proofs.lemmas.Slice.Eq.{bytes_eq-Decides}
use Rattle.rb_edge.specs.declared.mem_shelf.File.{File}
use Rattle.rb_edge.specs.Lookup.{lookup}

bytes_eq_same : (xs : List ℕ) → bytes_eq xs xs ≡ true
bytes_eq_same xs = (bytes_eq-Decides xs xs).1 refl

pub lookup-push_same : (files : List File) (file : File) (name : List ℕ) → lookup files name ≡ None → string_bytes file.name ≡ name → lookup (files ++ file ∷ []) name ≡ Some file.bytes.items
lookup-push_same [] file name none same = grind (arith, bytes_eq_same name)
lookup-push_same (first ∷ files) file name none same = grind (arith, lookup-push_same files file name)

pub lookup-push_other : (files : List File) (file : File) (name : List ℕ) → (string_bytes file.name ≡ name → ⊥) → lookup (files ++ file ∷ []) name ≡ lookup files name
lookup-push_other [] file name other = grind (arith, bytes_eq-Decides (string_bytes file.name) name)
lookup-push_other (first ∷ files) file name other = grind (arith, lookup-push_other files file name other)
